-- What `flags_after` leaves alone.
use Rattle.std.proofs.Common.{◌≡◌, ◌≢◌, ℕ, refl, ◌∙◌}
use Rattle.std.specs.Int.{bit_at, from_bool}
use Rattle.std.proofs.lemmas.Nat.Bits.{bit_at-lt}
use Rattle.mdl_num.specs.Flags.{put, flags_after}
use Rattle.mdl_num.specs.Products.{division_status}
use Rattle.mdl_num.specs.declared.status.Flag.{Flag}
use Rattle.mdl_num.specs.declared.status.Flag.TheVariants.{Tells, Undefined, Stays}
use Rattle.mdl_num.specs.declared.status.Status.{Status}
use Rattle.mdl_num.specs.declared.status.TheConstants.{CF, PF, AF, ZF, SF, OF}
use Rattle.mdl_num.proofs.Places.{bit_at-with_bit_other, from_bool-lt, with_bit-same}

bit_at-put_other : (k : ℕ) (f : Flag) (free n j : ℕ) → j ≢ k → bit_at (put k f free n) j ≡ bit_at n j
bit_at-put_other k (Tells b) free n j e = bit_at-with_bit_other n k (from_bool b) j (from_bool-lt b) e
bit_at-put_other k Undefined free n j e = bit_at-with_bit_other n k (bit_at free k) j (bit_at-lt free k) e
bit_at-put_other k Stays free n j e = refl

-- a bit that is no status flag is as it was
pub bit_at-flags_after : (s : Status) (old free j : ℕ) → j ≢ CF → j ≢ PF → j ≢ AF → j ≢ ZF → j ≢ SF → j ≢ OF
    → bit_at (flags_after s old free) j ≡ bit_at old j
unfolding flags_after
bit_at-flags_after s old free j c p a z n o =
    bit_at-put_other OF s.overflow free _ j o ∙ bit_at-put_other SF s.sign free _ j n ∙ bit_at-put_other ZF s.zero free _ j z
    ∙ bit_at-put_other AF s.adjust free _ j a ∙ bit_at-put_other PF s.parity free _ j p ∙ bit_at-put_other CF s.carry free _ j c

-- flags that stay as they were are among the answers after a division
pub flags_after-division : (old : ℕ) → flags_after division_status old old ≡ old
unfolding flags_after division_status
flags_after-division old = simp with_bit-same
