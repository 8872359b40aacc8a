-- Accesses with paging off.
use Rattle.std.specs.Prelude.{ℕ, ◌≡◌, ◌<◌, ◌≤◌, ◌+◌, ◌/◌, ◌%◌, ◌^◌, Bool, true, false, not, if◌then◌else◌, refl, List, [], Option, Some, None, IfSome}
use Rattle.std.proofs.Common.{arith, ap, sym, subst, ◌∙◌}
use Rattle.mdl_state.specs.declared.Size.{Size}
use Rattle.mdl_state.specs.declared.Size.TheVariants.{B1, B2, B4}
use Rattle.mdl_state.specs.declared.Who.{Who}
use Rattle.mdl_state.specs.declared.Access.{Access}
use Rattle.mdl_state.specs.declared.Access.TheVariants.{Read, Write}
use Rattle.mdl_state.specs.declared.Place.{Place}
use Rattle.mdl_state.specs.State.{Mem, Physical}
use Rattle.mdl_state.specs.Bytes.{bytes_of}
use Rattle.mdl_state.specs.Memory.{byte_at}
use Rattle.mdl_state.specs.declared.Watch.{Watch}
use Rattle.mdl_state.specs.Watches.{hits_after, noted}
use Rattle.mdl_state.specs.Serving.{Outcome, Serve, Passed, on}
use Rattle.mdl_state.specs.Accesses.{translated, got, got_from, seen_byte, byte_place, held_at, read_at, written_at, bytes_here}
use Rattle.mem_iface.specs.Numbers.{loaded}
use Rattle.tlb.specs.Direct.{IsDirect}
use Rattle.tlb.proofs.Holding.{whole_got}

here : (lin : ℕ) (size : Size) → lin % 0x1000 + 4 ≤ 0x1000 → bytes_here lin size ≡ bytes_of size
here lin B1 h = omega (arith, h)
here lin B2 h = omega (arith, h)
here lin B4 h = omega (arith, h)

first : {R : Type 0} (b : Bool) (x y : R) → b ≡ false → (if not b then x else y) ≡ x
first false x y h = refl
first true x y h = cc

none_more : (lin : ℕ) → lin + 0 ≡ lin
none_more lin = omega arith

-- with paging off an access lies where its address says
unpaged : Mem → ℕ → Size → Place
unpaged m lin size = record { first = lin; second = (lin + bytes_here lin size) % 2 ^ 32; cut = bytes_here lin size }

-- where nothing is watched, nothing is noted
pub noted_none : (m : Mem) (lin : ℕ) (size : Size) (access : Access) → m.watch ≡ [] → noted m lin size access ≡ m
noted_none m lin size access none = ap (λ (ws : List Watch). record m { hits = hits_after ws lin size access m.hits }) none

translated_off : (serve : Serve) (m : Mem) (lin : ℕ) (size : Size) (access : Access) → m.paging ≡ false → m.watch ≡ [] → translated serve m lin size access ≡ (Passed (unpaged m lin size), m)
unfolding translated unpaged
translated_off serve m lin size access off none = first m.paging _ _ off ∙ ap (λ (n : Mem). (Passed (unpaged m lin size), n)) (noted_none m lin size access none)

read_here : (serve : Serve) (m : Mem) (lin : ℕ) (size : Size) (who : Who) (value : ℕ) → m.paging ≡ false → m.watch ≡ [] → m.held ≡ [] → bytes_here lin size ≡ bytes_of size → value ≡ loaded m.physical lin size → (Passed value, m) ≡ read_at serve m lin size who
unfolding read_at unpaged
read_here serve m lin size who value off clear none whole v =
    ap (λ (n : ℕ). (Passed n, m)) (v ∙ sym (whole_got m.physical (unpaged m lin size) size whole)
    ∙ ap (λ (held : List (ℕ × ℕ)). got_from m.physical held (unpaged m lin size) size) (sym none))
    ∙ sym (ap (λ (w : Outcome Place × Mem). on w (λ place n. (Passed (got n place size), n))) (translated_off serve m lin size (Read who) off clear))

pub direct_read : (serve : Serve) (m : Mem) (lin : ℕ) (size : Size) (who : Who) (value : ℕ) → m.paging ≡ false → m.watch ≡ [] → m.held ≡ [] → lin % 0x1000 + 4 ≤ 0x1000 → value ≡ loaded m.physical lin size → (Passed value, m) ≡ read_at serve m lin size who
direct_read serve m lin size who value off clear none page v = read_here serve m lin size who value off clear none (here lin size page) v

-- a byte of an access of conventional memory stands so far from its address, on either page
in_place : (m : Mem) (lin n : ℕ) (size : Size) → lin + 8 ≤ 0xA0000 → n < bytes_of size → byte_place (unpaged m lin size) n ≡ lin + n
unfolding unpaged
in_place m lin n B1 low below = grind (arith, low, below)
in_place m lin n B2 low below = grind (arith, low, below)
in_place m lin n B4 low below = grind (arith, low, below)

low_got : (m : Mem) (p : Physical) (lin : ℕ) (size : Size) → lin + 8 ≤ 0xA0000 → got_from p [] (unpaged m lin size) size ≡ loaded p lin size
unfolding got_from loaded seen_byte
low_got m p lin B1 low = ap (byte_at p) (in_place m lin 0 B1 low (omega arith) ∙ omega arith)
low_got m p lin B2 low = rw (in_place m lin 0 B2 low (omega arith)) (rw (in_place m lin 1 B2 low (omega arith)) (rw (none_more lin) refl))
low_got m p lin B4 low = rw (in_place m lin 0 B4 low (omega arith)) (rw (in_place m lin 1 B4 low (omega arith)) (rw (in_place m lin 2 B4 low (omega arith)) (rw (in_place m lin 3 B4 low (omega arith)) (rw (none_more lin) refl))))

pub low_read : (serve : Serve) (m : Mem) (lin : ℕ) (size : Size) (who : Who) (value : ℕ) → m.paging ≡ false → m.watch ≡ [] → m.held ≡ [] → lin + 8 ≤ 0xA0000 → value ≡ loaded m.physical lin size → (Passed value, m) ≡ read_at serve m lin size who
unfolding read_at
low_read serve m lin size who value off clear none low v =
    ap (λ (n : ℕ). (Passed n, m)) (v ∙ sym (low_got m m.physical lin size low)
    ∙ ap (λ (held : List (ℕ × ℕ)). got_from m.physical held (unpaged m lin size) size) (sym none))
    ∙ sym (ap (λ (w : Outcome Place × Mem). on w (λ place n. (Passed (got n place size), n))) (translated_off serve m lin size (Read who) off clear))

-- what holds below the address up to which an access is of conventional memory as it stands
pub direct_off : (direct at : ℕ) (paging : Bool) (held : List (ℕ × ℕ)) → IsDirect direct paging held → at < direct → paging ≡ false
direct_off direct at paging held is below = is.unpaged (omega (arith, below))

pub direct_none : (direct at : ℕ) (paging : Bool) (held : List (ℕ × ℕ)) → IsDirect direct paging held → at < direct → held ≡ []
direct_none direct at paging held is below = is.empty (omega (arith, below))

pub direct_low : (direct at : ℕ) (paging : Bool) (held : List (ℕ × ℕ)) → IsDirect direct paging held → at < direct → at + 8 ≤ 0xA0000
direct_low direct at paging held is below = omega (arith, is.low, below)

pub nothing_held : (direct : ℕ) (paging : Bool) (held : List (ℕ × ℕ)) → IsDirect direct paging held → (direct ≡ 0 → ⊥) → held ≡ []
nothing_held direct paging held is some = is.empty (omega (arith, some))

-- eight bytes of physical memory are those that are read
pub near_read : (serve : Serve) (m : Mem) (lin : ℕ) (who : Who) (word : ℕ) → m.paging ≡ false → m.watch ≡ [] → m.held ≡ [] → lin + 8 ≤ 2 ^ 32
    → ((i : ℕ) → i < 8 → byte_at m.physical (lin + i) ≡ word / 256 ^ i % 256) → (i : ℕ) → i < 8 → (Passed (word / 256 ^ i % 256), m) ≡ read_at serve m ((lin + i) % 2 ^ 32) B1 who
unfolding loaded
near_read serve m lin who word off clear none low bytes i small =
    let same : (lin + i) % 2 ^ 32 ≡ lin + i = omega (arith, low, small) in
    subst (λ (at : ℕ). (Passed (word / 256 ^ i % 256), m) ≡ read_at serve m at B1 who) (sym same)
    (read_here serve m (lin + i) B1 who (word / 256 ^ i % 256) off clear none (omega arith) (sym (bytes i small)))

-- and so are eight bytes that are found, if they are
pub ahead_read : (serve : Serve) (m : Mem) (p : Physical) (lin : ℕ) (found : Option ℕ) → m.paging ≡ false → m.watch ≡ [] → m.held ≡ [] → m.physical ≡ p → IfSome found (λ word. lin + 8 ≤ 2 ^ 32)
    → IfSome found (λ word. (i : ℕ) → i < 8 → byte_at p (lin + i) ≡ word / 256 ^ i % 256) → IfSome found (λ word. (who : Who) (i : ℕ) → i < 8 → (Passed (word / 256 ^ i % 256), m) ≡ read_at serve m ((lin + i) % 2 ^ 32) B1 who)
ahead_read serve m p lin (Some word) off clear none is within bytes = λ who. near_read serve m lin who word off clear none within (λ i small. ap (λ (q : Physical). byte_at q (lin + i)) is ∙ bytes i small)
ahead_read serve m p lin None off clear none is within bytes = tt

pub direct_write : (serve : Serve) (m : Mem) (lin : ℕ) (size : Size) (value : ℕ) (who : Who) (place : Place) → m.paging ≡ false → m.watch ≡ [] → place ≡ record { first = lin; second = (lin + bytes_here lin size) % 2 ^ 32; cut = bytes_here lin size } → (Passed tt, held_at m place size value) ≡ written_at serve m lin size value who
unfolding written_at unpaged
direct_write serve m lin size value who place off clear e =
    ap (λ (p : Place). (Passed tt, held_at m p size value)) e
    ∙ sym (ap (λ (w : Outcome Place × Mem). on w (λ place n. (Passed tt, held_at n place size value))) (translated_off serve m lin size (Write who) off clear))
