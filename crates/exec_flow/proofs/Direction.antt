-- A bit that is no status flag's, set beside the kept flags.
use Rattle.std.proofs.Common.{◌≡◌, ◌≢◌, ℕ, ◌<◌, Bool, inl, inr, sym, ◌∙◌, ap, arith}
use Rattle.std.specs.Int.{bit_at, from_bool}
use Rattle.std.proofs.lemmas.Bool.{cases_eq}
use Rattle.std.proofs.lemmas.Nat.Bits.{same_from_bits}
use Rattle.mdl_num.specs.Flags.{is_set, with_bit}
use Rattle.mdl_num.specs.declared.status.TheConstants.{CF, PF, AF, ZF, SF, OF}
use Rattle.mdl_num.proofs.Places.{bit_at-with_bit, bit_at-with_bit_other, from_bool-lt}
use Rattle.lazy_flags.specs.Keeper.{copied, with_status}
use Rattle.mdl_effect.specs.Operands.{DF}

-- bits of two places are set in either order
swapped : (n j b k c : ℕ) → b < 2 → c < 2 → j ≢ k → with_bit (with_bit n j b) k c ≡ with_bit (with_bit n k c) j b
swapped n j b k c small least apart = same_from_bits _ _ (λ i.
    elim (cases_eq i k) [
      | inl e ↦ rw e (bit_at-with_bit (with_bit n j b) k c least
          ∙ sym (bit_at-with_bit_other (with_bit n k c) j b k small (λ f. apart (sym f)) ∙ bit_at-with_bit n k c least))
      | inr other ↦
          elim (cases_eq i j) [
            | inl e ↦ rw e (bit_at-with_bit_other (with_bit n j b) k c j least apart ∙ bit_at-with_bit n j b small
                ∙ sym (bit_at-with_bit (with_bit n k c) j b small))
            | inr third ↦ bit_at-with_bit_other (with_bit n j b) k c i least other ∙ bit_at-with_bit_other n j b i small third
                ∙ sym (bit_at-with_bit_other (with_bit n k c) j b i small third ∙ bit_at-with_bit_other n k c i least other)
          ]
    ])

past : (k F e b : ℕ) → b < 2 → DF ≢ k → copied k F (with_bit e DF b) ≡ with_bit (copied k F e) DF b
past k F e b small apart = swapped e DF b k (from_bool (is_set F k)) small (from_bool-lt (is_set F k)) apart

-- DF stands beside the kept flags
pub direction : (e F : ℕ) (on : Bool) → with_status (with_bit e DF (from_bool on)) F ≡ with_bit (with_status e F) DF (from_bool on)
unfolding with_status
direction e F on =
    let b = from_bool on in
    let small = from_bool-lt on in
    ap (λ x. copied OF F (copied SF F (copied ZF F (copied AF F (copied PF F x))))) (past CF F e b small (omega arith))
    ∙ ap (λ x. copied OF F (copied SF F (copied ZF F (copied AF F x)))) (past PF F _ b small (omega arith))
    ∙ ap (λ x. copied OF F (copied SF F (copied ZF F x))) (past AF F _ b small (omega arith))
    ∙ ap (λ x. copied OF F (copied SF F x)) (past ZF F _ b small (omega arith))
    ∙ ap (λ x. copied OF F x) (past SF F _ b small (omega arith))
    ∙ past OF F _ b small (omega arith)
