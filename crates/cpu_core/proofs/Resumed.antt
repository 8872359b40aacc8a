-- RF stands beside the kept status flags.
use Rattle.std.proofs.Common.{◌≡◌, ◌≢◌, ℕ, ◌<◌, Bool, true, false, inl, inr, refl, sym, ◌∙◌, ap, arith}
use Rattle.std.specs.Int.{bit_at, from_bool}
use Rattle.std.proofs.lemmas.Bool.{cases_eq}
use Rattle.std.proofs.lemmas.Nat.Bits.{same_from_bits, bit_at-lt}
use Rattle.mdl_state.specs.declared.Regs.{Regs}
use Rattle.mdl_state.specs.declared.Next.{Next}
use Rattle.mdl_state.specs.Bytes.{bit}
use Rattle.mdl_num.specs.Flags.{is_set, with_bit}
use Rattle.mdl_num.specs.declared.status.TheConstants.{CF, PF, AF, ZF, SF, OF}
use Rattle.mdl_num.proofs.Places.{bit_at-with_bit, bit_at-with_bit_other, with_bit-same, from_bool-lt}
use Rattle.mdl_cpu.specs.SystemFlags.{RF}
use Rattle.mdl_insn.specs.declared.mnemonics.Op.{Op}
use Rattle.mdl_step.specs.Step.{keeps_resume, resumed}
use Rattle.lazy_flags.specs.Keeper.{copied, with_status}
use Rattle.operands.specs.Whole.{whole}

-- bits of two places are set in either order
swapped : (n j b k c : ℕ) → b < 2 → c < 2 → j ≢ k → with_bit (with_bit n j b) k c ≡ with_bit (with_bit n k c) j b
swapped n j b k c small least apart = same_from_bits _ _ (λ i.
    elim (cases_eq i k) [
      | inl e ↦ rw e (bit_at-with_bit (with_bit n j b) k c least
          ∙ sym (bit_at-with_bit_other (with_bit n k c) j b k small (λ f. apart (sym f)) ∙ bit_at-with_bit n k c least))
      | inr other ↦
          elim (cases_eq i j) [
            | inl e ↦ rw e (bit_at-with_bit_other (with_bit n j b) k c j least apart ∙ bit_at-with_bit n j b small
                ∙ sym (bit_at-with_bit (with_bit n k c) j b small))
            | inr third ↦ bit_at-with_bit_other (with_bit n j b) k c i least other ∙ bit_at-with_bit_other n j b i small third
                ∙ sym (bit_at-with_bit_other (with_bit n k c) j b i small third ∙ bit_at-with_bit_other n k c i least other)
          ]
    ])

past : (k F e : ℕ) → RF ≢ k → copied k F (with_bit e RF 0) ≡ with_bit (copied k F e) RF 0
past k F e apart = swapped e RF 0 k (from_bool (is_set F k)) (omega arith) (from_bool-lt (is_set F k)) apart

resume : (e F : ℕ) → with_status (with_bit e RF 0) F ≡ with_bit (with_status e F) RF 0
unfolding with_status
resume e F =
    ap (λ x. copied OF F (copied SF F (copied ZF F (copied AF F (copied PF F x))))) (past CF F e (omega arith))
    ∙ ap (λ x. copied OF F (copied SF F (copied ZF F (copied AF F x)))) (past PF F _ (omega arith))
    ∙ ap (λ x. copied OF F (copied SF F (copied ZF F x))) (past AF F _ (omega arith))
    ∙ ap (λ x. copied OF F (copied SF F x)) (past ZF F _ (omega arith))
    ∙ ap (λ x. copied OF F x) (past SF F _ (omega arith))
    ∙ past OF F _ (omega arith)

pub kept : (r : Regs) (op : Op) (after : Next) → keeps_resume op after ≡ true → resumed op after r ≡ r
kept r op after e = rw e refl

pub cleared : (r : Regs) (op : Op) (after : Next) (F : ℕ) → keeps_resume op after ≡ false → whole (record r { eflags = with_bit r.eflags RF 0 }) F ≡ resumed op after (whole r F)
cleared r op after F e = rw e (ap (λ (x : ℕ). record r { eflags = x }) (resume r.eflags F))

-- where RF is 0 there is nothing to clear
zero : (e : ℕ) → bit e RF ≡ false → bit_at e RF ≡ 0
zero e h = let small : bit_at e RF < 2 = bit_at-lt e RF in elim (cases_eq (bit_at e RF) 1) [
  | inl one ↦ cc
  | inr other ↦ omega (arith, small, other)
]

same : (e : ℕ) → bit e RF ≡ false → with_bit e RF 0 ≡ e
same e h = ap (with_bit e RF) (sym (zero e h)) ∙ with_bit-same e RF

already_by : (r : Regs) (op : Op) (after : Next) (F : ℕ) (keeps : Bool) → keeps_resume op after ≡ keeps → bit r.eflags RF ≡ false → whole r F ≡ resumed op after (whole r F)
already_by r op after F true e h = sym (kept (whole r F) op after e)
already_by r op after F false e h = ap (λ (x : ℕ). whole (record r { eflags = x }) F) (sym (same r.eflags h)) ∙ cleared r op after F e

pub already : (r : Regs) (op : Op) (after : Next) (F : ℕ) → bit r.eflags RF ≡ false → whole r F ≡ resumed op after (whole r F)
already r op after F h = already_by r op after F (keeps_resume op after) refl h

pub ruleset resumes = (kept, cleared, already)
