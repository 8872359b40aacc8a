-- MOV by its operands.
use Rattle.std.proofs.Common.{◌≡◌, ◌≢◌, ℕ, ◌&&◌, refl, Bool, true, false}
use Rattle.std.specs.Prelude.{not, ◌||◌}
use Rattle.std.proofs.lemmas.Bool.{false≢true}
use Rattle.mdl_state.specs.declared.Size.{Size}
use Rattle.mdl_state.specs.declared.Size.TheVariants.{B1, B2}
use Rattle.mdl_state.specs.declared.Seg.{Seg}
use Rattle.mdl_insn.specs.declared.instruction.Operand.{Operand}
use Rattle.mdl_insn.specs.declared.instruction.Operand.TheVariants.{Sreg, Creg, Dreg}
use Rattle.mdl_state.specs.declared.Regs.{Regs}
use Rattle.mdl_insn.specs.declared.instruction.Insn.{Insn}
use Rattle.mdl_insn.specs.declared.mnemonics.Op.{Op}
use Rattle.mdl_insn.specs.declared.mnemonics.Op.TheVariants as ops
use Rattle.mdl_effect.specs.Operands.{is_plain, is_segment}
use Rattle.mdl_effect.specs.Kinds.{is_place, is_value}
use Rattle.mdl_effect.specs.Moves.{mov_plan}
use Rattle.mdl_effect.specs.DataEffects.{is_data, is_address, is_special, is_segment_pop, runs_data, is_plain_data, by_mnemonic, data_effect}
use Rattle.mdl_effect.specs.Forms.{IsOf, IsMove, IsFormedAs}
use Rattle.exec_data.specs.Places.{is_placed}
use Rattle.exec_data.specs.Reads.{is_move}

pub move_data : (op : Op) → is_move op ≡ true → is_data op ≡ true
move_data ops.Mov e = refl
move_data _ e = absurd cc

of_move : (op : Op) (insn : Insn) → is_move op ≡ true → IsFormedAs op insn → IsMove insn.a insn.b insn.size
of_move ops.Mov insn e f = f.0
of_move _ insn e f = absurd cc

pub move_form : (insn : Insn) → is_move insn.op ≡ true → IsFormedAs insn.op insn → IsMove insn.a insn.b insn.size
move_form insn e f = of_move insn.op insn e f

by_move : (op : Op) (insn : Insn) (r : Regs) (free : ℕ) → is_move op ≡ true → by_mnemonic op insn r free ≡ mov_plan insn r
by_move ops.Mov insn r free e = refl
by_move _ insn r free e = absurd cc

pub move_effect : (insn : Insn) (r : Regs) (free : ℕ) → is_move insn.op ≡ true → data_effect insn r free ≡ mov_plan insn r
unfolding data_effect
move_effect insn r free e = by_move insn.op insn r free e

not_both : (x a b c rest : Bool) → x ≡ true → (c && rest) ≡ true → (x && a && b && c) ≡ false → (a && b) ≡ false
not_both true true true true rest d p e = e
not_both true true true false rest d p e = absurd cc
not_both true true false c rest d p e = refl
not_both true false b c rest d p e = refl
not_both false a b c rest d p e = absurd cc

pub move_memory : (insn : Insn) → is_data insn.op ≡ true → is_placed insn ≡ true → is_plain_data insn ≡ false → (is_plain insn.a && is_plain insn.b) ≡ false
move_memory insn d p e = not_both (is_data insn.op) (is_plain insn.a) (is_plain insn.b) (is_plain insn.c) _ d p e

ordinary : (op : Op) (x y z w : Bool) → is_move op ≡ true → ((is_data op && not x && not y) || z || w) ≡ true → z ≡ false → w ≡ false → (x ≡ false) × (y ≡ false)
ordinary ops.Mov true y z w e h p q = absurd (false≢true (rw (p, q) at h))
ordinary ops.Mov false true z w e h p q = absurd (false≢true (rw (p, q) at h))
ordinary ops.Mov false false z w e h p q = (refl, refl)
ordinary _ x y z w e h p q = absurd cc

no_address : (op : Op) → is_move op ≡ true → is_address op ≡ false
no_address ops.Mov e = refl
no_address _ e = absurd cc

no_pop : (op : Op) (a : Operand) → is_move op ≡ true → is_segment_pop op a ≡ false
no_pop ops.Mov a e = refl
no_pop _ a e = absurd cc

-- a MOV that is a data instruction has no control or debug register
pub move_ordinary : (insn : Insn) → is_move insn.op ≡ true → runs_data insn ≡ true → (is_special insn.a ≡ false) × (is_special insn.b ≡ false)
move_ordinary insn e runs = ordinary insn.op (is_special insn.a) (is_special insn.b) (is_address insn.op) (is_segment_pop insn.op insn.a) e runs
    (no_address insn.op e) (no_pop insn.op insn.a e)

pub ordinary_first : (insn : Insn) → is_move insn.op ≡ true → runs_data insn ≡ true → is_special insn.a ≡ false
ordinary_first insn e runs = (move_ordinary insn e runs).0

pub ordinary_second : (insn : Insn) → is_move insn.op ≡ true → runs_data insn ≡ true → is_special insn.b ≡ false
ordinary_second insn e runs = (move_ordinary insn e runs).1

-- a MOV from a segment register
pub stored : (a : Operand) (seg : Seg) (size : Size) → is_segment a ≡ false → is_special a ≡ false → IsMove a (Sreg seg) size → (size ≢ B1) × (is_place a ≡ true) × IsOf B2 a
stored (Sreg other) seg size s x m = absurd cc
stored (Creg n) seg size s x m = absurd cc
stored (Dreg n) seg size s x m = absurd cc
stored _ seg size s x m = m

-- a MOV of neither
pub general : (a b : Operand) (size : Size) → is_segment a ≡ false → is_special a ≡ false → is_segment b ≡ false → is_special b ≡ false → IsMove a b size
    → ((is_place a ≡ true) × IsOf size a) × ((is_value b ≡ true) × IsOf size b) × ((is_plain a || is_plain b) ≡ true)
general (Sreg seg) b size s x t y m = absurd cc
general (Creg n) b size s x t y m = absurd cc
general (Dreg n) b size s x t y m = absurd cc
general a (Sreg seg) size s x t y m = absurd cc
general a (Creg n) size s x t y m = absurd cc
general a (Dreg n) size s x t y m = absurd cc
general _ _ size s x t y m = m

pub ruleset operands_of_moves = (stored, general)

pub ruleset moves = (move_data, move_form, move_effect, move_memory, ordinary_first, ordinary_second)
