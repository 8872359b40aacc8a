-- Which operands of a data instruction may be memory, as the opcode rows give them.
use Rattle.std.proofs.Common.{◌≡◌, ℕ, ◌&&◌, Bool, true, false, List, refl, sym, subst}
use Rattle.std.specs.Prelude.{not, ◌||◌}
use Rattle.std.proofs.lemmas.Bool.{false≢true}
use Rattle.mdl_state.specs.Bytes.{little}
use Rattle.mdl_insn.specs.declared.instruction.Insn.{Insn}
use Rattle.mdl_insn.specs.declared.instruction.Operand.{Operand}
use Rattle.mdl_insn.specs.declared.instruction.Operand.TheVariants.{Nothing}
use Rattle.mdl_insn.specs.declared.mnemonics.Op.{Op}
use Rattle.mdl_insn.specs.declared.mnemonics.Op.TheVariants as ops
use Rattle.mdl_insn.specs.declared.rows.Setting.{Setting}
use Rattle.mdl_insn.specs.declared.rows.Form.{Form}
use Rattle.mdl_insn.specs.declared.rows.Form.TheVariants.{No, Gb, Gv, Gw, Ib, Iv, Iw, Is, Rb, Rv, Al, Ax, Cl, Dx, Once}
use Rattle.mdl_insn.specs.declared.rows.Row.{Row}
use Rattle.mdl_insn.specs.Operands.{operand, Place, place}
use Rattle.mdl_insn.specs.Prefixes.{setting}
use Rattle.mdl_insn.specs.Spelling.{insn_of, opcode_last, SpeltRow, Spelt}
use Rattle.mdl_effect.specs.DataEffects.{is_data}
use Rattle.mdl_effect.specs.Operands.{is_plain, is_nothing}
use Rattle.mdl_effect.specs.DataEffects.{is_plain_data}
use Rattle.mdl_effect.proofs.RowTests.{row_tested}
use Rattle.exec_data.specs.Places.{placed, is_placed}
use Rattle.exec_data.specs.Reads.{reads_second, is_move}

-- ---- the test of a row

-- a register, a number or nothing, whatever the ModRM byte
abbrev is_plain_form : Form → Bool
is_plain_form No = true
is_plain_form Gb = true
is_plain_form Gv = true
is_plain_form Gw = true
is_plain_form Ib = true
is_plain_form Iv = true
is_plain_form Iw = true
is_plain_form Is = true
is_plain_form Rb = true
is_plain_form Rv = true
is_plain_form Al = true
is_plain_form Ax = true
is_plain_form Cl = true
is_plain_form Dx = true
is_plain_form Once = true
is_plain_form _ = false

abbrev is_no : Form → Bool
is_no No = true
is_no _ = false

-- the forms are placed as the mnemonic asks
abbrev is_placed_row : Row → Bool
is_placed_row r = not (is_data r.op) || (is_plain_form r.c && placed r.op (is_plain_form r.a) (is_plain_form r.b) (is_no r.b))

row_placed : {bytes : List ℕ} {big : Bool} {insn : Insn} (h : Spelt bytes big insn) → is_placed_row h.row.row ≡ true
row_placed h = row_tested is_placed_row refl refl refl _ _ _ h

-- ---- forms and operands

plain_operand : (s : Setting) (p : Place) (f : Form) (x : ℕ) → is_plain_form f ≡ true → is_plain (operand s p f x) ≡ true
plain_operand s p No x e = refl
plain_operand s p Gb x e = refl
plain_operand s p Gv x e = refl
plain_operand s p Gw x e = refl
plain_operand s p Ib x e = refl
plain_operand s p Iv x e = refl
plain_operand s p Iw x e = refl
plain_operand s p Is x e = refl
plain_operand s p Rb x e = refl
plain_operand s p Rv x e = refl
plain_operand s p Al x e = refl
plain_operand s p Ax x e = refl
plain_operand s p Cl x e = refl
plain_operand s p Dx x e = refl
plain_operand s p Once x e = refl
plain_operand s p _ x e = absurd cc

no_operand : (s : Setting) (p : Place) (f : Form) (x : ℕ) → is_no f ≡ true → is_nothing (operand s p f x) ≡ true
no_operand s p No x e = refl
no_operand s p _ x e = absurd cc

-- ---- the instruction

implied : (a b : Bool) → (not a || b) ≡ true → a ≡ true → b ≡ true
implied true b e h = e
implied false b e h = absurd cc

both : (a b : Bool) → (a && b) ≡ true → (a ≡ true) × (b ≡ true)
both true b e = (refl, e)
both false b e = absurd cc

either_more : (x y x' y' : Bool) → (x ≡ true → x' ≡ true) → (y ≡ true → y' ≡ true) → (x || y) ≡ true → (x' || y') ≡ true
either_more true y true y' f g e = refl
either_more true y false y' f g e = absurd (false≢true (f refl))
either_more false y true y' f g e = refl
either_more false y false y' f g e = g e

both_more : (x y x' y' : Bool) → (x ≡ true → x' ≡ true) → (y ≡ true → y' ≡ true) → (x && y) ≡ true → (x' && y') ≡ true
both_more true true true true f g e = refl
both_more true true true false f g e = g refl
both_more true true false y' f g e = f refl
both_more true false x' y' f g e = absurd cc
both_more false y x' y' f g e = absurd cc

-- what is placed by forms is placed by operands
placed_more : (op : Op) (x y z x' y' z' : Bool) → (x ≡ true → x' ≡ true) → (y ≡ true → y' ≡ true) → (z ≡ true → z' ≡ true)
    → placed op x y z ≡ true → placed op x' y' z' ≡ true
placed_more ops.Mov x y z x' y' z' f g h e = refl
placed_more ops.Movzx x y z x' y' z' f g h e = f e
placed_more ops.Movsx x y z x' y' z' f g h e = f e
placed_more ops.Bsf x y z x' y' z' f g h e = f e
placed_more ops.Bsr x y z x' y' z' f g h e = f e
placed_more ops.Imul x y z x' y' z' f g h e = either_more x z x' z' f h e
placed_more ops.Add x y z x' y' z' f g h e = either_more x y x' y' f g e
placed_more ops.Or x y z x' y' z' f g h e = either_more x y x' y' f g e
placed_more ops.Adc x y z x' y' z' f g h e = either_more x y x' y' f g e
placed_more ops.Sbb x y z x' y' z' f g h e = either_more x y x' y' f g e
placed_more ops.And x y z x' y' z' f g h e = either_more x y x' y' f g e
placed_more ops.Sub x y z x' y' z' f g h e = either_more x y x' y' f g e
placed_more ops.Xor x y z x' y' z' f g h e = either_more x y x' y' f g e
placed_more ops.Cmp x y z x' y' z' f g h e = either_more x y x' y' f g e
placed_more ops.Test x y z x' y' z' f g h e = either_more x y x' y' f g e
placed_more ops.Cbw x y z x' y' z' f g h e = both_more x y x' y' f g e
placed_more ops.Cwd x y z x' y' z' f g h e = both_more x y x' y' f g e
placed_more ops.Daa x y z x' y' z' f g h e = both_more x y x' y' f g e
placed_more ops.Das x y z x' y' z' f g h e = both_more x y x' y' f g e
placed_more ops.Aaa x y z x' y' z' f g h e = both_more x y x' y' f g e
placed_more ops.Aas x y z x' y' z' f g h e = both_more x y x' y' f g e
placed_more ops.Aam x y z x' y' z' f g h e = both_more x y x' y' f g e
placed_more ops.Aad x y z x' y' z' f g h e = both_more x y x' y' f g e
placed_more _ x y z x' y' z' f g h e = g e

-- the row of a data instruction, and its instruction
abbrev IsPlacedInsn : Insn → Type 0
IsPlacedInsn insn = is_data insn.op ≡ true → is_placed insn ≡ true

row_insn : (s : Setting) (r : Row) (p : Place) (x y z : ℕ) → is_placed_row r ≡ true → IsPlacedInsn (insn_of s r p x y z)
row_insn s r p x y z e built =
    let sides : Bool = placed r.op (is_plain_form r.a) (is_plain_form r.b) (is_no r.b) in
    both_more (is_plain_form r.c) sides (is_plain (operand s p r.c z)) (placed r.op (is_plain (operand s p r.a x)) (is_plain (operand s p r.b y)) (is_nothing (operand s p r.b y)))
    (plain_operand s p r.c z)
    (placed_more r.op (is_plain_form r.a) (is_plain_form r.b) (is_no r.b) (is_plain (operand s p r.a x)) (is_plain (operand s p r.b y)) (is_nothing (operand s p r.b y))
    (plain_operand s p r.a x) (plain_operand s p r.b y) (no_operand s p r.b y))
    (implied (is_data r.op) (is_plain_form r.c && sides) e built)

pub spelt_placed : (bytes : List ℕ) (big : Bool) (insn : Insn) → Spelt bytes big insn → IsPlacedInsn insn
spelt_placed bytes big insn h =
    let s : Setting = setting big h.prefixes in
    let q : SpeltRow s h.rest insn = h.row in
    subst IsPlacedInsn (sym q.insn_is)
    (row_insn s q.row (place s (little (opcode_last q.opcode)) (little q.modrm) (little q.sib) (little q.disp)) (little q.x) (little q.y) (little q.z) (row_placed h))

-- ---- what is placed, by the operand that is memory

pub placed_third : (insn : Insn) → is_placed insn ≡ true → is_plain insn.c ≡ true
placed_third insn e = (both (is_plain insn.c) _ e).0

or_false : (x : Bool) → (x || false) ≡ true → x ≡ true
or_false true e = refl
or_false false e = e

and_false : (x : Bool) → (x && false) ≡ true → ⊥
and_false true e = absurd cc
and_false false e = absurd cc

second_of : (op : Op) (x : Bool) → is_data op ≡ true → is_move op ≡ false → placed op x false false ≡ true → (reads_second op ≡ true) × (x ≡ true)
second_of ops.Movzx x d o e = (refl, e)
second_of ops.Movsx x d o e = (refl, e)
second_of ops.Bsf x d o e = (refl, e)
second_of ops.Bsr x d o e = (refl, e)
second_of ops.Imul x d o e = (refl, or_false x e)
second_of ops.Add x d o e = (refl, or_false x e)
second_of ops.Or x d o e = (refl, or_false x e)
second_of ops.Adc x d o e = (refl, or_false x e)
second_of ops.Sbb x d o e = (refl, or_false x e)
second_of ops.And x d o e = (refl, or_false x e)
second_of ops.Sub x d o e = (refl, or_false x e)
second_of ops.Xor x d o e = (refl, or_false x e)
second_of ops.Cmp x d o e = (refl, or_false x e)
second_of ops.Test x d o e = (refl, or_false x e)
second_of ops.Cbw x d o e = absurd (and_false x e)
second_of ops.Cwd x d o e = absurd (and_false x e)
second_of ops.Daa x d o e = absurd (and_false x e)
second_of ops.Das x d o e = absurd (and_false x e)
second_of ops.Aaa x d o e = absurd (and_false x e)
second_of ops.Aas x d o e = absurd (and_false x e)
second_of ops.Aam x d o e = absurd (and_false x e)
second_of ops.Aad x d o e = absurd (and_false x e)
second_of _ x d o e = absurd cc

pub not_nothing : (b : Operand) → is_plain b ≡ false → is_nothing b ≡ false
not_nothing Nothing e = absurd cc
not_nothing _ e = refl

placed_beside : (insn : Insn) → is_placed insn ≡ true → is_plain insn.b ≡ false → placed insn.op (is_plain insn.a) false false ≡ true
placed_beside insn e b = rw (b, not_nothing insn.b b) at ((both (is_plain insn.c) _ e).1)

pub placed_second : (insn : Insn) → is_data insn.op ≡ true → is_move insn.op ≡ false → is_placed insn ≡ true → is_plain insn.b ≡ false → reads_second insn.op ≡ true
placed_second insn d o e b = (second_of insn.op (is_plain insn.a) d o (placed_beside insn e b)).0

pub placed_other : (insn : Insn) → is_data insn.op ≡ true → is_move insn.op ≡ false → is_placed insn ≡ true → is_plain insn.b ≡ false → is_plain insn.a ≡ true
placed_other insn d o e b = (second_of insn.op (is_plain insn.a) d o (placed_beside insn e b)).1

memory_of : (x a b c : Bool) → x ≡ true → b ≡ true → c ≡ true → (x && a && b && c) ≡ false → a ≡ false
memory_of true true true true d p q e = e
memory_of true false b c d p q e = refl
memory_of true true false c d p q e = absurd cc
memory_of true true true false d p q e = absurd cc
memory_of false a b c d p q e = absurd cc

-- where the second operand is no memory, the first one is
pub first_memory : (insn : Insn) → is_data insn.op ≡ true → is_plain insn.b ≡ true → is_placed insn ≡ true → is_plain_data insn ≡ false → is_plain insn.a ≡ false
first_memory insn d b e n = memory_of (is_data insn.op) (is_plain insn.a) (is_plain insn.b) (is_plain insn.c) d b (placed_third insn e) n

pub first_placed : (insn : Insn) → is_data insn.op ≡ true → is_plain insn.b ≡ true → is_placed insn ≡ true → is_plain_data insn ≡ false
    → placed insn.op false true (is_nothing insn.b) ≡ true
first_placed insn d b e n = rw (b, first_memory insn d b e n) at ((both (is_plain insn.c) _ e).1)

pub ruleset places = (placed_third, placed_second, placed_other, first_memory, first_placed)
