-- What readers ask of a form.
use Rattle.std.proofs.Common.{◌≡◌, Bool, true, false, not, ◌&&◌, ◌||◌, refl}
use Rattle.mdl_insn.specs.declared.rows.Form.{Form}
use Rattle.mdl_insn.specs.declared.rows.Row.{Row}
use Rattle.mdl_insn.specs.Addresses.{may_address}

left_true : (a b : Bool) → (a && b) ≡ true → a ≡ true
left_true true b e = refl
left_true false b e = absurd cc

right_true : (a b : Bool) → (a && b) ≡ true → b ≡ true
right_true true b e = e
right_true false b e = absurd cc

not_true : (a : Bool) → not a ≡ true → a ≡ false
not_true true e = absurd cc
not_true false e = refl

pub addressed_form : (r : Row) (f : Form) → (may_address f && (may_address r.a || may_address r.b)) ≡ true → may_address f ≡ true
addressed_form r f e = left_true (may_address f) (may_address r.a || may_address r.b) e

pub addressed_row : (r : Row) (f : Form) → (may_address f && (may_address r.a || may_address r.b)) ≡ true → (may_address r.a || may_address r.b) ≡ true
addressed_row r f e = right_true (may_address f) (may_address r.a || may_address r.b) e

pub other_form : (f : Form) → not (may_address f) ≡ true → may_address f ≡ false
other_form f e = not_true (may_address f) e
