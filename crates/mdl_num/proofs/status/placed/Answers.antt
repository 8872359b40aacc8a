use Rattle.std.proofs.Common.{◌∙◌, ap, sym, inl, inr, refl}
use Rattle.std.specs.Int.{bit_at, from_bool}
use Rattle.mdl_num.proofs.Places.{bit_at-with_bit_other, from_bool-lt, with_bit-same}
use Rattle.mdl_num.proofs.status.placed.Goals as goal

pub returns-in-Tells-clause-own : goal.returns-in-Tells-clause-own
returns-in-Tells-clause-own c = λ free same. rw c.in-Tells.is c.with_bit.ensures

pub returns-in-Tells-clause-rest : goal.returns-in-Tells-clause-rest
returns-in-Tells-clause-rest c = λ other apart.
    ap (λ n. bit_at n other) c.with_bit.ensures
    ∙ bit_at-with_bit_other c.args.flags c.args.bit (from_bool c.in-Tells.on) other (from_bool-lt c.in-Tells.on) apart

pub returns-in-Undefined : goal.returns-in-Undefined
returns-in-Undefined c = elim c.in-Undefined.is [
  | inl undefined ↦ record {
    own = λ free same. rw (undefined, same) (sym (with_bit-same c.args.flags c.args.bit));
    rest = λ other apart. refl;
  }
  | inr stays ↦ record {
    own = λ free same. rw stays refl;
    rest = λ other apart. refl;
  }
]
