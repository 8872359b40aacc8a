-- Registers whose status flags were taken out of EFLAGS, and are packed in again.
use Rattle.std.proofs.Common.{◌≡◌, ℕ, refl, sym, ◌∙◌}
use Rattle.mdl_state.specs.declared.Regs.{Regs}
use Rattle.mdl_state.specs.declared.Size.TheVariants.{B4}
use Rattle.lazy_flags.specs.Keeper.{with_status, kept}
use Rattle.lazy_flags.specs.declared.operation.FlagOp.TheVariants.{Plain}
use Rattle.operands.specs.Whole.{whole}
use Rattle.operands.proofs.Statuses.{own_flags, unpacked, untouched}

taken_out : (e : ℕ) → with_status e (kept Plain e 0 B4) ≡ e
taken_out e = unpacked _ e e e (sym (own_flags e) ∙ untouched (with_status e e) e)

pub whole_again : (r : Regs) → whole r (kept Plain r.eflags 0 B4) ≡ r
whole_again r = rw (taken_out r.eflags) refl

pub ruleset packed = (whole_again)
