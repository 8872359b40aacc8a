-- Registers whose EFLAGS is whole are those whose status flags are their own.
use Rattle.std.proofs.Common.{◌≡◌, ◌∙◌, sym, ap}
use Rattle.mdl_state.specs.declared.Regs.{Regs}
use Rattle.operands.specs.Whole.{whole}
use Rattle.operands.proofs.Modes.{whole_own}

-- what a change does to registers with any status flags, it does to these
pub settled : (old new : Regs) (f : Regs → Regs) → new.eflags ≡ old.eflags → whole new old.eflags ≡ f (whole old old.eflags) → new ≡ f old
settled old new f same h = sym (whole_own new) ∙ (ap (λ e. whole new e) same ∙ (h ∙ ap f (whole_own old)))
