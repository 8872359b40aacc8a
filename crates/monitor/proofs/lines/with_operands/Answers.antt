use Rattle.std.proofs.Common.{◌∷◌, subst, sym, ℕ}
use Rattle.mdl_text.specs.CommandLine.{IsNoCommand}
use Rattle.monitor.proofs.Commands.{no_bytes, no_listing}
use Rattle.monitor.proofs.lines.with_operands.Goals as goal

pub returns-in_err-bytes-in-109-clause-none : goal.returns-in_err-bytes-in-109-clause-none
returns-in_err-bytes-in-109-clause-none c = rw c.from_residual-in_err-bytes-in-109.ensures
    (subst (λ (letter : ℕ). IsNoCommand (letter ∷ 32 ∷ c.args.operands.now)) (sym c.in-109.is) (no_bytes c.args.operands.now c.in_err-bytes-in-109.ensures.none))

pub returns-in_err-lines-in-117-clause-none : goal.returns-in_err-lines-in-117-clause-none
returns-in_err-lines-in-117-clause-none c = rw c.from_residual-in_err-lines-in-117.ensures
    (subst (λ (letter : ℕ). IsNoCommand (letter ∷ 32 ∷ c.args.operands.now)) (sym c.in-117.is) (no_listing c.args.operands.now c.in_err-lines-in-117.ensures.none))
