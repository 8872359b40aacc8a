use Rattle.std.proofs.Common.{ℕ, refl, ap, subst, ◌∙◌}
use Rattle.mdl_state.specs.declared.Regs.{Regs}
use Rattle.mdl_step.specs.Fetching.{is_wide}
use Rattle.monitor.specs.Moves.{code_address}
use Rattle.monitor.specs.Places.{IsCode}
use Rattle.monitor.proofs.Codes.{named_as, word_named}
use Rattle.monitor.proofs.places.instruction.Goals as goal

pub returns : goal.returns
returns g c =
    let m = g.T.Target.machine c.args.target.now in
    let code = c.code_at-code.result.items in
    let name = c.name_of.result.name.bytes in
    let place = c.code_address.ensures ∙ ap code_address c.regs-regs.ensures in
    let wide = c.is_wide.ensures ∙ ap is_wide c.regs-regs.ensures in
    let eip = ap (λ (r : Regs). r.eip) c.regs-regs.ensures in
    word_named m code name c.name_of.result.covered
    (subst (λ (at : ℕ). IsCode m.state.mem at code) place c.code_at-code.ensures)
    (named_as c.as_slice.result.now code c.is_wide.result (is_wide m.state.core.regs) c.regs-regs.result.eip m.state.core.regs.eip name c.name_of.result.covered c.name_of.result.covered
    c.as_slice.ensures.value wide eip refl c.name_of.ensures.named)
