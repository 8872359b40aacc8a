use Rattle.std.proofs.Common.{ap, ◌∙◌, List}
use Rattle.mdl_state.specs.declared.Access.{Access}
use Rattle.mdl_state.specs.declared.Watch.{Watch}
use Rattle.mdl_state.specs.Watches.{hits_after}
use Rattle.mdl_cpu.specs.Breakpoints.{data_breakpoints}
use Rattle.debug_regs.proofs.Enabled.{who_meets}
use Rattle.debug_regs.proofs.breakpoints.access_hit.Goals as goal

pub returns-clause-supervisor : goal.returns-clause-supervisor
returns-clause-supervisor c = c.hits_after.ensures ∙ ap (λ (ws : List Watch). hits_after ws c.args.lin c.args.size c.access_by-access.result 0) (c.as_slice.ensures.value ∙ c.data_breakpoints.ensures)
    ∙ ap (λ (access : Access). hits_after (data_breakpoints c.args.regs.now) c.args.lin c.args.size access 0) c.access_by-access.ensures ∙ who_meets c.args.write (data_breakpoints c.args.regs.now) c.args.lin c.args.size 0
