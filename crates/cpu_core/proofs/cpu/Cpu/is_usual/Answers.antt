use Rattle.std.proofs.Common.{◌≡◌, [], sym, ap, subst, ◌∙◌}
use Rattle.std.specs.Prelude.{not}
use Rattle.std.proofs.lemmas.Bool.{false≢true, OnTrue_from}
use Rattle.mdl_state.specs.Machine.{Machine}
use Rattle.mdl_state.specs.Watches.{watching}
use Rattle.mdl_cpu.specs.Breakpoints.{data_breakpoints}
use Rattle.mem_iface.specs.Rules.{rules_of}
use Rattle.mdl_step.specs.Boundary as rows
use Rattle.mdl_step.specs.Boundary.{takes_trap, takes_nmi}
use Rattle.mdl_step.specs.Step.{row_of}
use Rattle.operands.specs.Whole.{whole}
use Rattle.cpu_core.proofs.Breakpoints.{truth, whole_data, whole_hits}
use Rattle.cpu_core.proofs.Rows.{usual_row}
use Rattle.cpu_core.proofs.cpu.Cpu.is_usual.Goals as goal

pub returns-then-lets_in-clause-data : goal.returns-then-lets_in-clause-data
returns-then-lets_in-clause-data g c =
    let inside = c.self.inside in
    OnTrue_from (not c.wants_interrupt.result) _ (λ e. (subst (λ (x : Machine _). data_breakpoints x.state.core.regs ≡ []) c.self.view_is (whole_data inside.regs inside.flags ∙ c.if-is_any_enabled.ensures.data)))

pub returns-then-lets_in-clause-executes : goal.returns-then-lets_in-clause-executes
returns-then-lets_in-clause-executes g c =
    let inside = c.self.inside in
    let m : Machine _ = record { state = record { core = record { regs = whole inside.regs inside.flags; activity = inside.between.activity; latches = inside.between.latches; steps = inside.steps }; mem = watching (g.L.Linear.seen inside.code.inside.lin) inside.code.watch.items inside.code.hits }; board = inside.ports } in
    OnTrue_from (not c.wants_interrupt.result) _ (λ e. (subst (λ (x : Machine _). row_of (rules_of g.P.Ports) x ≡ rows.Execute) c.self.view_is
    (usual_row (rules_of g.P.Ports) m c.if-not-is_calm.ensures.runs (ap takes_trap c.if-not-is_calm.ensures.clear) (ap takes_nmi c.if-not-is_calm.ensures.clear)
    (λ lets. sym c.wants_interrupt.ensures ∙ truth _ e) (λ lin. whole_hits inside.regs inside.flags lin ∙ c.if-is_any_enabled.ensures.execution lin))))

pub returns-clause-data : goal.returns-clause-data
returns-clause-data g c =
    let inside = c.self.inside in
    (subst (λ (x : Machine _). data_breakpoints x.state.core.regs ≡ []) c.self.view_is (whole_data inside.regs inside.flags ∙ c.if-is_any_enabled.ensures.data))

pub returns-clause-executes : goal.returns-clause-executes
returns-clause-executes g c =
    let inside = c.self.inside in
    let m : Machine _ = record { state = record { core = record { regs = whole inside.regs inside.flags; activity = inside.between.activity; latches = inside.between.latches; steps = inside.steps }; mem = watching (g.L.Linear.seen inside.code.inside.lin) inside.code.watch.items inside.code.hits }; board = inside.ports } in
    (subst (λ (x : Machine _). row_of (rules_of g.P.Ports) x ≡ rows.Execute) c.self.view_is
    (usual_row (rules_of g.P.Ports) m c.if-not-is_calm.ensures.runs (ap takes_trap c.if-not-is_calm.ensures.clear) (ap takes_nmi c.if-not-is_calm.ensures.clear)
    (λ lets. absurd (false≢true (sym c.if-lets_in.false ∙ c.lets_in.ensures inside.flags ∙ lets))) (λ lin. whole_hits inside.regs inside.flags lin ∙ c.if-is_any_enabled.ensures.execution lin)))
