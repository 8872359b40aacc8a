use Rattle.std.proofs.Common.{◌+◌, ℕ, sym, ◌∙◌, ap}
use Rattle.std.proofs.lemmas.Bool.{OnFalse_at, OnFalse_from}
use Rattle.mem_iface.specs.Rules.{rules_of}
use Rattle.mdl_step.specs.Boundary as rows
use Rattle.cpu_core.proofs.Turns.{some_turn, stepped}
use Rattle.cpu_core.proofs.cpu.Cpu.step.Goals as goal

pub finish-requires : goal.finish-requires
finish-requires g c = record {
  steps = rw c.execute-wrote.ensures.steps c.requires.steps;
  a20 = OnFalse_from c.execute-wrote.result _ (λ e. ap g.P.Ports.gate (OnFalse_at e c.execute-wrote.ensures.board) ∙ c.requires.a20 ∙ sym c.execute-wrote.ensures.a20);
}

pub returns-then-is_usual-clause-made : goal.returns-then-is_usual-clause-made
returns-then-is_usual-clause-made g c = λ policy meets.
    let mid = c.execute-wrote.new.self in
    stepped (rules_of g.P.Ports) policy rows.Execute c.args.self.now mid c.finish.new.self c.if-is_usual.ensures.executes
    (some_turn (rules_of g.P.Ports) g.L.Linear.pick policy meets c.args.self.now mid c.execute-wrote.ensures.served rows.Execute (λ e. cc) c.execute-wrote.ensures.executed) c.finish.ensures.ends

pub returns-then-is_usual-clause-count : goal.returns-then-is_usual-clause-count
returns-then-is_usual-clause-count g c = c.finish.ensures.count ∙ ap (λ (k : ℕ). k + 1) c.execute-wrote.ensures.steps
