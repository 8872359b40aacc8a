use Rattle.std.proofs.Common.{◌+◌, ℕ, sym, ◌∙◌, ap}
use Rattle.mem_iface.specs.Rules.{rules_of}
use Rattle.mdl_step.specs.Boundary as rows
use Rattle.cpu_core.specs.Rows.{told}
use Rattle.cpu_core.proofs.Rows.{line_asked}
use Rattle.cpu_core.proofs.Turns.{some_turn, idled, stepped}
use Rattle.cpu_core.proofs.cpu.Cpu.divert.Goals as goal

pub returns-then-is_idle : goal.returns-then-is_idle
returns-then-is_idle g c = record {
  made = λ policy meets. idled (rules_of g.P.Ports) policy c.args.self.now c.finish.new.self (sym c.row-next.ensures ∙ c.if-is_idle.ensures.idle) c.finish.ensures.ends;
  count = c.finish.ensures.count;
  a20 = c.finish.ensures.a20;
}

pub returns-then-is_execution : goal.returns-then-is_execution
returns-then-is_execution g c =
    let mid = c.execute_watched-wrote.new.self in
    record {
      made = λ policy meets. stepped (rules_of g.P.Ports) policy rows.Execute c.args.self.now mid c.finish-then-is_execution.new.self (sym c.row-next.ensures ∙ c.if-is_execution.ensures.executes)
          (some_turn (rules_of g.P.Ports) g.L.Linear.pick policy meets c.args.self.now mid c.execute_watched-wrote.ensures.served rows.Execute (λ e. cc) c.execute_watched-wrote.ensures.executed) c.finish-then-is_execution.ensures.ends;
      count = c.finish-then-is_execution.ensures.count ∙ ap (λ (k : ℕ). k + 1) c.execute_watched-wrote.ensures.steps;
      a20 = c.finish-then-is_execution.ensures.a20;
    }

pub take-requires : goal.take-requires
take-requires g c = record {
  busy = c.if-is_idle.ensures.busy;
  event = c.if-is_execution.ensures.other;
  wants = λ line. line_asked (rules_of g.P.Ports) c.args.self.now (sym c.row-next.ensures ∙ line);
}

pub returns : goal.returns
returns g c =
    let mid = c.take.new.self in
    record {
      made = λ policy meets. stepped (rules_of g.P.Ports) policy (told c.row-next.result) c.args.self.now mid c.finish-2.new.self (sym c.row-next.ensures)
          (some_turn (rules_of g.P.Ports) g.L.Linear.pick policy meets c.args.self.now mid c.take.ensures.served (told c.row-next.result) c.if-is_idle.ensures.busy c.take.ensures.taken) c.finish-2.ensures.ends;
      count = c.finish-2.ensures.count ∙ ap (λ (k : ℕ). k + 1) c.take.ensures.steps;
      a20 = c.finish-2.ensures.a20;
    }
