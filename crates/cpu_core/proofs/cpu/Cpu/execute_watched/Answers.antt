use Rattle.std.proofs.Common.{◌≡◌, List, refl, sym, subst, ◌∙◌, ap}
use Rattle.mdl_state.specs.declared.Watch.{Watch}
use Rattle.mdl_state.specs.Bytes.{bit}
use Rattle.mdl_state.specs.State.{Mem}
use Rattle.mdl_state.specs.Machine.{Machine}
use Rattle.mdl_state.specs.Watches.{watching}
use Rattle.mdl_state.specs.Serving.{Passed, by_pick}
use Rattle.mdl_cpu.specs.Breakpoints.{data_breakpoints}
use Rattle.mdl_cpu.specs.SystemFlags.{TF}
use Rattle.mem_iface.specs.Rules.{rules_of}
use Rattle.mdl_step.specs.Fetching.{Instruction, Refused}
use Rattle.mdl_step.specs.Step.{behind, faulted, passed_by, Comes}
use Rattle.operands.specs.Whole.{whole}
use Rattle.cpu_core.specs.Executing.{Passes, Faults}
use Rattle.cpu_core.specs.Turns.{Executed}
use Rattle.cpu_core.proofs.Settled.{fetches_beside}
use Rattle.cpu_core.proofs.Breakpoints.{whole_data}
use Rattle.cpu_core.proofs.Turns.{passing, failing}
use Rattle.cpu_core.proofs.cpu.Cpu.execute_watched.Goals as goal

pub returns-in-Err-clause-executed : goal.returns-in-Err-clause-executed
returns-in-Err-clause-executed g c =
    let inside = c.self.inside in
    let ws = inside.code.watch.items in
    let hits = inside.code.hits in
    let quiet = c.self.invariant.quiet in
    let there = g.L.Linear.seen inside.code.inside.lin in
    let here = g.L.Linear.seen c.decode_far.new.code.lin in
    let r = whole inside.regs inside.flags in
    subst (λ (x : Machine _). Executed (rules_of g.P.Ports) g.L.Linear.pick x c.fault.new.self) c.self.view_is (record {
      code = Refused c.in-Err.fault;
      mid = watching here ws hits;
      free = 0;
      fetched = fetches_beside g.L.Linear.pick r there here ws hits (Refused c.in-Err.fault) quiet.watch quiet.hits (c.in-Err.ensures.refused inside.flags);
      comes = (c.fault.ensures.board, c.fault.ensures.faulted);
    })

pub returns-in-Ok-answer-clause-executed : goal.returns-in-Ok-answer-clause-executed
returns-in-Ok-answer-clause-executed g c =
    let inside = c.self.inside in
    let ws = inside.code.watch.items in
    let hits = inside.code.hits in
    let quiet = c.self.invariant.quiet in
    let there = g.L.Linear.seen inside.code.inside.lin in
    let here = g.L.Linear.seen c.decode_far.new.code.lin in
    let m : Machine _ = record { state = record { core = record { regs = whole inside.regs inside.flags; activity = inside.between.activity; latches = inside.between.latches; steps = inside.steps }; mem = watching there ws hits }; board = inside.ports } in
    let mid = watching here ws hits in
    let looks : c.data_breakpoints.result.items ≡ data_breakpoints m.state.core.regs = c.data_breakpoints.ensures ∙ sym (whole_data inside.regs inside.flags) in
    let looked = ap (λ s. watching (g.L.Linear.seen s.inside.lin) s.watch.items s.hits) c.look_for.ensures ∙ ap (λ (vs : List Watch). watching here vs 0) looks in
    let new = whole c.execute-answer.new.regs c.execute-answer.new.flags in
    let left = c.complete_with in
    let n = g.L.Linear.seen c.execute-answer.new.lin.inside.lin in
    let traced : bit m.state.core.regs.eflags TF ≡ c.is_traced-traced.result = sym (c.is_traced-traced.ensures inside.flags) in
    let k = watching n c.execute-answer.new.lin.watch.items c.execute-answer.new.lin.hits in
    let after = ap (λ s. watching (g.L.Linear.seen s.inside.lin) s.watch.items s.hits) c.look_for-2.ensures ∙ ap (λ (vs : List Watch). watching n vs 0) c.new.ensures in
    subst (λ (x : Machine _). Executed (rules_of g.P.Ports) g.L.Linear.pick x left.new.self) c.self.view_is (record {
      code = Instruction c.decode_far.new.insn c.in-Ok.count;
      mid = mid;
      free = new.eflags;
      fetched = fetches_beside g.L.Linear.pick m.state.core.regs there here ws hits (Instruction c.decode_far.new.insn c.in-Ok.count) quiet.watch quiet.hits (c.in-Ok.ensures.found inside.flags);
      comes = subst (λ (b : _). Comes (rules_of g.P.Ports) (by_pick g.L.Linear.pick) m.state.core (Instruction c.decode_far.new.insn c.in-Ok.count) new.eflags mid inside.ports (Passed left.new.self.state.core, left.new.self.state.mem) b) (sym left.ensures.board)
          (passing (rules_of g.P.Ports) g.L.Linear.pick m.state.core c.decode_far.new.insn c.in-Ok.count mid inside.ports new c.in-Ok-answer.ran.next k c.execute-answer.new.ports
          (Passed left.new.self.state.core, left.new.self.state.mem) (subst (λ (i : Mem). Passes (rules_of g.P.Ports) g.L.Linear.pick c.decode_far.new.insn m.state.core.regs (behind m.state.core.regs c.in-Ok.count) i inside.ports new c.in-Ok-answer.ran.next k c.execute-answer.new.ports) looked c.in-Ok-answer.ensures.passes) (λ access. subst (λ (i : Mem). passed_by c.in-Ok-answer.ran.next (by_pick g.L.Linear.pick) m.state.core c.decode_far.new.insn (record { regs = new; next = c.in-Ok-answer.ran.next; access = access }) (behind m.state.core.regs c.in-Ok.count) k.hits i ≡ (Passed left.new.self.state.core, left.new.self.state.mem))
          after (left.ensures.made c.decode_far.new.insn m.state.core.regs access refl traced)));
    })

pub returns-in-Err-answer-clause-executed : goal.returns-in-Err-answer-clause-executed
returns-in-Err-answer-clause-executed g c =
    let inside = c.self.inside in
    let ws = inside.code.watch.items in
    let hits = inside.code.hits in
    let quiet = c.self.invariant.quiet in
    let there = g.L.Linear.seen inside.code.inside.lin in
    let here = g.L.Linear.seen c.decode_far.new.code.lin in
    let m : Machine _ = record { state = record { core = record { regs = whole inside.regs inside.flags; activity = inside.between.activity; latches = inside.between.latches; steps = inside.steps }; mem = watching there ws hits }; board = inside.ports } in
    let mid = watching here ws hits in
    let looks : c.data_breakpoints.result.items ≡ data_breakpoints m.state.core.regs = c.data_breakpoints.ensures ∙ sym (whole_data inside.regs inside.flags) in
    let looked = ap (λ s. watching (g.L.Linear.seen s.inside.lin) s.watch.items s.hits) c.look_for.ensures ∙ ap (λ (vs : List Watch). watching here vs 0) looks in
    let new = whole c.execute-answer.new.regs c.execute-answer.new.flags in
    let left = c.fault-in-Err-answer in
    let n = g.L.Linear.seen c.execute-answer.new.lin.inside.lin in
    let k = watching n c.execute-answer.new.lin.watch.items c.execute-answer.new.lin.hits in
    let after = ap (λ s. watching (g.L.Linear.seen s.inside.lin) s.watch.items s.hits) c.look_for-2.ensures ∙ ap (λ (vs : List Watch). watching n vs 0) c.new.ensures in
    let faults = subst (λ (i : Mem). Faults g.L.Linear.pick c.decode_far.new.insn m.state.core.regs (behind m.state.core.regs c.in-Ok.count) i c.in-Err-answer.fault new k) looked c.in-Err-answer.ensures.faults in
    subst (λ (x : Machine _). Executed (rules_of g.P.Ports) g.L.Linear.pick x left.new.self) c.self.view_is (record {
      code = Instruction c.decode_far.new.insn c.in-Ok.count;
      mid = mid;
      free = faults.free;
      fetched = fetches_beside g.L.Linear.pick m.state.core.regs there here ws hits (Instruction c.decode_far.new.insn c.in-Ok.count) quiet.watch quiet.hits (c.in-Ok.ensures.found inside.flags);
      comes = subst (λ (b : _). Comes (rules_of g.P.Ports) (by_pick g.L.Linear.pick) m.state.core (Instruction c.decode_far.new.insn c.in-Ok.count) faults.free mid inside.ports (Passed left.new.self.state.core, left.new.self.state.mem) b) (sym (left.ensures.board ∙ c.in-Err-answer.ensures.board))
          (failing (rules_of g.P.Ports) g.L.Linear.pick m.state.core c.decode_far.new.insn c.in-Ok.count mid inside.ports c.in-Err-answer.fault new k
          (Passed left.new.self.state.core, left.new.self.state.mem) faults
          (subst (λ (i : Mem). faulted (by_pick g.L.Linear.pick) (record m.state.core { regs = new }) c.in-Err-answer.fault i ≡ (Passed left.new.self.state.core, left.new.self.state.mem)) after left.ensures.faulted));
    })
