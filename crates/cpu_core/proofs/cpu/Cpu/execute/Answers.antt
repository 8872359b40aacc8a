use Rattle.std.proofs.Common.{◌≡◌, false, [], refl, sym, subst, ◌∙◌}
use Rattle.mdl_state.specs.declared.Activity.TheVariants.{Running}
use Rattle.mdl_state.specs.Boot.{clear_latches}
use Rattle.mdl_state.specs.Bytes.{bit}
use Rattle.mdl_state.specs.State.{Mem, Core}
use Rattle.mdl_state.specs.Machine.{Machine}
use Rattle.mdl_state.specs.Watches.{watching, unwatched}
use Rattle.mdl_state.specs.Serving.{Passed, by_pick}
use Rattle.mdl_cpu.specs.Breakpoints.{data_breakpoints}
use Rattle.mdl_cpu.specs.SystemFlags.{TF}
use Rattle.mem_iface.specs.Rules.{rules_of}
use Rattle.mdl_step.specs.Fetching.{Instruction, Refused}
use Rattle.mdl_step.specs.Step.{behind, faulted, passed_by, Comes}
use Rattle.operands.specs.Whole.{whole}
use Rattle.cpu_core.specs.Turns.{Executed}
use Rattle.cpu_core.proofs.Settled.{bare_is, fetches_beside}
use Rattle.cpu_core.proofs.Turns.{passing, failing, passes_bare, faults_bare}
use Rattle.cpu_core.proofs.Ends.{lands_of, passes_of, faults_of, usual_passed}
use Rattle.cpu_core.proofs.cpu.Cpu.execute.Goals as goal

pub returns-in-Err-clause-executed : goal.returns-in-Err-clause-executed
returns-in-Err-clause-executed g c =
    let inside = c.self.inside in
    let ws = inside.code.watch.items in
    let hits = inside.code.hits in
    let quiet = c.self.invariant.quiet in
    let there = g.L.Linear.seen inside.code.inside.lin in
    let here = g.L.Linear.seen c.decode.new.code.lin in
    let r = whole inside.regs inside.flags in
    subst (λ (x : Machine _). Executed (rules_of g.P.Ports) g.L.Linear.pick x c.fault.new.self) c.self.view_is (record {
      code = Refused c.in-Err.fault;
      mid = watching here ws hits;
      free = 0;
      fetched = fetches_beside g.L.Linear.pick r there here ws hits (Refused c.in-Err.fault) quiet.watch quiet.hits (c.in-Err.ensures.refused inside.flags);
      comes = (c.fault.ensures.board, c.fault.ensures.faulted);
    })

pub returns-then-ended-clause-executed : goal.returns-then-ended-clause-executed
returns-then-ended-clause-executed g c =
    let inside = c.self.inside in
    let ws = inside.code.watch.items in
    let hits = inside.code.hits in
    let quiet = c.self.invariant.quiet in
    let there = g.L.Linear.seen inside.code.inside.lin in
    let here = g.L.Linear.seen c.decode.new.code.lin in
    let m : Machine _ = record { state = record { core = record { regs = whole inside.regs inside.flags; activity = inside.between.activity; latches = inside.between.latches; steps = inside.steps }; mem = watching there ws hits }; board = inside.ports } in
    let mid = watching here ws hits in
    let none : data_breakpoints m.state.core.regs ≡ [] = subst (λ (x : Machine _). data_breakpoints x.state.core.regs ≡ []) (sym c.self.view_is) c.requires.data in
    let untraced : bit m.state.core.regs.eflags TF ≡ false = subst (λ (x : Machine _). bit x.state.core.regs.eflags TF ≡ false) (sym c.self.view_is) c.requires.untraced in
    let now = c.execute_usual-ended in
    let insn = c.decode.new.insn in
    let back = behind m.state.core.regs c.in-Ok.count in
    let new = whole now.new.regs now.new.flags in
    let n = g.L.Linear.seen now.new.code.lin in
    let k = unwatched n in
    let fetched = fetches_beside g.L.Linear.pick m.state.core.regs there here ws hits (Instruction insn c.in-Ok.count) quiet.watch quiet.hits (c.in-Ok.ensures.found inside.flags) in
    let runs : m.state.core.activity ≡ Running = subst (λ (x : Machine _). x.state.core.activity ≡ Running) (sym c.self.view_is) c.requires.runs in
    let clear : m.state.core.latches ≡ clear_latches = subst (λ (x : Machine _). x.state.core.latches ≡ clear_latches) (sym c.self.view_is) c.requires.clear in
    let came = lands_of (rules_of g.P.Ports) g.L.Linear.pick insn m.state.core.regs back here inside.ports new n now.new.ports now.result c.if-ended.true now.ensures.ends in
    let after = came.0 in
    let lands = came.1 in
    let left : Core = record m.state.core { regs = new } in
    let t : Machine _ = record { state = record { core = left; mem = watching n ws hits }; board = now.new.ports } in
    subst (λ (x : Machine _). Executed (rules_of g.P.Ports) g.L.Linear.pick x t) c.self.view_is (record {
      code = Instruction insn c.in-Ok.count;
      mid = mid;
      free = lands.mid.eflags;
      fetched = fetched;
      comes = passing (rules_of g.P.Ports) g.L.Linear.pick m.state.core insn c.in-Ok.count mid inside.ports lands.mid after k now.new.ports (Passed left, watching n ws hits)
          (passes_bare g.L.Linear.pick insn m.state.core.regs back here (data_breakpoints m.state.core.regs) none (rules_of g.P.Ports) inside.ports lands.mid after n now.new.ports lands.passes)
          (λ access. usual_passed g.L.Linear.pick m.state.core insn m.state.core.regs lands.mid new after back access k (watching n ws hits) lands.usual runs clear untraced lands.left
          (sym (bare_is n ws hits quiet.watch quiet.hits)));
    })

pub returns-in-Ok-rest-clause-executed : goal.returns-in-Ok-rest-clause-executed
returns-in-Ok-rest-clause-executed g c =
    let inside = c.self.inside in
    let ws = inside.code.watch.items in
    let hits = inside.code.hits in
    let quiet = c.self.invariant.quiet in
    let there = g.L.Linear.seen inside.code.inside.lin in
    let here = g.L.Linear.seen c.decode.new.code.lin in
    let m : Machine _ = record { state = record { core = record { regs = whole inside.regs inside.flags; activity = inside.between.activity; latches = inside.between.latches; steps = inside.steps }; mem = watching there ws hits }; board = inside.ports } in
    let mid = watching here ws hits in
    let none : data_breakpoints m.state.core.regs ≡ [] = subst (λ (x : Machine _). data_breakpoints x.state.core.regs ≡ []) (sym c.self.view_is) c.requires.data in
    let untraced : bit m.state.core.regs.eflags TF ≡ false = subst (λ (x : Machine _). bit x.state.core.regs.eflags TF ≡ false) (sym c.self.view_is) c.requires.untraced in
    let now = c.execute_usual-ended in
    let insn = c.decode.new.insn in
    let back = behind m.state.core.regs c.in-Ok.count in
    let new = whole now.new.regs now.new.flags in
    let n = g.L.Linear.seen now.new.code.lin in
    let k = unwatched n in
    let fetched = fetches_beside g.L.Linear.pick m.state.core.regs there here ws hits (Instruction insn c.in-Ok.count) quiet.watch quiet.hits (c.in-Ok.ensures.found inside.flags) in
    let ran = c.in-Ok-rest.ran in
    let came = passes_of (rules_of g.P.Ports) g.L.Linear.pick insn m.state.core.regs back here inside.ports new n now.new.ports now.result ran c.if-ended.false c.in-Ok-rest.is now.ensures.ends in
    let left = c.complete_with in
    subst (λ (x : Machine _). Executed (rules_of g.P.Ports) g.L.Linear.pick x left.new.self) c.self.view_is (record {
      code = Instruction insn c.in-Ok.count;
      mid = mid;
      free = new.eflags;
      fetched = fetched;
      comes = subst (λ (b : _). Comes (rules_of g.P.Ports) (by_pick g.L.Linear.pick) m.state.core (Instruction insn c.in-Ok.count) new.eflags mid inside.ports (Passed left.new.self.state.core, left.new.self.state.mem) b) (sym left.ensures.board)
          (passing (rules_of g.P.Ports) g.L.Linear.pick m.state.core insn c.in-Ok.count mid inside.ports new ran.next k now.new.ports (Passed left.new.self.state.core, left.new.self.state.mem)
          (passes_bare g.L.Linear.pick insn m.state.core.regs back here (data_breakpoints m.state.core.regs) none (rules_of g.P.Ports) inside.ports new ran.next n now.new.ports came.0)
          (λ access. subst (λ (i : Mem). passed_by ran.next (by_pick g.L.Linear.pick) m.state.core insn (record { regs = new; next = ran.next; access = access }) back 0 i ≡ (Passed left.new.self.state.core, left.new.self.state.mem))
          (sym (bare_is n ws hits quiet.watch quiet.hits)) (left.ensures.made insn m.state.core.regs access refl untraced)));
    })

pub returns-in-Err-rest-clause-executed : goal.returns-in-Err-rest-clause-executed
returns-in-Err-rest-clause-executed g c =
    let inside = c.self.inside in
    let ws = inside.code.watch.items in
    let hits = inside.code.hits in
    let quiet = c.self.invariant.quiet in
    let there = g.L.Linear.seen inside.code.inside.lin in
    let here = g.L.Linear.seen c.decode.new.code.lin in
    let m : Machine _ = record { state = record { core = record { regs = whole inside.regs inside.flags; activity = inside.between.activity; latches = inside.between.latches; steps = inside.steps }; mem = watching there ws hits }; board = inside.ports } in
    let mid = watching here ws hits in
    let none : data_breakpoints m.state.core.regs ≡ [] = subst (λ (x : Machine _). data_breakpoints x.state.core.regs ≡ []) (sym c.self.view_is) c.requires.data in
    let now = c.execute_usual-ended in
    let insn = c.decode.new.insn in
    let back = behind m.state.core.regs c.in-Ok.count in
    let new = whole now.new.regs now.new.flags in
    let n = g.L.Linear.seen now.new.code.lin in
    let k = unwatched n in
    let fetched = fetches_beside g.L.Linear.pick m.state.core.regs there here ws hits (Instruction insn c.in-Ok.count) quiet.watch quiet.hits (c.in-Ok.ensures.found inside.flags) in
    let fault = c.in-Err-rest.fault in
    let came = faults_of (rules_of g.P.Ports) g.L.Linear.pick insn m.state.core.regs back here inside.ports new n now.new.ports now.result fault c.if-ended.false c.in-Err-rest.is now.ensures.ends in
    let left = c.fault-in-Err-rest in
    let faults = faults_bare g.L.Linear.pick insn m.state.core.regs back here (data_breakpoints m.state.core.regs) none fault new n came.0 in
    subst (λ (x : Machine _). Executed (rules_of g.P.Ports) g.L.Linear.pick x left.new.self) c.self.view_is (record {
      code = Instruction insn c.in-Ok.count;
      mid = mid;
      free = faults.free;
      fetched = fetched;
      comes = subst (λ (b : _). Comes (rules_of g.P.Ports) (by_pick g.L.Linear.pick) m.state.core (Instruction insn c.in-Ok.count) faults.free mid inside.ports (Passed left.new.self.state.core, left.new.self.state.mem) b) (sym (left.ensures.board ∙ came.1))
          (failing (rules_of g.P.Ports) g.L.Linear.pick m.state.core insn c.in-Ok.count mid inside.ports fault new k (Passed left.new.self.state.core, left.new.self.state.mem) faults
          (subst (λ (i : Mem). faulted (by_pick g.L.Linear.pick) (record m.state.core { regs = new }) fault i ≡ (Passed left.new.self.state.core, left.new.self.state.mem)) (sym (bare_is n ws hits quiet.watch quiet.hits)) left.ensures.faulted));
    })
