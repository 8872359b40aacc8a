use Rattle.std.proofs.Common.{sym, ap, subst, ◌∙◌}
use Rattle.mdl_state.specs.declared.Fault.{Fault}
use Rattle.mdl_state.specs.State.{Mem}
use Rattle.mdl_state.specs.Accesses.{Keeps}
use Rattle.mdl_state.specs.Serving.{by_pick}
use Rattle.mdl_step.specs.Fetching.{Instruction, Refused, Fetches}
use Rattle.operands.specs.Whole.{whole}
use Rattle.cpu_core.specs.Window.{fault_of}
use Rattle.cpu_core.proofs.Windows.{takes_stays, refuses_stays}
use Rattle.cpu_core.proofs.Fetched.{started, whole_wide, takes, refuses}
use Rattle.cpu_core.proofs.decoding.decode_far.Goals as goal

pub returns-in-Ok-clause-found : goal.returns-in-Ok-clause-found
returns-in-Ok-clause-found g c = λ flags.
    let r = whole c.args.regs.now flags in
    subst (λ (m : Mem). Fetches (by_pick g.L.Linear.pick) r m (Instruction c.decode_into.new.insn c.in-Ok.count) (g.L.Linear.seen c.decode_into.new.fetch.lin)) (ap g.L.Linear.seen c.start.ensures.memory)
    (takes g.L.Linear.pick (λ s. record { base = s.base; limit = s.limit; who = s.who; offset = s.offset; mem = g.L.Linear.seen s.lin }) r c.start.new.self c.decode_into.new.fetch (started c.args.regs.now flags _ c.start.ensures.base c.start.ensures.limit c.start.ensures.who c.start.ensures.offset)
    c.is_wide.result (whole_wide c.args.regs.now flags ∙ sym c.is_wide.ensures) c.decode_into.new.insn c.in-Ok.count c.in-Ok.ensures.ok)

pub returns-in-Ok-clause-keeps : goal.returns-in-Ok-clause-keeps
returns-in-Ok-clause-keeps g c =
    subst (λ (m : Mem). Keeps m (g.L.Linear.seen c.decode_into.new.fetch.lin)) (ap g.L.Linear.seen c.start.ensures.memory)
    (takes_stays g.L.Linear.pick (λ s. record { base = s.base; limit = s.limit; who = s.who; offset = s.offset; mem = g.L.Linear.seen s.lin }) c.is_wide.result c.start.new.self c.decode_into.new.fetch
    c.decode_into.new.insn c.in-Ok.count c.in-Ok.ensures.ok).keeps

pub returns-in-Ok-clause-held : goal.returns-in-Ok-clause-held
returns-in-Ok-clause-held g c =
    (takes_stays g.L.Linear.pick (λ s. record { base = s.base; limit = s.limit; who = s.who; offset = s.offset; mem = g.L.Linear.seen s.lin }) c.is_wide.result c.start.new.self c.decode_into.new.fetch
    c.decode_into.new.insn c.in-Ok.count c.in-Ok.ensures.ok).held
    ∙ ap (λ (m : Mem). m.held) (ap g.L.Linear.seen c.start.ensures.memory)

pub returns-in-Ok-clause-served : goal.returns-in-Ok-clause-served
returns-in-Ok-clause-served g c =
    (takes_stays g.L.Linear.pick (λ s. record { base = s.base; limit = s.limit; who = s.who; offset = s.offset; mem = g.L.Linear.seen s.lin }) c.is_wide.result c.start.new.self c.decode_into.new.fetch
    c.decode_into.new.insn c.in-Ok.count c.in-Ok.ensures.ok).watch.served
    ∙ ap (λ (m : Mem). m.served) (ap g.L.Linear.seen c.start.ensures.memory)

pub returns-in-Err-clause-refused : goal.returns-in-Err-clause-refused
returns-in-Err-clause-refused g c = λ flags.
    let r = whole c.args.regs.now flags in
    subst (λ (fault : Fault). Fetches (by_pick g.L.Linear.pick) r (g.L.Linear.seen c.args.code.now.lin) (Refused fault) (g.L.Linear.seen c.decode_into.new.fetch.lin)) (sym c.fault_of.ensures)
    (subst (λ (m : Mem). Fetches (by_pick g.L.Linear.pick) r m (Refused (fault_of c.in-Err.cause)) (g.L.Linear.seen c.decode_into.new.fetch.lin)) (ap g.L.Linear.seen c.start.ensures.memory)
    (refuses g.L.Linear.pick (λ s. record { base = s.base; limit = s.limit; who = s.who; offset = s.offset; mem = g.L.Linear.seen s.lin }) r c.start.new.self c.decode_into.new.fetch (started c.args.regs.now flags _ c.start.ensures.base c.start.ensures.limit c.start.ensures.who c.start.ensures.offset)
    c.is_wide.result (whole_wide c.args.regs.now flags ∙ sym c.is_wide.ensures) c.in-Err.cause c.in-Err.ensures.err))

pub returns-in-Err-clause-keeps : goal.returns-in-Err-clause-keeps
returns-in-Err-clause-keeps g c =
    subst (λ (m : Mem). Keeps m (g.L.Linear.seen c.decode_into.new.fetch.lin)) (ap g.L.Linear.seen c.start.ensures.memory)
    (refuses_stays g.L.Linear.pick (λ s. record { base = s.base; limit = s.limit; who = s.who; offset = s.offset; mem = g.L.Linear.seen s.lin }) c.is_wide.result c.start.new.self c.decode_into.new.fetch
    c.in-Err.cause c.in-Err.ensures.err).keeps

pub returns-in-Err-clause-held : goal.returns-in-Err-clause-held
returns-in-Err-clause-held g c =
    (refuses_stays g.L.Linear.pick (λ s. record { base = s.base; limit = s.limit; who = s.who; offset = s.offset; mem = g.L.Linear.seen s.lin }) c.is_wide.result c.start.new.self c.decode_into.new.fetch
    c.in-Err.cause c.in-Err.ensures.err).held
    ∙ ap (λ (m : Mem). m.held) (ap g.L.Linear.seen c.start.ensures.memory)

pub returns-in-Err-clause-served : goal.returns-in-Err-clause-served
returns-in-Err-clause-served g c =
    (refuses_stays g.L.Linear.pick (λ s. record { base = s.base; limit = s.limit; who = s.who; offset = s.offset; mem = g.L.Linear.seen s.lin }) c.is_wide.result c.start.new.self c.decode_into.new.fetch
    c.in-Err.cause c.in-Err.ensures.err).watch.served
    ∙ ap (λ (m : Mem). m.served) (ap g.L.Linear.seen c.start.ensures.memory)
