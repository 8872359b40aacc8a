use Rattle.std.proofs.Common.{rules, refl, sym}
use Rattle.mdl_state.specs.Serving.{Passed, Failed, by_pick}
use Rattle.mdl_effect.specs.Operands.{NoPort, Reads}
use Rattle.mdl_effect.specs.StringEffects.{string_port}
use Rattle.operands.specs.Whole.{whole}
use Rattle.string_ops.proofs.Permissions.{permission_kept}
use Rattle.string_ops.proofs.Inputs.{input_refused, input_fails, input_passes}
use Rattle.string_ops.proofs.port_strings.input_string.Goals as goal

pub returns-in_err-port_allowed-clause-run : goal.returns-in_err-port_allowed-clause-run
returns-in_err-port_allowed-clause-run g c = (
  0,
  NoPort,
  refl,
  λ flags.
      let serve = by_pick g.L.Linear.pick in
      let r = whole c.args.regs.now flags in
      let m = g.L.Linear.seen c.args.lin.now in
      let k = g.L.Linear.seen c.port_allowed.new.lin in
      let fault = c.in_err-port_allowed.field-0.0 in
      let h = input_refused serve 0 c.args.insn.now r m k fault (permission_kept serve 0 c.args.regs.now flags c.string_port-port.result (string_port r) c.args.insn.now.size m k (Failed fault)
      (c.string_port-port.ensures flags) (c.in_err-port_allowed.ensures.run 0)) in
      search (rules, h),
)

pub returns-in_err-place-clause-run : goal.returns-in_err-place-clause-run
returns-in_err-place-clause-run g c = (
  0,
  NoPort,
  refl,
  λ flags.
      let serve = by_pick g.L.Linear.pick in
      let r = whole c.args.regs.now flags in
      let m = g.L.Linear.seen c.args.lin.now in
      let k = g.L.Linear.seen c.port_allowed.new.lin in
      let n = g.L.Linear.seen c.open_destination.new.lin in
      let h = input_fails serve 0 c.args.insn.now r m k n (permission_kept serve 0 c.args.regs.now flags c.string_port-port.result (string_port r) c.args.insn.now.size m k (Passed tt)
      (c.string_port-port.ensures flags) (c.in_ok-port_allowed.ensures.run 0)) c.in_err-place.field-0.0 (λ next. c.in_err-place.ensures.refused flags 0 next) in
      search (rules, h),
)

pub returns-clause-run : goal.returns-clause-run
returns-clause-run g c = (
  c.input-value.result,
  Reads c.string_port-port.result c.args.insn.now.size,
  c.input-value.ensures.value,
  λ flags.
      let serve = by_pick g.L.Linear.pick in
      let given = c.input-value.result in
      let r = whole c.args.regs.now flags in
      let m = g.L.Linear.seen c.args.lin.now in
      let k = g.L.Linear.seen c.port_allowed.new.lin in
      let n = g.L.Linear.seen c.open_destination.new.lin in
      let h = input_passes serve given c.args.insn.now r m k n (permission_kept serve given c.args.regs.now flags c.string_port-port.result (string_port r) c.args.insn.now.size m k (Passed tt)
      (c.string_port-port.ensures flags) (c.in_ok-port_allowed.ensures.run given)) c.in_ok-place.place (λ next. c.in_ok-place.ensures.passed flags given next) in
      rw (c.pass_destination.ensures.value flags, c.hold.ensures.held, c.string_port-port.ensures flags) (sym h),
)
