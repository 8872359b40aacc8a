use Rattle.std.proofs.Common.{rules, refl}
use Rattle.mdl_state.specs.Rules.{attempts}
use Rattle.mdl_state.specs.Serving.{Passed, Failed, by_pick}
use Rattle.mdl_effect.specs.Operands.{NoPort, Writes}
use Rattle.mdl_effect.specs.StringEffects.{string_port}
use Rattle.operands.specs.Whole.{whole}
use Rattle.string_ops.proofs.Permissions.{permission_kept}
use Rattle.string_ops.proofs.Inputs.{output_refused, output_permitted}
use Rattle.string_ops.proofs.port_strings.output_string.Goals as goal

pub returns-in_err-port_allowed-clause-run : goal.returns-in_err-port_allowed-clause-run
returns-in_err-port_allowed-clause-run g c = (
  0,
  NoPort,
  refl,
  λ flags.
      let serve = by_pick g.L.Linear.pick in
      let r = whole c.args.regs.now flags in
      let m = g.L.Linear.seen c.args.lin.now in
      let k = g.L.Linear.seen c.port_allowed.new.lin in
      let fault = c.in_err-port_allowed.field-0.0 in
      let h = output_refused serve 0 c.args.insn.now r m k fault (permission_kept serve 0 c.args.regs.now flags c.string_port-port.result (string_port r) c.args.insn.now.size m k (Failed fault)
      (c.string_port-port.ensures flags) (c.in_err-port_allowed.ensures.run 0)) in
      search (rules, h),
)

pub returns-in_err-value-clause-run : goal.returns-in_err-value-clause-run
returns-in_err-value-clause-run g c = (
  0,
  NoPort,
  refl,
  λ flags.
      let serve = by_pick g.L.Linear.pick in
      let r = whole c.args.regs.now flags in
      let m = g.L.Linear.seen c.args.lin.now in
      let k = g.L.Linear.seen c.port_allowed.new.lin in
      let h = output_permitted serve 0 c.args.insn.now r m k (permission_kept serve 0 c.args.regs.now flags c.string_port-port.result (string_port r) c.args.insn.now.size m k (Passed tt)
      (c.string_port-port.ensures flags) (c.in_ok-port_allowed.ensures.run 0)) in
      rw h (search (rules, attempts)),
)

pub returns-clause-run : goal.returns-clause-run
returns-clause-run g c = (
  0,
  Writes c.string_port-port.result c.args.insn.now.size c.in_ok-value.value,
  c.output.ensures,
  λ flags.
      let serve = by_pick g.L.Linear.pick in
      let r = whole c.args.regs.now flags in
      let m = g.L.Linear.seen c.args.lin.now in
      let k = g.L.Linear.seen c.port_allowed.new.lin in
      let h = output_permitted serve 0 c.args.insn.now r m k (permission_kept serve 0 c.args.regs.now flags c.string_port-port.result (string_port r) c.args.insn.now.size m k (Passed tt)
      (c.string_port-port.ensures flags) (c.in_ok-port_allowed.ensures.run 0)) in
      rw h (search (rules, attempts)),
)
