use Rattle.std.proofs.Common.{rules, refl}
use Rattle.mdl_state.specs.Rules.{attempts}
use Rattle.mdl_effect.specs.Operands.{NoPort, Reads}
use Rattle.mdl_effect.specs.PortEffects.{in_plan}
use Rattle.exec_system.proofs.ports.input.Goals as goal

pub returns-in_err-port_allowed-clause-run : goal.returns-in_err-port_allowed-clause-run
unfolding in_plan
returns-in_err-port_allowed-clause-run g c = (0, NoPort, refl, search (rules, attempts))

pub returns-clause-run : goal.returns-clause-run
unfolding in_plan
returns-clause-run g c = (c.input-value.result, Reads c.port-port.result c.args.insn.now.size, c.input-value.ensures.value, search (rules, attempts))
