use Rattle.std.proofs.Common.{rules, refl}
use Rattle.mdl_state.specs.Rules.{attempts}
use Rattle.mdl_effect.specs.Operands.{NoPort, Writes}
use Rattle.mdl_effect.specs.PortEffects.{out_plan}
use Rattle.exec_system.proofs.ports.output.Goals as goal

pub returns-in_err-port_allowed-clause-run : goal.returns-in_err-port_allowed-clause-run
unfolding out_plan
returns-in_err-port_allowed-clause-run g c = (0, NoPort, refl, search (rules, attempts))

pub returns-clause-run : goal.returns-clause-run
unfolding out_plan
returns-clause-run g c = (0, Writes c.port-port.result c.args.insn.now.size c.reg.result, c.output.ensures, search (rules, attempts))
