use Rattle.command_words.specs.Jobs.{run_of}
use Rattle.m386.specs.Feeding.{fed_of}
use Rattle.m386.proofs.Slots.{counted_result}
use Rattle.m386.proofs.Opening.{up_to_result}
use Rattle.m386.proofs.Ending.{headline_result, write_result}
use Rattle.m386.proofs.Within.{within_then, result_within}
use Rattle.m386.proofs.Assured.{run_quiet}
use Rattle.m386.proofs.run_command.run_command.Goals as goal

pub returns-clause-ok : goal.returns-clause-ok
returns-clause-ok g c =
    let took = g.H.Host.took in
    let path = g.H.Host.path in
    let read = c.in_ok-inputs.ensures in
    headline_result c.write_outputs.result (run_of c.args.job.now) (g.H.Host.left c.args.host.now) (took c.args.host.now) (took c.read_inputs.new.host) (took c.write_outputs.new.host)
    (path c.args.host.now) (path c.read_inputs.new.host) (path c.write_outputs.new.host) (fed_of c.in_ok-inputs.inputs) c.in_ok-pc.pc
    read.fed c.in_ok-pc.ensures.ok read.took read.opened read.outputs c.write_outputs.ensures.inputs c.write_outputs.ensures.ok c.write_outputs.ensures.opened

pub returns-clause-refused : goal.returns-clause-refused
returns-clause-refused g c =
    let took = g.H.Host.took in
    let read = c.in_ok-inputs.ensures in
    write_result c.write_outputs.result (run_of c.args.job.now) (g.H.Host.left c.args.host.now) (g.H.Host.left c.write_outputs.new.host) (took c.args.host.now) (took c.read_inputs.new.host) (took c.write_outputs.new.host)
    (fed_of c.in_ok-inputs.inputs) c.in_ok-pc.pc read.fed c.in_ok-pc.ensures.ok read.took c.write_outputs.ensures.refused

pub returns-clause-counted : goal.returns-clause-counted
returns-clause-counted g c =
    let faults = g.H.Host.faults in
    counted_result c.write_outputs.result (faults c.args.host.now) (faults c.read_inputs.new.host) (faults c.write_outputs.new.host) c.in_ok-inputs.ensures.kept c.write_outputs.ensures.counted

pub returns-clause-up_to : goal.returns-clause-up_to
returns-clause-up_to g c =
    let path = g.H.Host.path in
    up_to_result c.write_outputs.result (path c.args.host.now) (path c.read_inputs.new.host) (path c.write_outputs.new.host) c.in_ok-inputs.ensures.outputs c.write_outputs.ensures.up_to

pub returns-clause-within : goal.returns-clause-within
returns-clause-within g c =
    let left = g.H.Host.left in
    result_within c.write_outputs.result (left c.args.host.now) (left c.write_outputs.new.host)
    (within_then (left c.args.host.now) (left c.read_inputs.new.host) (left c.write_outputs.new.host) c.in_ok-inputs.ensures.within c.write_outputs.ensures.left)

pub returns-clause-sure : goal.returns-clause-sure
returns-clause-sure g c =
    let promise = g.H.Host.promise in
    run_quiet c.write_outputs.result (promise c.args.host.now) (promise c.read_inputs.new.host) (run_of c.args.job.now) (g.H.Host.took c.write_outputs.new.host) c.read_inputs.ensures.promise c.write_outputs.ensures.sure
