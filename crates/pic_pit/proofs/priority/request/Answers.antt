use Rattle.std.proofs.Common.{◌≡◌, ◌<◌, true, arith, rules}
use Rattle.mdl_dev.specs.Pic.{is_ready}
use Rattle.pic_pit.proofs.Decides.{request_decided}
use Rattle.pic_pit.proofs.priority.request.Goals as goal

pub returns-in-Some-clause-line : goal.returns-in-Some-clause-line
returns-in-Some-clause-line c =
    let ready : is_ready c.args.chip.now.stage ≡ true = cc in
    let small : c.args.chip.now.imr < 256 = search rules in
    grind (arith, request_decided c.args.which c.args.chip.now c.blocking.result c.first_line.result ready small c.blocking.ensures c.first_line.ensures.line)

pub returns-in-Some-2-clause-line : goal.returns-in-Some-2-clause-line
returns-in-Some-2-clause-line c =
    let ready : is_ready c.args.chip.now.stage ≡ true = cc in
    let small : c.args.chip.now.imr < 256 = search rules in
    grind (arith, request_decided c.args.which c.args.chip.now c.blocking.result c.first_line.result ready small c.blocking.ensures c.first_line.ensures.line)

pub returns-in-Some-2-2-clause-line : goal.returns-in-Some-2-2-clause-line
returns-in-Some-2-2-clause-line c =
    let ready : is_ready c.args.chip.now.stage ≡ true = cc in
    let small : c.args.chip.now.imr < 256 = search rules in
    grind (arith, request_decided c.args.which c.args.chip.now c.blocking.result c.first_line.result ready small c.blocking.ensures c.first_line.ensures.line)

pub returns-in-Some-2-3-clause-line : goal.returns-in-Some-2-3-clause-line
returns-in-Some-2-3-clause-line c =
    let ready : is_ready c.args.chip.now.stage ≡ true = cc in
    let small : c.args.chip.now.imr < 256 = search rules in
    grind (arith, request_decided c.args.which c.args.chip.now c.blocking.result c.first_line.result ready small c.blocking.ensures c.first_line.ensures.line)
