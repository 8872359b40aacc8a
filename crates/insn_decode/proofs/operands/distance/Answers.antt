use Rattle.std.proofs.Common.{◌≡◌, refl, ap}
use Rattle.mdl_insn.specs.declared.rows.Form.TheVariants.{Jb, Jv}
use Rattle.mdl_insn.specs.declared.instruction.Operand.TheVariants.{Rel}
use Rattle.mdl_insn.specs.Addresses.{may_address}
use Rattle.insn_decode.specs.Selection.{chosen_by}
use Rattle.insn_decode.proofs.Placing.{own_ok_at}
use Rattle.insn_decode.proofs.operands.distance.Goals as goal

pub returns-in_ok-x-in-Jb-clause-runs : goal.returns-in_ok-x-in-Jb-clause-runs
returns-in_ok-x-in-Jb-clause-runs g c =
    let h = c.in-Jb.is in
    let same : c.args.form ≡ Jb = cc in
    own_ok_at g.F.Fetch.gives c.args.k.now.setting.now (chosen_by c.args.k.now) c.args.form Jb _ c.args.count.now c.args.fetch.now c.in_ok-x-in-Jb.x _ _ _ same refl (ap may_address same) c.in_ok-x-in-Jb.ensures.runs (ap Rel c.extend.ensures)

pub returns-in_ok-x-in-Jv-clause-runs : goal.returns-in_ok-x-in-Jv-clause-runs
returns-in_ok-x-in-Jv-clause-runs g c =
    let h = c.in-Jv.is in
    let same : c.args.form ≡ Jv = cc in
    own_ok_at g.F.Fetch.gives c.args.k.now.setting.now (chosen_by c.args.k.now) c.args.form Jv _ c.args.count.now c.args.fetch.now c.in_ok-x-in-Jv.x _ _ _ same refl (ap may_address same) c.in_ok-x-in-Jv.ensures.runs c.relative.ensures
