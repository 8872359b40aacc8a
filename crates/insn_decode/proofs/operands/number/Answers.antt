use Rattle.std.proofs.Common.{◌≡◌, refl, ap}
use Rattle.mdl_insn.specs.declared.rows.Form.TheVariants.{Ib, Is, Iv}
use Rattle.mdl_insn.specs.Addresses.{may_address}
use Rattle.insn_decode.specs.Selection.{chosen_by}
use Rattle.insn_decode.proofs.Placing.{own_ok_at}
use Rattle.insn_decode.proofs.operands.number.Goals as goal

pub returns-in_ok-x-in-Ib-clause-runs : goal.returns-in_ok-x-in-Ib-clause-runs
returns-in_ok-x-in-Ib-clause-runs g c =
    let h = c.in-Ib.is in
    let same : c.args.form ≡ Ib = cc in
    own_ok_at g.F.Fetch.gives c.args.k.now.setting.now (chosen_by c.args.k.now) c.args.form Ib _ c.args.count.now c.args.fetch.now c.in_ok-x-in-Ib.x _ _ _ same refl (ap may_address same) c.in_ok-x-in-Ib.ensures.runs c.immediate.ensures

pub returns-in_ok-x-in-Is-clause-runs : goal.returns-in_ok-x-in-Is-clause-runs
returns-in_ok-x-in-Is-clause-runs g c =
    let h = c.in-Is.is in
    let same : c.args.form ≡ Is = cc in
    own_ok_at g.F.Fetch.gives c.args.k.now.setting.now (chosen_by c.args.k.now) c.args.form Is _ c.args.count.now c.args.fetch.now c.in_ok-x-in-Is.x _ _ _ same refl (ap may_address same) c.in_ok-x-in-Is.ensures.runs c.signed.ensures

pub returns-in_ok-x-in-Iv-clause-runs : goal.returns-in_ok-x-in-Iv-clause-runs
returns-in_ok-x-in-Iv-clause-runs g c =
    let h = c.in-Iv.is in
    let same : c.args.form ≡ Iv = cc in
    own_ok_at g.F.Fetch.gives c.args.k.now.setting.now (chosen_by c.args.k.now) c.args.form Iv _ c.args.count.now c.args.fetch.now c.in_ok-x-in-Iv.x _ _ _ same refl (ap may_address same) c.in_ok-x-in-Iv.ensures.runs c.immediate-in-Iv.ensures
