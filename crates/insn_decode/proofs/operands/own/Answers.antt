use Rattle.std.proofs.Common.{◌≡◌, refl}
use Rattle.mdl_insn.specs.declared.rows.Form.TheVariants.{Iw}
use Rattle.insn_decode.specs.Selection.{chosen_by}
use Rattle.insn_decode.proofs.Placing.{own_ok_at}
use Rattle.insn_decode.proofs.operands.own.Goals as goal

pub returns-in_ok-x-in-Iw-clause-runs : goal.returns-in_ok-x-in-Iw-clause-runs
returns-in_ok-x-in-Iw-clause-runs g c =
    let h = c.in-Iw.is in
    let same : c.args.form ≡ Iw = cc in
    own_ok_at g.F.Fetch.gives c.args.k.now.setting.now (chosen_by c.args.k.now) c.args.form Iw _ c.args.count.now c.args.fetch.now c.in_ok-x-in-Iw.x _ _ _ same refl c.requires.form c.in_ok-x-in-Iw.ensures.runs c.immediate.ensures
