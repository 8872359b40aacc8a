use Rattle.std.proofs.Common.{◌≡◌, refl, ap}
use Rattle.mdl_insn.specs.declared.rows.Form.TheVariants.{Ob, Ov, P}
use Rattle.mdl_state.specs.Bytes.{bytes_of}
use Rattle.insn_decode.specs.Selection.{chosen_by}
use Rattle.insn_decode.proofs.Placing.{own_ok_at}
use Rattle.insn_decode.proofs.operands.target.Goals as goal

pub returns-in_ok-x-in-Ob-clause-runs : goal.returns-in_ok-x-in-Ob-clause-runs
returns-in_ok-x-in-Ob-clause-runs g c =
    let h = c.in-Ob.is in
    let same : c.args.form ≡ Ob = cc in
    own_ok_at g.F.Fetch.gives c.args.k.now.setting.now (chosen_by c.args.k.now) c.args.form Ob _ c.args.count.now c.args.fetch.now c.in_ok-x-in-Ob.x _ _ _ same (ap bytes_of c.size_of_address.ensures) c.requires.form c.in_ok-x-in-Ob.ensures.runs c.offset.ensures

pub returns-in_ok-x-in-Ov-clause-runs : goal.returns-in_ok-x-in-Ov-clause-runs
returns-in_ok-x-in-Ov-clause-runs g c =
    let h = c.in-Ov.is in
    let same : c.args.form ≡ Ov = cc in
    own_ok_at g.F.Fetch.gives c.args.k.now.setting.now (chosen_by c.args.k.now) c.args.form Ov _ c.args.count.now c.args.fetch.now c.in_ok-x-in-Ov.x _ _ _ same (ap bytes_of c.size_of_address-in-Ov.ensures) c.requires.form c.in_ok-x-in-Ov.ensures.runs c.offset-in-Ov.ensures

pub returns-in_ok-x-in-P-clause-runs : goal.returns-in_ok-x-in-P-clause-runs
returns-in_ok-x-in-P-clause-runs g c =
    let h = c.in-P.is in
    let same : c.args.form ≡ P = cc in
    own_ok_at g.F.Fetch.gives c.args.k.now.setting.now (chosen_by c.args.k.now) c.args.form P _ c.args.count.now c.args.fetch.now c.in_ok-x-in-P.x _ _ _ same refl c.requires.form c.in_ok-x-in-P.ensures.runs c.far.ensures
