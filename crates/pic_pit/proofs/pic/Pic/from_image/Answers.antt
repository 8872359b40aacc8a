use Rattle.std.proofs.Common.{◌≡◌, ◌∙◌, ap, true, Some}
use Rattle.mdl_dev.specs.PicImage.{is_image}
use Rattle.pic_pit.proofs.PairBytes.{pair_fits, same_pair, are_fit, made, made_sound}
use Rattle.pic_pit.proofs.pic.Pic.from_image.Goals as goal

pub returns-then-not-is_image-clause-back : goal.returns-then-not-is_image-clause-back
returns-then-not-is_image-clause-back c pair sound same = cc (pair_fits pair sound, c.is_image.ensures)

pub chip_of-requires : goal.chip_of-requires
chip_of-requires c =
    let fit : is_image c.args.bytes.now ≡ true = cc in
    rw c.chip_bytes.ensures (are_fit c.args.bytes.now fit).first

pub chip_of-requires-2 : goal.chip_of-requires-2
chip_of-requires-2 c =
    let fit : is_image c.args.bytes.now ≡ true = cc in
    rw c.chip_bytes-2.ensures (are_fit c.args.bytes.now fit).second

pub invariant_of-result : goal.invariant_of-result
invariant_of-result c =
    let fit : is_image c.args.bytes.now ≡ true = cc in
    let same = made _ _ c.args.bytes.now c.told-bytes (c.chip_of.ensures.image ∙ c.chip_bytes.ensures) (c.chip_of-2.ensures.image ∙ c.chip_bytes-2.ensures) in
    made_sound _ _ c.args.bytes.now same (are_fit c.args.bytes.now fit) c.chip_of.ensures.sound c.chip_of-2.ensures.sound

pub returns-clause-image : goal.returns-clause-image
returns-clause-image c =
    made _ _ c.args.bytes.now c.told-bytes (c.chip_of.ensures.image ∙ c.chip_bytes.ensures) (c.chip_of-2.ensures.image ∙ c.chip_bytes-2.ensures)

pub returns-clause-back : goal.returns-clause-back
returns-clause-back c pair sound is =
    let same = made _ _ c.args.bytes.now c.told-bytes (c.chip_of.ensures.image ∙ c.chip_bytes.ensures) (c.chip_of-2.ensures.image ∙ c.chip_bytes-2.ensures) in
    ap Some (same_pair _ pair (same ∙ is))
