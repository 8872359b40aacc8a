use Rattle.std.proofs.Common.{◌<◌, slice_index, refl}
use Rattle.pic_pit.proofs.ChipBytes.{spelled, icw1_again, in_range}
use Rattle.pic_pit.proofs.pic_image.chip_of.Goals as goal

pub stage_of-requires : goal.stage_of-requires
stage_of-requires c = (in_range _ c.told-bytes c.requires).stage

pub flag_of-requires : goal.flag_of-requires
flag_of-requires c = (in_range _ c.told-bytes c.requires).seventh

pub flag_of-requires-2 : goal.flag_of-requires-2
flag_of-requires-2 c = (in_range _ c.told-bytes c.requires).eighth

pub flag_of-requires-3 : goal.flag_of-requires-3
flag_of-requires-3 c = (in_range _ c.told-bytes c.requires).ninth

pub flag_of-requires-4 : goal.flag_of-requires-4
flag_of-requires-4 c = (in_range _ c.told-bytes c.requires).tenth

pub shown_of-requires : goal.shown_of-requires
shown_of-requires c = (in_range _ c.told-bytes c.requires).eleventh

pub flag_of-requires-5 : goal.flag_of-requires-5
flag_of-requires-5 c = (in_range _ c.told-bytes c.requires).twelfth

pub returns-clause-image : goal.returns-clause-image
returns-clause-image c =
    let icw1 : slice_index c.args.bytes.now 6 < 4 = (in_range _ c.told-bytes c.requires).icw1 in
    rw (spelled 13 0 c.args.bytes.now c.told-bytes, c.stage_of.ensures, c.has.ensures, c.has-2.ensures, icw1_again (slice_index c.args.bytes.now 6) icw1, c.flag_of.ensures, c.flag_of-2.ensures, c.flag_of-3.ensures, c.flag_of-4.ensures, c.shown_of.ensures, c.flag_of-5.ensures) refl

pub returns-clause-sound : goal.returns-clause-sound
returns-clause-sound c = let r = in_range _ c.told-bytes c.requires in record { base = r.base; lowest = r.lowest }
