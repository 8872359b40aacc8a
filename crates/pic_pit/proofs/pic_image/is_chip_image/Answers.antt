use Rattle.std.proofs.Common.{arith}
use Rattle.std.proofs.lemmas.Bool.Decides.{nat_tests}
use Rattle.mdl_dev.specs.PicImage.{is_chip_image}
use Rattle.pic_pit.proofs.ChipBytes.{rest}
use Rattle.pic_pit.proofs.pic_image.is_chip_image.Goals as goal

pub returns : goal.returns
unfolding is_chip_image
returns c = grind (arith, nat_tests, rest c.args.bytes.now c.told-bytes, c.are_flags.ensures)
