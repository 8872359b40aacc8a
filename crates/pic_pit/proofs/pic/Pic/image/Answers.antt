use Rattle.pic_pit.proofs.PairBytes.{pair_fits}
use Rattle.pic_pit.proofs.pic.Pic.image.Goals as goal

pub returns-clause-range : goal.returns-clause-range
returns-clause-range c =
    rw (c.copy_from_slice.ensures.after, c.copy_from_slice-2.ensures.after, c.chip_image.ensures, c.chip_image-2.ensures) (pair_fits (record { first = c.self.inside.first; second = c.self.inside.second }) c.self.invariant)
