use Rattle.std.proofs.Common.{◌≡◌, ◌++◌, List, ℕ, Some, length, ap, subst, ◌∙◌}
use Rattle.mdl_dev.specs.Disk.{DiskState}
use Rattle.mdl_dev.specs.DiskImage.{disk_image, disk_from_image, sectors_of}
use Rattle.ata_disk.specs.Sound.{IsPossible}
use Rattle.ata_disk.proofs.ImageLaws.{image_joined, image_back}
use Rattle.ata_disk.proofs.Sectors.{length-sectors_of}
use Rattle.ata_disk.specs.contracts.disk.Disk.{the_view}
use Rattle.ata_disk.proofs.disk.Disk.image.Goals as goal

-- src/image.rt:147:5
pub returns-clause-image : goal.returns-clause-image
returns-clause-image c =
    c.join.ensures ∙ ap (λ (head : List ℕ). head ++ c.self.inside.block) c.head_image-head.ensures.head ∙ image_joined _ ∙ ap disk_image c.self.view_is

-- src/image.rt:147:5
pub returns-clause-back : goal.returns-clause-back
returns-clause-back c =
    let made : c.join.new.image ≡ disk_image (the_view c.self.inside) = c.join.ensures ∙ ap (λ (head : List ℕ). head ++ c.self.inside.block) c.head_image-head.ensures.head ∙ image_joined (the_view c.self.inside) in
    let sound = c.self.invariant in
    let fits = c.head_image-head.ensures in
    let possible : IsPossible (length (sectors_of c.self.inside.bytes.items)) c.self.inside.transfer c.self.inside.transfer.work = rw length-sectors_of sound.transfer in
    let back = image_back (the_view c.self.inside) sound.some_heads sound.heads sound.sectors possible fits.left fits.place fits.lba in
    subst (λ (d : DiskState). disk_from_image c.join.new.image d.sectors ≡ Some d) c.self.view_is (rw made back)
