-- A disk is made again of its image.
use Rattle.std.specs.Prelude.{ℕ, ◌≡◌, ◌≤◌, ◌<◌, ◌+◌, ◌^◌, nat_lt, true, refl, Some, List, [], ◌++◌, length, take, drop}
use Rattle.std.proofs.Common.{arith, ap, ◌∙◌, append-nil, drop_of_length-le, length-take}
use Rattle.std.proofs.lemmas.List.{drop_at}
use Rattle.mdl_state.specs.Bytes.{little, little_bytes}
use Rattle.mdl_dev.specs.declared.disk.Geometry.{Geometry}
use Rattle.mdl_dev.specs.declared.disk.Transfer.{Transfer}
use Rattle.mdl_dev.specs.declared.disk.Work.{Work}
use Rattle.mdl_dev.specs.declared.disk.Work.TheVariants.{Nothing, Reading, Writing, Identifying}
use Rattle.mdl_dev.specs.Disk.{DiskState}
use Rattle.mdl_dev.specs.DiskImage.{work_byte, work_of, is_moving, is_possible, is_geometry, head_image, told, disk_image, disk_from_image, from_work, if_in_range}
use Rattle.ata_disk.specs.Sound.{IsMoving, IsPossible}

work_back : (work : Work) → work_of (work_byte work) ≡ Some work
work_back Nothing = refl
work_back Reading = refl
work_back Writing = refl
work_back Identifying = refl

moving_is : (total most : ℕ) (t : Transfer) → IsMoving total most t → is_moving total most t ≡ true
moving_is total most t m = let a : 0 < total = m.drive in let b : 1 ≤ t.left = m.some in let c : t.left ≤ most = m.left in let d : t.place < 512 = m.place in grind arith

possible_is : (total : ℕ) (t : Transfer) (work : Work) → IsPossible total t work → is_possible total t work ≡ true
possible_is total t Nothing p = rw (p.left, p.place, p.lba) refl
possible_is total t Reading p = let a = moving_is total 256 t p.moving in let b : t.lba < total = p.there in let c : nat_lt t.lba total ≡ true = grind arith in rw (a, c) refl
possible_is total t Writing p = let a = moving_is total 256 t p.moving in let b : t.lba < total = p.there in let c : nat_lt t.lba total ≡ true = grind arith in rw (a, c) refl
possible_is total t Identifying p = moving_is total 1 t p

two_back : (n : ℕ) → n < 2 ^ 16 → little (little_bytes 2 n) ≡ n
two_back n small = omega arith

four_back : (n : ℕ) → n < 2 ^ 32 → little (little_bytes 4 n) ≡ n
four_back n small = omega arith

shape_is : (g : Geometry) → 1 ≤ g.heads → g.heads ≤ 16 → 1 ≤ g.sectors → is_geometry g ≡ true
shape_is g some few sectors = grind arith

-- a state whose ranges hold is itself
pub in_range : (d : DiskState) → is_geometry d.geometry ≡ true → is_possible (length d.sectors) d.transfer d.transfer.work ≡ true → if_in_range d ≡ Some d
in_range d shape possible = rw (shape, possible) refl

-- the image of a state tells of it
told_back : (d : DiskState) → d.transfer.left < 2 ^ 16 → d.transfer.place < 2 ^ 16 → d.transfer.lba < 2 ^ 32 → told (disk_image d) d.sectors d.transfer.work ≡ d
unfolding disk_image
told_back d left place lba =
    let t : Transfer → DiskState = λ t. record d { transfer = t } in
    ap (λ n. t (record d.transfer { left = n; place = little (little_bytes 2 d.transfer.place); lba = little (little_bytes 4 d.transfer.lba) })) (two_back d.transfer.left left)
    ∙ ap (λ n. t (record d.transfer { place = n; lba = little (little_bytes 4 d.transfer.lba) })) (two_back d.transfer.place place)
    ∙ ap (λ n. t (record d.transfer { lba = n })) (four_back d.transfer.lba lba)

pub image_back : (d : DiskState) → 1 ≤ d.geometry.heads → d.geometry.heads ≤ 16 → 1 ≤ d.geometry.sectors → IsPossible (length d.sectors) d.transfer d.transfer.work →
    d.transfer.left < 2 ^ 16 → d.transfer.place < 2 ^ 16 → d.transfer.lba < 2 ^ 32 → disk_from_image (disk_image d) d.sectors ≡ Some d
unfolding disk_from_image disk_image
image_back d some few sectors possible left place lba =
    ap (from_work (disk_image d) d.sectors) (work_back d.transfer.work)
    ∙ ap if_in_range (told_back d left place lba)
    ∙ in_range d (shape_is d.geometry some few sectors) (possible_is (length d.sectors) d.transfer d.transfer.work possible)

-- an image is its head and the block
pub image_joined : (d : DiskState) → head_image d.registers d.transfer d.geometry ++ d.block ≡ disk_image d
unfolding disk_image
image_joined d = refl

-- behind the head of an image stands the block
pub behind_head : (image block : List ℕ) → length image ≡ 531 → length block ≡ 512 → drop 19 (take 19 image ++ block ++ drop (19 + 512) image) ≡ block
behind_head image block full whole =
    let none : drop (19 + 512) image ≡ [] = drop_of_length-le image {i = 19 + 512} (omega arith) in
    let head : length (take 19 image) ≡ 19 = omega (arith, length-take 19 image) in
    rw (none, append-nil) (drop_at (take 19 image) block 19 head)
