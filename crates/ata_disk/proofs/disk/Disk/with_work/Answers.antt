use Rattle.std.proofs.Common.{rules, ◌≡◌, ◌/◌, List, ℕ, true, Option, Some, length, drop, ap, subst, sym, ◌∙◌}
use Rattle.std.proofs.lemmas.List.{take_rest}
use Rattle.mdl_dev.specs.declared.disk.Registers.{Registers}
use Rattle.mdl_dev.specs.declared.disk.Transfer.{Transfer}
use Rattle.mdl_dev.specs.Disk.{DiskState}
use Rattle.mdl_dev.specs.DiskImage.{sectors_of, told, is_geometry, is_possible}
use Rattle.ata_disk.proofs.ImageLaws.{in_range}
use Rattle.ata_disk.proofs.Sectors.{length-sectors_of}
use Rattle.ata_disk.proofs.disk.Disk.with_work.Goals as goal

-- src/image.rt:160:5
pub returns : goal.returns
returns c =
    let image = c.args.image.now in
    let state = told image (sectors_of c.args.bytes.items) c.args.work in
    let block : c.copy_from_slice.new.self ≡ drop 19 image = c.copy_from_slice.ensures.after ∙ take_rest image 19 in
    let shape : is_geometry state.geometry ≡ true = sym c.is_geometry.ensures ∙ c.if-not-is_geometry.false in
    let count : c.len.result ≡ length c.args.bytes.items = search rules in
    let total : c.len.result / 512 ≡ length (sectors_of c.args.bytes.items) = ap (λ n. n / 512) count ∙ sym (length-sectors_of c.args.bytes.items) in
    let test : is_possible (c.len.result / 512) c.transfer_in-transfer.result c.transfer_in-transfer.result.work ≡ true = sym c.is_possible.ensures.value ∙ c.if-not-is_possible.false in
    let possible : is_possible (length (sectors_of c.args.bytes.items)) state.transfer state.transfer.work ≡ true =
    subst (λ (t : Transfer). is_possible (length (sectors_of c.args.bytes.items)) t t.work ≡ true) c.transfer_in-transfer.ensures (subst (λ n. is_possible n c.transfer_in-transfer.result c.transfer_in-transfer.result.work ≡ true) total test) in
    let some : DiskState → Option DiskState = λ d. Some d in
    ap (λ (r : Registers). some (record state { registers = r; transfer = c.transfer_in-transfer.result; block = c.copy_from_slice.new.self })) c.registers_in.ensures
    ∙ ap (λ (t : Transfer). some (record state { transfer = t; block = c.copy_from_slice.new.self })) c.transfer_in-transfer.ensures
    ∙ ap (λ (b : List ℕ). some (record state { block = b })) block
    ∙ sym (in_range state shape possible)
