-- The steps of writing the outputs of a run, and why each is refused.
use Rattle.std.specs.Prelude.{◌≡◌, ℕ, List, Option}
use Rattle.host_io.specs.declared.host.OutSlot.{OutSlot}
use Rattle.host_io.specs.declared.host.OutSlot.TheVariants.{Report}
use Rattle.host_io.specs.declared.host.Slot.TheVariants.{Out}
use Rattle.host_io.specs.Slots.{Same}
use Rattle.host_io.specs.Transfers.{AppendsPrefix}
use Rattle.mdl_dev.specs.DiskImage.{disk_bytes}
use Rattle.mdl_board.specs.Board.{BoardState}
use Rattle.mdl_state.specs.Machine.{Machine}
use Rattle.m386.specs.declared.outputs.Image.{Image}
use Rattle.m386.specs.declared.outputs.Image.TheVariants.{Ram, Disk}
use Rattle.m386.specs.declared.refusals.Refusal.{Refusal}
use Rattle.m386.specs.declared.refusals.Refusal.TheVariants as refusals
use Rattle.m386.specs.Slots.{Took, IsCutAt}

-- the bytes of an image
abbrev pub image_bytes : Image → Machine BoardState → List ℕ
image_bytes Ram m = m.state.mem.physical.ram
image_bytes Disk m = disk_bytes m.board.disk

-- why a report is not written: it was not opened, or it has some first bytes of it
abbrev pub IsReportRefused : List ℕ → Option (List ℕ) → Option (List ℕ) → Refusal → Type 0
IsReportRefused text before now (refusals.HostFault slot) = (slot ≡ Out Report) × (now ≡ before)
IsReportRefused text before now (refusals.Late slot) = (slot ≡ Report) × AppendsPrefix before now text
IsReportRefused text before now _ = ⊥

-- why an image is not written: a failure at its output, which comes behind the report
abbrev pub IsImageRefused : OutSlot → Refusal → Type 0
IsImageRefused slot (refusals.Late other) = other ≡ slot
IsImageRefused slot _ = ⊥

-- why the outputs of a run are not written: the report was not opened, or they have their texts up to some first bytes of one
abbrev pub IsWriteRefused : (OutSlot → Option (List ℕ)) → Took → Took → Refusal → Type 0
IsWriteRefused texts before now (refusals.HostFault slot) = Same before now
IsWriteRefused texts before now (refusals.Late slot) = IsCutAt slot texts before now
IsWriteRefused texts before now _ = ⊥
