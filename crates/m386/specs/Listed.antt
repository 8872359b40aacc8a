-- What it means that a listing is done.
use Rattle.std.specs.Prelude.{ℕ, List, length, Option}
use Rattle.std.specs.Io.KnownBytes.{Appends}
use Rattle.host_io.specs.declared.host.InSlot.TheVariants.{Rom}
use Rattle.host_io.specs.declared.host.OutSlot.TheVariants.{Report}
use Rattle.host_io.specs.declared.host.Slot.{Slot}
use Rattle.host_io.specs.Slots.{SameBut}
use Rattle.host_io.specs.Transfers.{IsWhole}
use Rattle.command_words.specs.Jobs.{DisJob, Dis}
use Rattle.mdl_state.specs.Memory.{IsRomLength}
use Rattle.mdl_insn.specs.Listing.{IsListing}
use Rattle.m386.specs.Slots.{Left, Took, Paths, OpenedAs, path_for}

-- the bytes of the ROM of a listing: all that its input had left
pub record IsRom (left : Left) (rom : List ℕ) : Type 0 where
  pub whole : IsWhole (left Rom) rom
  pub size : IsRomLength (length rom)

-- The job is a listing of a ROM. What the report took grew by exactly the listing of these bytes from the offset, with at most
-- so many lines, and no other output took anything. The ROM was opened with the job's path, the report with the empty
-- one, and no other slot.
pub record Listed (job : DisJob) (left : Left) (before now : Took) (paths_before paths_now : Paths) : Type 0 where
  pub rom : List ℕ
  pub is_rom : IsRom left rom
  pub text : List ℕ
  pub listing : IsListing rom job.from job.count job.big text
  pub report : Appends (before Report) (now Report) text
  pub others : SameBut Report before now
  pub opened : (slot : Slot) → OpenedAs (path_for (Dis job) slot) (paths_before slot) (paths_now slot)
