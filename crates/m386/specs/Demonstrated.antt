-- What it means that a demo is done.
use Rattle.std.specs.Prelude.{◌≡◌, ℕ, List, [], Option}
use Rattle.std.specs.Io.KnownBytes.{Appends}
use Rattle.host_io.specs.declared.host.OutSlot.{OutSlot}
use Rattle.host_io.specs.declared.host.OutSlot.TheVariants.{Report}
use Rattle.host_io.specs.declared.host.Slot.{Slot}
use Rattle.host_io.specs.Slots.{SameBut}
use Rattle.host_io.specs.Transfers.{AppendsPrefix}
use Rattle.command_words.specs.Jobs as jobs
use Rattle.mdl_step.specs.Run.{walk_count}
use Rattle.mdl_text.specs.Demo.{Demo}
use Rattle.m386.specs.Slots.{Took, Paths, OpenedAs, path_for}
use Rattle.m386.specs.Inputs.{Fed}
use Rattle.m386.specs.Headline.{Ran, report_of}

-- the machine of a demo has the ROM of its number and no disk, and nothing happens from outside
abbrev pub demo_fed : ℕ → Fed
demo_fed number = record { rom = Demo number; disk = []; events = [] }

-- it has 4 mebibytes of RAM, and makes a million steps
abbrev pub demo_ram : ℕ
demo_ram = 4

abbrev pub demo_steps : ℕ
demo_steps = 1000000

-- What the report took grew by exactly the report of the run's last state, and no other output took anything. The report was
-- opened with the empty path, and no other slot.
pub record Demonstrated (number : ℕ) (before now : Took) (paths_before paths_now : Paths) : Type 0 where
  pub ran : Ran demo_ram (demo_fed number) demo_steps
  pub report : Appends (before Report) (now Report) (report_of ran.last (walk_count ran.choices))
  pub others : SameBut Report before now
  pub opened : (slot : Slot) → OpenedAs (path_for (jobs.Demo number) slot) (paths_before slot) (paths_now slot)

-- the report has some first bytes of the report of such a run
pub record IsDemoCut (number : ℕ) (before now : Took) (slot : OutSlot) : Type 0 where
  pub is_report : slot ≡ Report
  pub ran : Ran demo_ram (demo_fed number) demo_steps
  pub report : AppendsPrefix (before Report) (now Report) (report_of ran.last (walk_count ran.choices))
  pub others : SameBut Report before now
