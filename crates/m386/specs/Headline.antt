-- The headline: what it means that a run is done.
use Rattle.std.specs.Prelude.{◌≡◌, ◌<◌, ℕ, List, length, Option, Some}
use Rattle.std.specs.Option.{option_map}
use Rattle.host_io.specs.declared.host.OutSlot.{OutSlot}
use Rattle.host_io.specs.declared.host.OutSlot.TheVariants.{Report, Mem, Save}
use Rattle.host_io.specs.declared.host.Slot.{Slot}
use Rattle.command_words.specs.Jobs.{RunJob, Run}
use Rattle.mdl_dev.specs.DiskImage.{disk_bytes}
use Rattle.mdl_board.specs.Board.{BoardState}
use Rattle.mdl_state.specs.State.{Choice}
use Rattle.mdl_state.specs.Machine.{Machine}
use Rattle.mdl_step.specs.Report.{report_text}
use Rattle.mdl_step.specs.Computer.{board_rules, on_board, powered, run_policy, start_of, cursor_of}
use Rattle.mdl_step.specs.Run as written
use Rattle.mdl_step.specs.Run.{walk_count}
use Rattle.m386.specs.Slots.{Left, Took, Paths, OpenedAs, path_for, Gets}
use Rattle.m386.specs.Inputs.{Fed, IsFed}

-- Some choices, one a step, make a run of the written machine, from power on with so much RAM and with what it is fed
-- with, of so many steps, to this last state. The items of the choices meet the policy of the memory that runs.
pub record Ran (ram : ℕ) (fed : Fed) (steps : ℕ) : Type 0 where
  pub choices : List Choice
  pub last : Machine BoardState
  pub as_many : length choices ≡ steps
  pub run : written.Run board_rules on_board fed.events run_policy (powered ram fed.rom fed.disk) choices last

-- the report of a machine, with the number of walks
abbrev pub report_of : Machine BoardState → ℕ → List ℕ
report_of m walks = report_text m.state walks (start_of m.board) (cursor_of m.board)

-- what each output takes: the report; RAM and the bytes of the disk, where the words say so
abbrev pub text_for : RunJob → Machine BoardState → ℕ → OutSlot → Option (List ℕ)
text_for job last walks Report = Some (report_of last walks)
text_for job last walks Mem = option_map (λ path. last.state.mem.physical.ram) job.mem
text_for job last walks Save = option_map (λ path. disk_bytes last.board.disk) job.save

-- The job is a run of so many steps of a machine. Its ROM, disk and script are what the inputs had left. What each output
-- took grew by exactly its text, of the last state of the run. Each slot that the job names was opened with its path,
-- the report with the empty one, and no other.
pub record Headline (job : RunJob) (left : Left) (before now : Took) (paths_before paths_now : Paths) : Type 0 where
  pub fed : Fed
  pub is_fed : IsFed job.machine left fed
  pub ran : Ran job.machine.ram fed job.steps
  pub outputs : (slot : OutSlot) → Gets (text_for job ran.last (walk_count ran.choices) slot) (before slot) (now slot)
  pub opened : (slot : Slot) → OpenedAs (path_for (Run job) slot) (paths_before slot) (paths_now slot)
