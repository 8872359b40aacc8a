-- What it means that a session of the monitor is done, and what the report has of one that is not.
use Rattle.std.specs.Prelude.{◌≡◌, ℕ, List, Option}
use Rattle.host_io.specs.declared.host.InSlot.TheVariants.{Commands}
use Rattle.host_io.specs.declared.host.OutSlot.{OutSlot}
use Rattle.host_io.specs.declared.host.OutSlot.TheVariants.{Report}
use Rattle.host_io.specs.declared.host.Slot.{Slot}
use Rattle.host_io.specs.Slots.{SameBut}
use Rattle.command_words.specs.Jobs.{Machine, Monitor}
use Rattle.mdl_board.specs.Board.{BoardState}
use Rattle.mdl_state.specs.Machine as written
use Rattle.mdl_step.specs.Computer.{powered}
use Rattle.pc_machine.specs.Runs.{RanFor}
use Rattle.monitor.specs.Session.{IsSession, IsBegun, IsBrokenOff, IsTooLong}
use Rattle.m386.specs.Slots.{Left, Took, Paths, OpenedAs, path_for}
use Rattle.m386.specs.Inputs.{Fed, IsFed}

-- a machine that is fed with its inputs, at power on, where the events of the count 0 were applied
pub record IsStarted (machine : Machine) (left : Left) : Type 0 where
  pub fed : Fed
  pub is_fed : IsFed machine left fed
  pub start : written.Machine BoardState
  pub at_power_on : RanFor fed.events 0 (powered machine.ram fed.rom fed.disk) start

-- What the report took grew by exactly the answers of a session over the commands, which steps this machine with the events of its
-- script, and no other output took anything. Each slot that the words name was opened with its path, the report and the
-- commands with the empty one, and no other.
pub record Monitored (machine : Machine) (left : Left) (before now : Took) (paths_before paths_now : Paths) : Type 0 where
  pub started : IsStarted machine left
  pub last : written.Machine BoardState
  pub session : IsSession started.fed.events started.start last (left Commands) (before Report) (now Report)
  pub others : SameBut Report before now
  pub opened : (slot : Slot) → OpenedAs (path_for (Monitor machine) slot) (paths_before slot) (paths_now slot)

-- ---- sessions that are not done

-- the report has the answers to some lines, and some first bytes of the next answer
pub record IsAnswerCut (machine : Machine) (left : Left) (before now : Took) (slot : OutSlot) : Type 0 where
  pub is_report : slot ≡ Report
  pub started : IsStarted machine left
  pub last : written.Machine BoardState
  pub session : IsBrokenOff started.fed.events started.start last (left Commands) (before Report) (now Report)
  pub others : SameBut Report before now

-- the report has the answers to all whole lines that were taken of the commands
pub record IsInterrupted (machine : Machine) (left left_now : Left) (before now : Took) : Type 0 where
  pub started : IsStarted machine left
  pub last : written.Machine BoardState
  pub session : IsBegun started.fed.events started.start last (left Commands) (left_now Commands) (before Report) (now Report)
  pub others : SameBut Report before now

-- the commands have more bytes than they may have, no whole line among those is `q`, and the report has the answers to these lines
pub record IsOverlong (machine : Machine) (left : Left) (before now : Took) : Type 0 where
  pub started : IsStarted machine left
  pub last : written.Machine BoardState
  pub session : IsTooLong started.fed.events started.start last (left Commands) (before Report) (now Report)
  pub others : SameBut Report before now
