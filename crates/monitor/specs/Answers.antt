-- The answer to each command: what it does to the machine and to the breakpoints, and its text. Own: The answers of the monitor
use Rattle.std.specs.Prelude.{◌≡◌, ◌≤◌, ◌-◌, ⊤, ℕ, zero, suc, Bool, true, false, List, [], ◌++◌, min, Option}
use Rattle.std.specs.Io.KnownBytes.{Appends}
use Rattle.host_io.specs.Transfers.{AppendsPrefix}
use Rattle.mdl_board.specs.Board.{BoardState}
use Rattle.mdl_state.specs.declared.Event.{Event}
use Rattle.mdl_state.specs.Machine.{Machine}
use Rattle.mdl_text.specs.CommandLine.{most_steps}
use Rattle.mdl_text.specs.declared.command.Command.{Command}
use Rattle.mdl_text.specs.declared.command.Command.TheVariants as commands
use Rattle.mdl_step.specs.Report.{register_lines, screen_lines}
use Rattle.reports.specs.Shown.{start_of, cursor_of}
use Rattle.monitor.specs.Bytes.{bytes_lines}
use Rattle.monitor.specs.Moves.{Makes, Continues, steps_left}
use Rattle.monitor.specs.Places.{IsPlace, ListsAt}
use Rattle.monitor.specs.Stops.{with_stop, add_text, without_stop, drop_text}

-- ---- parts of answers

-- so many times a step, where there may be one more, and a place line
abbrev pub Traces : List Event → ℕ → Machine BoardState → Machine BoardState → List ℕ → Type 0
Traces events zero m n text = (n ≡ m) × (text ≡ [])
Traces events (suc count) m n text =
    (mid : Machine BoardState) × (before line : List ℕ) × Traces events count m mid before × Makes events (min 1 (steps_left mid)) mid n
    × IsPlace n line × (text ≡ before ++ line)

-- the text of the report's first seventeen lines
abbrev pub registers_text : Machine BoardState → List ℕ
registers_text m = register_lines m.state m.state.mem.walks (start_of m.board.screen) (cursor_of m.board.screen)

-- ---- commands

-- how many steps `c` makes at most
unfoldable pub most_continued : ℕ
most_continued = 10000000

-- the command asks for no more than a line can
abbrev pub IsShort : Command → Type 0
IsShort (commands.Trace count) = count ≤ 1000
IsShort (commands.Bytes at count) = count ≤ 4096
IsShort (commands.List at count) = count ≤ 100
IsShort command = ⊤

-- what a command does to the machine with these events, and its text; stops are the breakpoints that stand
abbrev pub Shows : Command → List Event → List ℕ → Machine BoardState → Machine BoardState → List ℕ → Type 0
Shows (commands.Steps count) events stops m n text = Makes events (min count (steps_left m)) m n × IsPlace n text
Shows (commands.Trace count) events stops m n text = Traces events count m n text
Shows (commands.Go to) events stops m n text = Makes events (min to most_steps - m.state.core.steps) m n × IsPlace n text
Shows commands.Continue events stops m n text = Continues events stops (min most_continued (steps_left m)) m n × IsPlace n text
Shows (commands.AddStop at) events stops m n text = (n ≡ m) × (text ≡ add_text stops at)
Shows (commands.DropStop at) events stops m n text = (n ≡ m) × (text ≡ drop_text stops at)
Shows commands.Registers events stops m n text = (n ≡ m) × (text ≡ registers_text m)
Shows commands.Screen events stops m n text = (n ≡ m) × (text ≡ screen_lines m.state.mem.physical (start_of m.board.screen))
Shows (commands.Bytes at count) events stops m n text = (n ≡ m) × (text ≡ bytes_lines m.state.mem.physical at count)
Shows (commands.List at count) events stops m n text = (n ≡ m) × ListsAt m count at text
Shows commands.Quit events stops m n text = (n ≡ m) × (text ≡ [])

-- the breakpoints behind a command
abbrev pub stops_after : Command → List ℕ → List ℕ
stops_after (commands.AddStop at) stops = with_stop stops at
stops_after (commands.DropStop at) stops = without_stop stops at
stops_after command stops = stops

-- the session ends with `q`
abbrev pub goes_on : Command → Bool
goes_on commands.Quit = false
goes_on command = true

-- ---- what the report took

-- it grew by the whole answer
pub record Answers (command : Command) (events : List Event) (stops : List ℕ) (m n : Machine BoardState) (before now : Option (List ℕ)) : Type 0 where
  pub text : List ℕ
  pub shows : Shows command events stops m n text
  pub report : Appends before now text

-- it grew by some first bytes of the answer
pub record AnswersInPart (command : Command) (events : List Event) (stops : List ℕ) (m n : Machine BoardState) (before now : Option (List ℕ)) : Type 0 where
  pub text : List ℕ
  pub shows : Shows command events stops m n text
  pub report : AppendsPrefix before now text
