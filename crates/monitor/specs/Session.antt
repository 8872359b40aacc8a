-- A session: the lines of the input, each answered before more of it is read, up to `q` or the end. Own: The lines of the monitor
use Rattle.std.specs.Prelude.{◌≡◌, ◌≢◌, ◌⊎◌, ◌<◌, ◌≤◌, ◌^◌, ⊤, ℕ, Bool, true, List, [], ◌∷◌, ◌++◌, length, Option, codes}
use Rattle.std.specs.Io.KnownBytes.{Appends, Consumes}
use Rattle.host_io.specs.declared.host.InSlot.TheVariants.{Commands}
use Rattle.host_io.specs.declared.host.OutSlot.TheVariants as outputs
use Rattle.host_io.specs.declared.host.Slot.{Slot}
use Rattle.host_io.specs.declared.host.Slot.TheVariants.{In, Out}
use Rattle.host_io.specs.Causes.{Rose}
use Rattle.host_io.specs.Promises.{Promise, IsSure, IsFull}
use Rattle.host_io.specs.Slots.{Same, SameBut}
use Rattle.host_io.specs.Transfers.{AppendsPrefix, IsWhole, IsOver}
use Rattle.mdl_board.specs.Board.{BoardState}
use Rattle.mdl_state.specs.declared.Event.{Event}
use Rattle.mdl_state.specs.Machine.{Machine}
use Rattle.mdl_text.specs.CommandInput.{line_feed, IsCut, text_of}
use Rattle.mdl_text.specs.CommandLine.{IsCommand, IsNoCommand}
use Rattle.mdl_text.specs.declared.command.Command.{Command}
use Rattle.mdl_text.specs.declared.command.Command.TheVariants.{Quit}
use Rattle.monitor.specs.declared.session.Broken.{Broken}
use Rattle.monitor.specs.declared.session.Broken.TheVariants as broken
use Rattle.monitor.specs.Answers.{Shows, stops_after, goes_on}

-- ---- lines and their answers

-- the answer to a line that is no command
abbrev pub no_command_text : List ℕ
no_command_text = codes "?\n"

-- the answer to a line, and what it does to the machine and to the breakpoints; the truth value tells whether the session goes on
abbrev pub AnswersLine : List Event → List ℕ → Bool → Machine BoardState → List ℕ → Machine BoardState → List ℕ → List ℕ → Type 0
AnswersLine events line on m stops n now text =
    ((command : Command) × IsCommand line command × (on ≡ goes_on command) × Shows command events stops m n text × (now ≡ stops_after command stops))
    ⊎ (IsNoCommand line × (on ≡ true) × (n ≡ m) × (now ≡ stops) × (text ≡ no_command_text))

-- the answers to lines, none of them `q`, one after the other
abbrev pub AnswersLines : List Event → List (List ℕ) → Machine BoardState → List ℕ → Machine BoardState → List ℕ → List ℕ → Type 0
AnswersLines events [] m stops n now text = (n ≡ m) × (now ≡ stops) × (text ≡ [])
AnswersLines events (line ∷ lines) m stops n now text =
    (mid : Machine BoardState) × (between first rest : List ℕ) × AnswersLine events (text_of line) true m stops mid between first
    × AnswersLines events lines mid between n now rest × (text ≡ first ++ rest)

-- The lines at the front of some bytes are answered, and a last one has begun. No breakpoint stands at first.
pub record Answered (events : List Event) (start : Machine BoardState) (bytes : List ℕ) (n : Machine BoardState) (stops last text : List ℕ) : Type 0 where
  pub lines : List (List ℕ)
  pub is_cut : IsCut bytes lines last
  pub answers : AnswersLines events lines start [] n stops text

-- ---- the end of a session

-- so many bytes are read at most
abbrev pub most_commands : ℕ
most_commands = 2 ^ 24

abbrev pub IsQuit : List ℕ → Type 0
IsQuit line = IsCommand (text_of line) Quit

-- a line ends between these bytes, at the end of the input or by a line feed, which is one of those that are read
abbrev pub EndsBetween : List ℕ → List ℕ → Type 0
EndsBetween bytes rest =
    ((rest ≡ []) × (length bytes ≤ most_commands)) ⊎ ((more : List ℕ) × (rest ≡ line_feed ∷ more) × (length bytes < most_commands))

-- behind the lines that are answered stands `q`, and whatever stands behind it is no matter
pub record EndsByQuit (events : List Event) (start : Machine BoardState) (input : List ℕ) (n : Machine BoardState) (text : List ℕ) : Type 0 where
  pub bytes : List ℕ
  pub rest : List ℕ
  pub whole : input ≡ bytes ++ rest
  pub ends : EndsBetween bytes rest
  pub quit : List ℕ
  pub is_quit : IsQuit quit
  pub stops : List ℕ
  pub answered : Answered events start bytes n stops quit text

-- all lines are answered
pub record EndsWhole (events : List Event) (start : Machine BoardState) (input : List ℕ) (n : Machine BoardState) (text : List ℕ) : Type 0 where
  pub within : length input ≤ most_commands
  pub stops : List ℕ
  pub answered : Answered events start input n stops [] text

-- all lines are answered, of which the last has no end
pub record EndsOpen (events : List Event) (start : Machine BoardState) (input : List ℕ) (n : Machine BoardState) (text : List ℕ) : Type 0 where
  pub within : length input ≤ most_commands
  pub last : List ℕ
  pub some : last ≢ []
  pub mid : Machine BoardState
  pub stops : List ℕ
  pub before : List ℕ
  pub answered : Answered events start input mid stops last before
  pub now : List ℕ
  pub more : List ℕ
  pub answer : AnswersLine events (text_of last) true mid stops n now more
  pub written : text ≡ before ++ more

-- the session over an input
abbrev pub Session : List Event → Machine BoardState → List ℕ → Machine BoardState → List ℕ → Type 0
Session events start input n text = EndsByQuit events start input n text ⊎ (EndsWhole events start input n text ⊎ EndsOpen events start input n text)

-- ---- what the report took

-- it grew by the text of the session over all that was left
pub record IsSession (events : List Event) (start n : Machine BoardState) (left before now : Option (List ℕ)) : Type 0 where
  pub input : List ℕ
  pub whole : IsWhole left input
  pub text : List ℕ
  pub session : Session events start input n text
  pub report : Appends before now text

-- the bytes that were read are answered: each line that has ended, and nothing of the one that has begun
pub record IsBegun (events : List Event) (start n : Machine BoardState) (left left_now before now : Option (List ℕ)) : Type 0 where
  pub bytes : List ℕ
  pub stops : List ℕ
  pub last : List ℕ
  pub text : List ℕ
  pub answered : Answered events start bytes n stops last text
  pub consumed : Consumes left left_now bytes
  pub report : Appends before now text

-- the report has the answers to some lines, and some first bytes of the next answer; the machine is as if all were written
pub record IsBrokenOff (events : List Event) (start n : Machine BoardState) (left before now : Option (List ℕ)) : Type 0 where
  pub bytes : List ℕ
  pub rest : Option (List ℕ)
  pub consumed : Consumes left rest bytes
  pub mid : Machine BoardState
  pub stops : List ℕ
  pub last : List ℕ
  pub text : List ℕ
  pub answered : Answered events start bytes mid stops last text
  pub on : Bool
  pub then : List ℕ
  pub more : List ℕ
  pub answer : AnswersLine events (text_of last) on mid stops n then more
  pub between : Option (List ℕ)
  pub report : Appends before between text
  pub part : AppendsPrefix between now more

-- the input has more bytes than are read, and the lines that end in these are answered, none of them `q`
pub record IsTooLong (events : List Event) (start n : Machine BoardState) (left before now : Option (List ℕ)) : Type 0 where
  pub over : IsOver most_commands left
  pub rest : Option (List ℕ)
  pub begun : IsBegun events start n left rest before now
  pub count : length begun.bytes ≡ most_commands

-- how a session ends before `q` and before the end of the input
abbrev pub IsBroken : Broken → List Event → Machine BoardState → Machine BoardState → Option (List ℕ) → Option (List ℕ) → Option (List ℕ) → Option (List ℕ) → Type 0
IsBroken broken.Report events start n left left_now before now = IsBrokenOff events start n left before now
IsBroken broken.Commands events start n left left_now before now = IsBegun events start n left left_now before now
IsBroken broken.TooLong events start n left left_now before now = IsTooLong events start n left before now

-- the count of no slot rose but that of the one that failed
abbrev pub IsCausedBy : Broken → (Slot → ℕ) → (Slot → ℕ) → Type 0
IsCausedBy broken.Report before now = Rose (before (Out outputs.Report)) (now (Out outputs.Report)) × SameBut (Out outputs.Report) before now
IsCausedBy broken.Commands before now = Rose (before (In Commands)) (now (In Commands)) × SameBut (In Commands) before now
IsCausedBy broken.TooLong before now = Same before now

-- where the host is sure of the slot, the input does not fail, and the report is full
abbrev pub IsExcused : Broken → Promise → Option (List ℕ) → Type 0
IsExcused broken.Report promise took = IsSure promise (Out outputs.Report) → IsFull promise outputs.Report took
IsExcused broken.Commands promise took = ¬ (IsSure promise (In Commands))
IsExcused broken.TooLong promise took = ⊤
