-- What a machine is fed with: its inputs, whole, each of a length that it may have, and the events of the script.
use Rattle.std.specs.Prelude.{◌≡◌, ◌≤◌, ◌+◌, ⊤, ℕ, List, [], length, min, Option, None, Some}
use Rattle.host_io.specs.declared.host.InSlot.{InSlot}
use Rattle.host_io.specs.declared.host.InSlot.TheVariants.{Rom, Disk, Script, Commands}
use Rattle.host_io.specs.Transfers.{IsWhole}
use Rattle.command_words.specs.Jobs.{Machine}
use Rattle.mdl_dev.specs.Disk.{IsDiskLength}
use Rattle.mdl_state.specs.declared.Event.{Event}
use Rattle.mdl_state.specs.Memory.{IsRomLength}
use Rattle.mdl_text.specs.Script as texts
use Rattle.mdl_text.specs.Script.{IsFirstBad}
use Rattle.m386.specs.Slots.{Left, input_path}

-- ---- lengths

-- the most bytes of an input
abbrev pub limit_of : InSlot → ℕ
limit_of Rom = 0x40000
limit_of Disk = 0x8000000
limit_of Script = 0x400000
limit_of Commands = 0x1000000

-- a length that an input may have
abbrev pub IsFit : InSlot → ℕ → Type 0
IsFit Rom n = IsRomLength n
IsFit Disk n = IsDiskLength n
IsFit Script n = n ≤ limit_of Script
IsFit Commands n = n ≤ limit_of Commands

-- where the host tells, the input has this length, or one more than the limit where it has more than that
-- Own: The length of an image that is too long
abbrev pub IsLength : ℕ → Option (List ℕ) → ℕ → Type 0
IsLength limit None n = ⊤
IsLength limit (Some bytes) n = n ≡ min (length bytes) (limit + 1)

-- ---- inputs

-- the bytes of an input: all that it had left where the words name it, and else none
abbrev pub IsInput : Option (List ℕ) → Option (List ℕ) → List ℕ → Type 0
IsInput None left bytes = bytes ≡ []
IsInput (Some path) left bytes = IsWhole left bytes

-- an input of the machine, whole and of a length that it may have
pub record IsAccepted (machine : Machine) (left : Left) (slot : InSlot) (bytes : List ℕ) : Type 0 where
  pub whole : IsInput (input_path machine slot) (left slot) bytes
  pub fits : IsFit slot (length bytes)

-- some bytes of the input are so
abbrev pub HasAccepted : Machine → Left → InSlot → Type 0
HasAccepted machine left slot = (bytes : List ℕ) × IsAccepted machine left slot bytes

-- what a machine is fed with
pub record Fed : Type 0 where
  pub rom : List ℕ
  pub disk : List ℕ
  pub events : List Event

-- the ROM, the disk and the events of the script
pub record IsFed (machine : Machine) (left : Left) (fed : Fed) : Type 0 where
  pub rom : IsAccepted machine left Rom fed.rom
  pub disk : IsAccepted machine left Disk fed.disk
  pub script : List ℕ
  pub read : IsAccepted machine left Script script
  pub events : texts.Script script fed.events

-- ---- inputs that are refused

-- the inputs that are read before one, in the order ROM, disk, script, are accepted
abbrev pub AreBeforeAccepted : Machine → Left → InSlot → Type 0
AreBeforeAccepted machine left Rom = ⊤
AreBeforeAccepted machine left Disk = HasAccepted machine left Rom
AreBeforeAccepted machine left Script = HasAccepted machine left Rom × HasAccepted machine left Disk
AreBeforeAccepted machine left Commands = ⊥

-- all before was accepted, the words name this input, and it has this length, which it may not have
pub record IsLengthWrong (machine : Machine) (left : Left) (slot : InSlot) (n : ℕ) : Type 0 where
  pub before : AreBeforeAccepted machine left slot
  pub path : List ℕ
  pub named : input_path machine slot ≡ Some path
  pub told : IsLength (limit_of slot) (left slot) n
  pub wrong : ¬ (IsFit slot n)

-- all before was accepted, and the script, read whole, has this first bad line
pub record IsScriptWrong (machine : Machine) (left : Left) (n : ℕ) : Type 0 where
  pub before : AreBeforeAccepted machine left Script
  pub script : List ℕ
  pub read : IsAccepted machine left Script script
  pub bad : IsFirstBad script n
