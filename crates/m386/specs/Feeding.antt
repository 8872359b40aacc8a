-- The steps of feeding a machine, and why each is refused.
use Rattle.std.specs.Prelude.{◌≡◌, ◌≢◌, ⊤, ℕ, List, Option, None}
use Rattle.host_io.specs.declared.host.InSlot.{InSlot}
use Rattle.host_io.specs.declared.host.Slot.TheVariants.{In}
use Rattle.command_words.specs.Jobs.{Machine}
use Rattle.mdl_text.specs.Script.{IsFirstBad}
use Rattle.m386.specs.declared.inputs.Inputs.{Inputs}
use Rattle.m386.specs.declared.refusals.Refusal.{Refusal}
use Rattle.m386.specs.declared.refusals.Refusal.TheVariants as refusals
use Rattle.m386.specs.Slots.{Left}
use Rattle.m386.specs.Inputs.{Fed, IsLength, IsFit, limit_of, IsLengthWrong, IsScriptWrong}

-- what a machine is fed with, as the code has it
abbrev pub fed_of : Inputs → Fed
fed_of inputs = record { rom = inputs.rom.items; disk = inputs.disk.items; events = inputs.events.items }

-- an input has a path
abbrev pub IsNamed : Option (List ℕ) → Type 0
IsNamed path = path ≢ None

-- why an input is not taken: want of memory, a failure at it, or its length
abbrev pub IsInputRefused : InSlot → Option (List ℕ) → Refusal → Type 0
IsInputRefused slot left refusals.Memory = ⊤
IsInputRefused slot left (refusals.HostFault other) = other ≡ In slot
IsInputRefused slot left (refusals.Length other n) = (other ≡ slot) × IsLength (limit_of slot) left n × ¬ (IsFit slot n)
IsInputRefused slot left _ = ⊥

-- why the bytes of a script give no events: want of memory, or a first bad line
abbrev pub IsLinesRefused : List ℕ → Refusal → Type 0
IsLinesRefused script refusals.Memory = ⊤
IsLinesRefused script (refusals.Script n) = IsFirstBad script n
IsLinesRefused script _ = ⊥

-- why a machine is not fed: the same, where all before was accepted
abbrev pub IsFeedRefused : Machine → Left → Refusal → Type 0
IsFeedRefused machine left refusals.Memory = ⊤
IsFeedRefused machine left (refusals.HostFault slot) = ⊤
IsFeedRefused machine left (refusals.Length slot n) = IsLengthWrong machine left slot n
IsFeedRefused machine left (refusals.Script n) = IsScriptWrong machine left n
IsFeedRefused machine left _ = ⊥
