-- What a host in memory has, and what its calls do. Own: a host in memory
use Rattle.std.specs.Prelude.{◌≡◌, ℕ, ◌+◌, ◌^◌, ◌-◌, ◌&&◌, List, [], ◌∷◌, length, None, Bool, false, true, nat_eq}
use Rattle.std.specs.Borrow.{Lends, MutBor, Fml}
use Rattle.std.specs.List.{list_any}
use Rattle.std.specs.Int.NonZero.{non_zero_u32_get}
use Rattle.host_io.specs.declared.host.InSlot.{InSlot}
use Rattle.host_io.specs.declared.host.InSlot.TheVariants.{Rom, Disk, Script, Commands}
use Rattle.host_io.specs.declared.host.OutSlot.{OutSlot}
use Rattle.host_io.specs.declared.host.OutSlot.TheVariants.{Report, Mem, Save}
use Rattle.host_io.specs.declared.host.Slot.{Slot}
use Rattle.host_io.specs.declared.host.Slot.TheVariants.{In, Out}
use Rattle.host_io.specs.declared.history.History.{History}
use Rattle.host_io.specs.declared.input.Input.{Input}
use Rattle.host_io.specs.declared.output.Output.{Output}
use Rattle.host_io.specs.declared.mem_host.MemHost.{MemHost}
use Rattle.host_io.specs.contracts.mem_host.MemHost.{the_row}
use Rattle.host_io.specs.contracts.input.Input as InputRow
use Rattle.host_io.specs.contracts.output.Output as OutputRow
use Rattle.host_io.specs.Causes.{risen}
use Rattle.host_io.specs.Openings.{Openings}
use Rattle.host_io.specs.Promises.{Promise}
use Rattle.host_io.specs.Inputs.{bytes_left}
use Rattle.host_io.specs.History.{openings_in}
use Rattle.host_io.specs.Slots.{Same}

-- ---- the slots

abbrev pub input_of : MemHost → InSlot → Input
input_of h Rom = h.rom
input_of h Disk = h.disk
input_of h Script = h.script
input_of h Commands = h.commands

abbrev pub with_input : MemHost → InSlot → Input → MemHost
with_input h Rom input = record h { rom = input }
with_input h Disk input = record h { disk = input }
with_input h Script input = record h { script = input }
with_input h Commands input = record h { commands = input }

abbrev pub output_of : MemHost → OutSlot → Output
output_of h Report = h.report
output_of h Mem = h.mem
output_of h Save = h.save

abbrev pub with_output : MemHost → OutSlot → Output → MemHost
with_output h Report output = record h { report = output }
with_output h Mem output = record h { mem = output }
with_output h Save output = record h { save = output }

abbrev pub history_of : MemHost → Slot → History
history_of h (In slot) = (input_of h slot).history
history_of h (Out slot) = (output_of h slot).history

-- the host ends with what is left behind r as its input
abbrev pub LendsInput : MutBor MemHost → InSlot → MutBor Input → Fml
LendsInput h slot r = Lends the_row InputRow.the_row h r (with_input h.now slot)

-- the host ends with what is left behind r as its output
abbrev pub LendsOutput : MutBor MemHost → OutSlot → MutBor Output → Fml
LendsOutput h slot r = Lends the_row OutputRow.the_row h r (with_output h.now slot)

-- ---- what can be told of a host

-- whether an input was put
abbrev pub was_put : MemHost → InSlot → Bool
was_put h slot = (input_of h slot).is_put

-- what an input has left; nothing where it was not put
abbrev pub left_of : MemHost → InSlot → List ℕ
left_of h slot = bytes_left (input_of h slot)

-- what an output took
abbrev pub took_of : MemHost → OutSlot → List ℕ
took_of h slot = (output_of h slot).bytes.items

-- how many more bytes an output takes
abbrev pub room_of : MemHost → OutSlot → ℕ
room_of h slot = (output_of h slot).room

-- how often a slot was opened, and the path of the last time
abbrev pub openings_of : MemHost → Slot → Openings
openings_of h slot = openings_in (history_of h slot)

-- how often the calls on a slot failed
abbrev pub faults_of : MemHost → Slot → ℕ
faults_of h slot = (history_of h slot).faults

-- how many calls of `Host` were made
abbrev pub calls_of : MemHost → ℕ
calls_of h = h.calls

-- the numbers of the calls that fail
abbrev pub listed_of : MemHost → List ℕ
listed_of h = h.failing.items

-- the most bytes that a read or a write hands over
abbrev pub piece_of : MemHost → ℕ
piece_of h = non_zero_u32_get h.piece

-- the number of the next call
abbrev pub next_call : MemHost → ℕ
next_call h = risen (calls_of h)

-- the next call is listed
abbrev pub is_listed : MemHost → Bool
is_listed h = list_any (λ call. nat_eq call (next_call h)) (listed_of h)

-- ---- what it promises

-- there is no call among these
abbrev pub is_none : List ℕ → Bool
is_none [] = true
is_none (call ∷ calls) = false

-- where no call is listed, it is sure of each input that was put, and of each output
abbrev pub sure_of : MemHost → Slot → Bool
sure_of h (In slot) = is_none (listed_of h) && was_put h slot
sure_of h (Out slot) = is_none (listed_of h)

-- how many bytes an output takes in all
abbrev pub most_of : MemHost → OutSlot → ℕ
most_of h slot = length (took_of h slot) + room_of h slot

-- paths have up to 255 bytes
abbrev pub promise_of : MemHost → Promise
promise_of h = record { sure = sure_of h; longest = 255; most = most_of h }

-- ---- what stays

-- what was taken, the openings and the counts
pub record SameHistory (before now : MemHost) : Type 0 where
  pub took : Same (took_of before) (took_of now)
  pub openings : Same (openings_of before) (openings_of now)
  pub faults : Same (faults_of before) (faults_of now)
  pub calls : calls_of now ≡ calls_of before

-- what is left, what was put, and the room
pub record SameEnds (before now : MemHost) : Type 0 where
  pub left : Same (left_of before) (left_of now)
  pub put : Same (was_put before) (was_put now)
  pub room : Same (room_of before) (room_of now)

-- the listed calls and the length of a piece
pub record SamePlan (before now : MemHost) : Type 0 where
  pub listed : listed_of now ≡ listed_of before
  pub piece : piece_of now ≡ piece_of before

-- one call was made, and what was put and planned stays
pub record IsNextCall (before now : MemHost) : Type 0 where
  pub calls : calls_of now ≡ next_call before
  pub put : Same (was_put before) (was_put now)
  pub plan : SamePlan before now

-- nothing was put, opened, taken or listed, there is no room, and no call was made
pub record IsNew (h : MemHost) : Type 0 where
  pub put : (slot : InSlot) → was_put h slot ≡ false
  pub left : (slot : InSlot) → left_of h slot ≡ []
  pub took : (slot : OutSlot) → took_of h slot ≡ []
  pub room : (slot : OutSlot) → room_of h slot ≡ 0
  pub openings : (slot : Slot) → openings_of h slot ≡ record { times = 0; last = None }
  pub faults : (slot : Slot) → faults_of h slot ≡ 0
  pub calls : calls_of h ≡ 0
  pub listed : listed_of h ≡ []
  pub piece : piece_of h ≡ 2 ^ 32 - 1
