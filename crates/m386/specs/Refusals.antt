-- The refusals: the line and the status of each.
use Rattle.std.specs.Prelude.{ℕ, ◌+◌, List, [], ◌++◌, codes}
use Rattle.std.specs.Fmt.{decimal}
use Rattle.host_io.specs.declared.host.InSlot.TheVariants.{Rom, Disk, Script, Commands}
use Rattle.host_io.specs.declared.host.OutSlot.TheVariants.{Report, Mem, Save}
use Rattle.host_io.specs.declared.host.Slot.{Slot}
use Rattle.host_io.specs.declared.host.Slot.TheVariants.{In, Out}
use Rattle.monitor.specs.Session.{most_commands}
use Rattle.m386.specs.declared.refusals.Refusal.{Refusal}
use Rattle.m386.specs.declared.refusals.Refusal.TheVariants as refusals
use Rattle.m386.specs.declared.status.Status.{Status}
use Rattle.m386.specs.declared.status.Status.TheVariants as statuses

-- ---- lines

-- a slot's name in lower case
abbrev pub slot_name : Slot → List ℕ
slot_name (In Rom) = codes "rom"
slot_name (In Disk) = codes "disk"
slot_name (In Script) = codes "script"
slot_name (In Commands) = codes "commands"
slot_name (Out Report) = codes "report"
slot_name (Out Mem) = codes "mem"
slot_name (Out Save) = codes "save"

unfoldable pub words_line : List ℕ
words_line = codes "m386: bad words\n"

unfoldable pub fault_line : Slot → List ℕ
fault_line slot = codes "m386: host fault at " ++ slot_name slot ++ codes "\n"

unfoldable pub length_line : Slot → ℕ → List ℕ
length_line slot n = codes "m386: " ++ slot_name slot ++ codes " length " ++ decimal n ++ codes "\n"

-- the number of the script's first bad line
unfoldable pub script_line : ℕ → List ℕ
script_line n = codes "m386: script line " ++ decimal n ++ codes "\n"

-- the line of a refusal; want of memory has none
abbrev pub line_of : Refusal → List ℕ
line_of refusals.Memory = []
line_of refusals.Words = words_line
line_of (refusals.HostFault slot) = fault_line slot
line_of (refusals.Length slot n) = length_line (In slot) n
line_of (refusals.Script n) = script_line n
line_of (refusals.Late slot) = fault_line (Out slot)
line_of refusals.Commands = fault_line (In Commands)
line_of refusals.TooLong = length_line (In Commands) (most_commands + 1)

-- ---- statuses

abbrev pub status_of : Refusal → Status
status_of refusals.Memory = statuses.Memory
status_of refusals.Words = statuses.Usage
status_of (refusals.HostFault slot) = statuses.HostFault
status_of (refusals.Length slot n) = statuses.Image
status_of (refusals.Script n) = statuses.Script
status_of (refusals.Late slot) = statuses.HostFault
status_of refusals.Commands = statuses.HostFault
status_of refusals.TooLong = statuses.Image

-- the number with which the program ends
abbrev pub number_of : Status → ℕ
number_of statuses.Done = 0
number_of statuses.Memory = 1
number_of statuses.Usage = 2
number_of statuses.HostFault = 3
number_of statuses.Image = 4
number_of statuses.Script = 5
