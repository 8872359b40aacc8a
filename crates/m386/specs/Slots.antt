-- The slots of a call: what each has, and the path with which a job opens it.
use Rattle.std.specs.Prelude.{◌≡◌, ◌⊎◌, ⊤, ℕ, List, [], Option, None, Some}
use Rattle.std.specs.Io.KnownBytes.{Appends}
use Rattle.host_io.specs.declared.host.InSlot.{InSlot}
use Rattle.host_io.specs.declared.host.InSlot.TheVariants.{Rom, Disk, Script, Commands}
use Rattle.host_io.specs.declared.host.OutSlot.{OutSlot}
use Rattle.host_io.specs.declared.host.OutSlot.TheVariants.{Report, Mem, Save}
use Rattle.host_io.specs.declared.host.Slot.{Slot}
use Rattle.host_io.specs.declared.host.Slot.TheVariants.{In, Out}
use Rattle.host_io.specs.Openings.{Openings, OpenedOnce}
use Rattle.host_io.specs.Transfers.{AppendsPrefix}
use Rattle.command_words.specs.Jobs.{Machine, RunJob, Job, Run, Dis, Demo, Monitor}

-- what each input has left, what each output took, the path with which each slot was last opened, and how often its calls failed
abbrev pub Left : Type 0
Left = InSlot → Option (List ℕ)

abbrev pub Took : Type 0
Took = OutSlot → Option (List ℕ)

abbrev pub Paths : Type 0
Paths = Slot → Option Openings

abbrev pub Counts : Type 0
Counts = Slot → ℕ

-- ---- paths

-- the path of an input of a machine, where it has one
abbrev pub input_path : Machine → InSlot → Option (List ℕ)
input_path m Rom = Some m.rom
input_path m Disk = m.disk
input_path m Script = m.script
input_path m Commands = None

-- the path of an output of a run, where it has one; the empty one is standard output
abbrev pub output_path : RunJob → OutSlot → Option (List ℕ)
output_path job Report = Some []
output_path job Mem = job.mem
output_path job Save = job.save

-- the path with which a job opens a slot, where it opens it
abbrev pub path_for : Job → Slot → Option (List ℕ)
path_for (Run job) (In slot) = input_path job.machine slot
path_for (Run job) (Out slot) = output_path job slot
path_for (Dis job) (In Rom) = Some job.rom
path_for (Dis job) (Out Report) = Some []
path_for (Dis job) slot = None
path_for (Demo number) (Out Report) = Some []
path_for (Demo number) slot = None
path_for (Monitor machine) (In Commands) = Some []
path_for (Monitor machine) (In slot) = input_path machine slot
path_for (Monitor machine) (Out Report) = Some []
path_for (Monitor machine) slot = None

-- the paths of words that ask for nothing: the report is opened for the line of a refusal
abbrev pub report_only : Slot → Option (List ℕ)
report_only (Out Report) = Some []
report_only slot = None

-- the slot was opened once, with its path, where it has one, and else not opened
abbrev pub OpenedAs : Option (List ℕ) → Option Openings → Option Openings → Type 0
OpenedAs None before now = now ≡ before
OpenedAs (Some path) before now = OpenedOnce before now path

-- the slot was opened once, with its path, or not opened
abbrev pub OpenedOnly : Option (List ℕ) → Option Openings → Option Openings → Type 0
OpenedOnly None before now = now ≡ before
OpenedOnly (Some path) before now = (now ≡ before) ⊎ OpenedOnce before now path

-- Slots are opened with these paths only, each at most once, and an input without a path has all left that it had.
pub record Keeps (paths : Slot → Option (List ℕ)) (left_before left_now : Left) (before now : Paths) : Type 0 where
  pub opened : (slot : Slot) → OpenedOnly (paths slot) (before slot) (now slot)
  pub unread : (slot : InSlot) → paths (In slot) ≡ None → left_now slot ≡ left_before slot

-- no output was opened
abbrev pub NoneOpened : Paths → Paths → Type 0
NoneOpened before now = (slot : OutSlot) → now (Out slot) ≡ before (Out slot)

-- no output behind this slot was opened; behind each input and the report are RAM and the disk
abbrev pub NoneOpenedBehind : Slot → Paths → Paths → Type 0
NoneOpenedBehind (In slot) before now = (now (Out Mem) ≡ before (Out Mem)) × (now (Out Save) ≡ before (Out Save))
NoneOpenedBehind (Out Report) before now = (now (Out Mem) ≡ before (Out Mem)) × (now (Out Save) ≡ before (Out Save))
NoneOpenedBehind (Out Mem) before now = now (Out Save) ≡ before (Out Save)
NoneOpenedBehind (Out Save) before now = ⊤

-- ---- outputs

-- an output grew by exactly this text, where there is one, and else by nothing
abbrev pub Gets : Option (List ℕ) → Option (List ℕ) → Option (List ℕ) → Type 0
Gets None before now = now ≡ before
Gets (Some text) before now = Appends before now text

-- an output grew by some first bytes of this text, where there is one, and else by nothing
abbrev pub GetsPrefix : Option (List ℕ) → Option (List ℕ) → Option (List ℕ) → Type 0
GetsPrefix None before now = now ≡ before
GetsPrefix (Some text) before now = AppendsPrefix before now text

-- The outputs, in their order, up to one: those before it have their whole texts, it has some first bytes of its
-- text, and those behind it have nothing.
abbrev pub IsCutAt : OutSlot → (OutSlot → Option (List ℕ)) → Took → Took → Type 0
IsCutAt Report texts before now =
    GetsPrefix (texts Report) (before Report) (now Report) × (now Mem ≡ before Mem) × (now Save ≡ before Save)
IsCutAt Mem texts before now =
    Gets (texts Report) (before Report) (now Report) × GetsPrefix (texts Mem) (before Mem) (now Mem) × (now Save ≡ before Save)
IsCutAt Save texts before now =
    Gets (texts Report) (before Report) (now Report) × Gets (texts Mem) (before Mem) (now Mem) × GetsPrefix (texts Save) (before Save) (now Save)
