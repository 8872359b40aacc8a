-- Why what the words ask for ends with a refusal, and what the outputs have then, before the line is written.
use Rattle.std.specs.Prelude.{◌≡◌, ⊤, ℕ, List, [], Option, Some}
use Rattle.host_io.specs.declared.host.InSlot.{InSlot}
use Rattle.host_io.specs.declared.host.InSlot.TheVariants.{Rom, Commands}
use Rattle.host_io.specs.declared.host.OutSlot.{OutSlot}
use Rattle.host_io.specs.declared.host.OutSlot.TheVariants.{Report}
use Rattle.host_io.specs.declared.host.Slot.{Slot}
use Rattle.host_io.specs.declared.host.Slot.TheVariants.{In, Out}
use Rattle.host_io.specs.Causes.{Rose}
use Rattle.host_io.specs.Openings.{Openings, WasOpened}
use Rattle.host_io.specs.Slots.{Same, SameBut}
use Rattle.command_words.specs.Jobs.{RunJob, DisJob, Job, Run, Dis, Demo, Monitor}
use Rattle.mdl_state.specs.Memory.{IsRomLength}
use Rattle.mdl_step.specs.Run.{walk_count}
use Rattle.reports.specs.Lines.{AppendsListingPrefix}
use Rattle.m386.specs.declared.refusals.Refusal.{Refusal}
use Rattle.m386.specs.declared.refusals.Refusal.TheVariants as refusals
use Rattle.m386.specs.Slots.{Left, Took, Paths, Counts, IsCutAt, OpenedOnly, NoneOpened, NoneOpenedBehind}
use Rattle.m386.specs.Inputs.{Fed, IsFed, IsLength, limit_of, IsLengthWrong, IsScriptWrong}
use Rattle.m386.specs.Headline.{Ran, text_for}
use Rattle.m386.specs.Listed.{IsRom}
use Rattle.m386.specs.Demonstrated.{IsDemoCut}
use Rattle.m386.specs.Monitored.{IsAnswerCut, IsInterrupted, IsOverlong}

-- ---- texts that are cut

-- the outputs have the texts of the run that is asked for, up to some first bytes of one
pub record IsRunCut (job : RunJob) (left : Left) (before now : Took) (slot : OutSlot) : Type 0 where
  pub fed : Fed
  pub is_fed : IsFed job.machine left fed
  pub ran : Ran job.machine.ram fed job.steps
  pub outputs : IsCutAt slot (text_for job ran.last (walk_count ran.choices)) before now

-- the report has some first bytes of the listing that is asked for
pub record IsListingCut (job : DisJob) (left : Left) (before now : Took) (slot : OutSlot) : Type 0 where
  pub is_report : slot ≡ Report
  pub rom : List ℕ
  pub is_rom : IsRom left rom
  pub report : AppendsListingPrefix rom job.from job.count job.big (before Report) (now Report)
  pub others : SameBut Report before now

-- ---- by job

-- the length of an input of the job is wrong
abbrev pub IsJobLengthWrong : Job → Left → InSlot → ℕ → Type 0
IsJobLengthWrong (Run job) left slot n = IsLengthWrong job.machine left slot n
IsJobLengthWrong (Dis job) left slot n = (slot ≡ Rom) × IsLength (limit_of Rom) (left Rom) n × ¬ (IsRomLength n)
IsJobLengthWrong (Monitor machine) left slot n = IsLengthWrong machine left slot n
IsJobLengthWrong (Demo number) left slot n = ⊥

-- the script of the job has this first bad line
abbrev pub IsJobScriptWrong : Job → Left → ℕ → Type 0
IsJobScriptWrong (Run job) left n = IsScriptWrong job.machine left n
IsJobScriptWrong (Monitor machine) left n = IsScriptWrong machine left n
IsJobScriptWrong _ left n = ⊥

-- the outputs have what the job writes, up to some first bytes of one
abbrev pub IsCut : Job → Left → Took → Took → OutSlot → Type 0
IsCut (Run job) left before now slot = IsRunCut job left before now slot
IsCut (Dis job) left before now slot = IsListingCut job left before now slot
IsCut (Demo number) left before now slot = IsDemoCut number before now slot
IsCut (Monitor machine) left before now slot = IsAnswerCut machine left before now slot

-- the job is a session, and nothing of its commands was taken
abbrev pub IsJobUnheard : Job → Left → Left → Type 0
IsJobUnheard (Monitor machine) left left_now = left_now Commands ≡ left Commands
IsJobUnheard _ left left_now = ⊤

-- the job is a session, and the report has the answers to all whole lines that were taken of its commands
abbrev pub IsJobInterrupted : Job → Left → Left → Took → Took → Type 0
IsJobInterrupted (Monitor machine) left left_now before now = IsInterrupted machine left left_now before now
IsJobInterrupted _ left left_now before now = ⊥

-- the job is a session whose commands have too many bytes, and the report has the answers to the lines among the first ones
abbrev pub IsJobOverlong : Job → Left → Took → Took → Type 0
IsJobOverlong (Monitor machine) left before now = IsOverlong machine left before now
IsJobOverlong _ left before now = ⊥

-- ---- by refusal

-- why the job ends with a refusal, and what the outputs have then; none comes of the words
abbrev pub IsRefused : Job → Left → Left → Took → Took → Refusal → Type 0
IsRefused job left left_now before now refusals.Memory = Same before now
IsRefused job left left_now before now refusals.Words = ⊥
IsRefused job left left_now before now (refusals.HostFault slot) = IsJobUnheard job left left_now × Same before now
IsRefused job left left_now before now (refusals.Length slot n) = IsJobLengthWrong job left slot n × Same before now
IsRefused job left left_now before now (refusals.Script n) = IsJobScriptWrong job left n × Same before now
IsRefused job left left_now before now (refusals.Late slot) = IsCut job left before now slot
IsRefused job left left_now before now refusals.Commands = IsJobInterrupted job left left_now before now
IsRefused job left left_now before now refusals.TooLong = IsJobOverlong job left before now

-- the report is open with the empty path, where the refusal comes with the report open
abbrev pub IsReady : Refusal → Option Openings → Type 0
IsReady (refusals.Late slot) path = WasOpened path []
IsReady refusals.Commands path = WasOpened path []
IsReady refusals.TooLong path = WasOpened path []
IsReady _ path = ⊤

-- the report is opened once for the line, where it is not open yet
abbrev pub IsLineOpened : Refusal → Option Openings → Option Openings → Type 0
IsLineOpened (refusals.Late slot) before now = now ≡ before
IsLineOpened refusals.Commands before now = now ≡ before
IsLineOpened refusals.TooLong before now = now ≡ before
IsLineOpened _ before now = OpenedOnly (Some []) before now

-- no output was opened, or, where the refusal comes with the report open, none behind the one that failed
abbrev pub IsOpenedUpTo : Refusal → Paths → Paths → Type 0
IsOpenedUpTo (refusals.Late slot) before now = NoneOpenedBehind (Out slot) before now
IsOpenedUpTo refusals.Commands before now = NoneOpenedBehind (In Commands) before now
IsOpenedUpTo refusals.TooLong before now = NoneOpenedBehind (In Commands) before now
IsOpenedUpTo _ before now = NoneOpened before now

-- no count rose but that of this slot
pub record OnlyRose (slot : Slot) (before now : Counts) : Type 0 where
  pub rose : Rose (before slot) (now slot)
  pub others : SameBut slot before now

-- the counts, before the line is written
abbrev pub AreCounted : Refusal → Counts → Counts → Type 0
AreCounted (refusals.HostFault slot) before now = OnlyRose slot before now
AreCounted (refusals.Late slot) before now = OnlyRose (Out slot) before now
AreCounted refusals.Commands before now = OnlyRose (In Commands) before now
AreCounted _ before now = Same before now
