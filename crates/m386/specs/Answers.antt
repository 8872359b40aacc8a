-- When each answer comes, and what the outputs have then. Own: The line of a refusal
use Rattle.std.specs.Prelude.{◌≡◌, ◌≢◌, ◌⊎◌, ◌+◌, ⊤, ℕ, List, [], length, Option, None}
use Rattle.std.specs.Io.KnownBytes.{Appends}
use Rattle.host_io.specs.declared.host.InSlot.{InSlot}
use Rattle.host_io.specs.declared.host.InSlot.TheVariants.{Commands}
use Rattle.host_io.specs.declared.host.OutSlot.TheVariants.{Report}
use Rattle.host_io.specs.declared.host.Slot.{Slot}
use Rattle.host_io.specs.declared.host.Slot.TheVariants.{In, Out}
use Rattle.host_io.specs.Causes.{Rose}
use Rattle.host_io.specs.Openings.{Openings, WasOpened}
use Rattle.host_io.specs.Slots.{Same, SameBut}
use Rattle.host_io.specs.Transfers.{AppendsPrefix, IsWhole}
use Rattle.command_words.specs.Jobs.{Job, Run, Dis, Demo, Monitor, Matched, NoneMatched}
use Rattle.m386.specs.declared.refusals.Refusal.{Refusal}
use Rattle.m386.specs.declared.refusals.Refusal.TheVariants as refusals
use Rattle.m386.specs.Slots.{Left, Took, Paths, Counts, NoneOpenedBehind}
use Rattle.m386.specs.Inputs.{Fed, IsFed, IsFit, limit_of}
use Rattle.m386.specs.Refusals.{fault_line, length_line, script_line}
use Rattle.m386.specs.Headline.{Headline}
use Rattle.m386.specs.Listed.{IsRom, Listed}
use Rattle.m386.specs.Demonstrated.{Demonstrated}
use Rattle.m386.specs.Monitored.{Monitored}
use Rattle.m386.specs.Causes.{IsRefused, IsJobLengthWrong, IsJobScriptWrong, IsCut, IsJobUnheard, IsJobInterrupted, IsJobOverlong}

-- ---- how a command ends, before the line of a refusal

-- the words ask for this job, and for no other
pub record AsksFor (words : List (List ℕ)) (job : Job) : Type 0 where
  pub matched : Matched words job
  pub only : (other : Job) → Matched words other → other ≡ job

-- the job is done
abbrev pub IsJobDone : Job → Left → Took → Took → Paths → Paths → Type 0
IsJobDone (Run job) left before now paths_before paths_now = Headline job left before now paths_before paths_now
IsJobDone (Dis job) left before now paths_before paths_now = Listed job left before now paths_before paths_now
IsJobDone (Demo number) left before now paths_before paths_now = Demonstrated number before now paths_before paths_now
IsJobDone (Monitor machine) left before now paths_before paths_now = Monitored machine left before now paths_before paths_now

-- what the words ask for is done
pub record IsDone (words : List (List ℕ)) (left : Left) (before now : Took) (paths_before paths_now : Paths) : Type 0 where
  pub job : Job
  pub asks : AsksFor words job
  pub done : IsJobDone job left before now paths_before paths_now

-- what the words ask for ends with a refusal
pub record IsJobRefused (words : List (List ℕ)) (left left_now : Left) (before now : Took) (refusal : Refusal) : Type 0 where
  pub job : Job
  pub asks : AsksFor words job
  pub refused : IsRefused job left left_now before now refusal

-- memory is wanting, the words ask for nothing that there is, or what they ask for ends with the refusal
abbrev pub IsEnded : List (List ℕ) → Left → Left → Took → Took → Refusal → Type 0
IsEnded words left left_now before now refusals.Memory = Same before now
IsEnded words left left_now before now refusals.Words = NoneMatched words × Same before now
IsEnded words left left_now before now refusal = IsJobRefused words left left_now before now refusal

-- ---- the line of a refusal

-- the count of some slot rose
abbrev pub SomeRose : Counts → Counts → Type 0
SomeRose before now = (slot : Slot) × Rose (before slot) (now slot)

-- The report grew by some first bytes of a line. Where its count did not rise it has the whole line, and was opened with the
-- empty path.
pub record IsTold (before now : Option (List ℕ)) (path : Option Openings) (count_before count_now : ℕ) (line : List ℕ) : Type 0 where
  pub some : AppendsPrefix before now line
  pub whole : ¬ (Rose count_before count_now) → Appends before now line
  pub opened : ¬ (Rose count_before count_now) → WasOpened path []

-- the report has the line, and no other output grew
pub record HasLine (before now : Took) (paths : Paths) (counts_before counts_now : Counts) (line : List ℕ) : Type 0 where
  pub told : IsTold (before Report) (now Report) (paths (Out Report)) (counts_before (Out Report)) (counts_now (Out Report)) line
  pub others : SameBut Report before now

-- ---- answers

-- The length of an input is refused: it has one that it may not have, and the outputs have nothing. Of too many bytes of commands, which
-- are told as one more than there may be, the report has the answers to the lines among those that were read.
abbrev pub IsLengthRefused : Job → Left → Took → Took → InSlot → ℕ → Type 0
IsLengthRefused job left before now slot n =
    (IsJobLengthWrong job left slot n × Same before now)
    ⊎ ((slot ≡ Commands) × (n ≡ limit_of Commands + 1) × IsJobOverlong job left before now)

-- the length of an input of what is asked for is refused; behind what the report has then it has the line of that length
pub record IsImageWrong (words : List (List ℕ)) (left : Left) (before now : Took) (paths : Paths) (counts_before counts_now : Counts) : Type 0 where
  pub job : Job
  pub asks : AsksFor words job
  pub slot : InSlot
  pub n : ℕ
  pub between : Took
  pub wrong : IsLengthRefused job left before between slot n
  pub line : HasLine between now paths counts_before counts_now (length_line (In slot) n)

-- the script of what is asked for has a first bad line; the report has the line of its number
pub record IsScriptBad (words : List (List ℕ)) (left : Left) (before now : Took) (paths : Paths) (counts_before counts_now : Counts) : Type 0 where
  pub job : Job
  pub asks : AsksFor words job
  pub n : ℕ
  pub bad : IsJobScriptWrong job left n
  pub line : HasLine before now paths counts_before counts_now (script_line n)

-- What the outputs have where a slot failed. At an output: nothing, or what the job writes, up to some first bytes of one text. At an
-- input: nothing, and no commands were taken; or, at the commands, the answers to all whole lines that were taken.
abbrev pub IsTextUpTo : Job → Left → Left → Took → Took → Slot → Type 0
IsTextUpTo job left left_now before now (Out slot) = Same before now ⊎ IsCut job left before now slot
IsTextUpTo job left left_now before now (In slot) =
    (IsJobUnheard job left left_now × Same before now) ⊎ ((slot ≡ Commands) × IsJobInterrupted job left left_now before now)

-- The count of a slot rose. Behind what the outputs have then, the report has the line of the slot. No output behind the slot was opened.
pub record IsFaulted (words : List (List ℕ)) (left left_now : Left) (before now : Took) (paths_before paths : Paths) (counts_before counts_now : Counts) : Type 0 where
  pub job : Job
  pub asks : AsksFor words job
  pub slot : Slot
  pub rose : Rose (counts_before slot) (counts_now slot)
  pub between : Took
  pub text : IsTextUpTo job left left_now before between slot
  pub line : HasLine between now paths counts_before counts_now (fault_line slot)
  pub behind : NoneOpenedBehind slot paths_before paths

-- ---- completeness

-- the host tells what its inputs have left
abbrev pub Tells : Left → Type 0
Tells left = (slot : InSlot) → left slot ≢ None

-- the inputs of a job are accepted
abbrev pub Accepts : Job → Left → Type 0
Accepts (Run job) left = (fed : Fed) × IsFed job.machine left fed
Accepts (Dis job) left = (rom : List ℕ) × IsRom left rom
Accepts (Demo number) left = ⊤
Accepts (Monitor machine) left = (fed : Fed) × IsFed machine left fed × (commands : List ℕ) × IsWhole (left Commands) commands × IsFit Commands (length commands)
