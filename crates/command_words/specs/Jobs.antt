-- What the words of the command line ask for. What `clap` makes of words, its matches and its
-- faults, is written down in its specs: `matches_of` and `fault_of`.
use Rattle.std.specs.Prelude.{◌≡◌, ◌≤◌, ℕ, Bool, true, false, List, [], ◌∷◌, Option, Some, option_map, map, codes}
use Rattle.std.specs.Borrow.{Bor}
use Rattle.std.specs.Option.{option_map_or}
use Rattle.std.specs.Str.{bytes_eq}
use Rattle.std.specs.Str.Parse.{digits_value, without_leading_plus}
use Rattle.clap.specs.Words.{App, Row, first_of, one_of, matches_of, fault_of, takes}
use Rattle.command_words.specs.Commands.{run_app, monitor_app, dis_app, demo_app}
use Rattle.command_words.specs.declared.jobs as code

-- the texts of words
abbrev pub texts : List (Bor (List ℕ)) → List (List ℕ)
texts words = map (λ w. w.now) words

-- the text behind an optional reference
abbrev pub text_of : Option (Bor (List ℕ)) → Option (List ℕ)
text_of path = option_map (λ p. p.now) path

-- ---- what can be asked for

-- a machine: the paths of its ROM, disk and script, and RAM in mebibytes
pub record Machine : Type 0 where
  pub rom : List ℕ
  pub disk : Option (List ℕ)
  pub script : Option (List ℕ)
  pub ram : ℕ

-- a run: the machine, how many steps, and where memory and disk are written
pub record RunJob : Type 0 where
  pub machine : Machine
  pub steps : ℕ
  pub mem : Option (List ℕ)
  pub save : Option (List ℕ)

-- a listing: the path of the ROM, the offset of its first line, how many lines, and whether the default is 32 bits
pub record DisJob : Type 0 where
  pub rom : List ℕ
  pub from : ℕ
  pub count : ℕ
  pub big : Bool

-- what there is to be asked for
pub data Job : Type 0 where
  Run : RunJob → Job
  Dis : DisJob → Job
  Demo : ℕ → Job
  Monitor : Machine → Job

-- the same, as the code has them
abbrev pub machine_of : code.Machine.Machine → Machine
machine_of m = record { rom = m.rom.now; disk = text_of m.disk; script = text_of m.script; ram = m.ram }

abbrev pub run_of : code.RunJob.RunJob → RunJob
run_of j = record { machine = machine_of j.machine; steps = j.steps; mem = text_of j.mem; save = text_of j.save }

abbrev pub dis_of : code.DisJob.DisJob → DisJob
dis_of j = record { rom = j.rom.now; from = j.from; count = j.count; big = j.big }

abbrev pub job_of : code.Job.Job → Job
job_of (code.Job.TheVariants.Run j) = Run (run_of j)
job_of (code.Job.TheVariants.Dis j) = Dis (dis_of j)
job_of (code.Job.TheVariants.Demo n) = Demo n
job_of (code.Job.TheVariants.Monitor m) = Monitor (machine_of m)

-- ---- words that a command takes

-- the first of the words is this one
abbrev pub StartsWith : List ℕ → List (List ℕ) → Type 0
StartsWith name [] = ⊥
StartsWith name (word ∷ words) = word ≡ name

-- the words begin with the command's name, and `clap` finds no fault in the rest.
-- Own: Words that a command takes
pub record IsTaken (app : App) (words : List (List ℕ)) : Type 0 where
  pub named : StartsWith app.top.name words
  pub faultless : fault_of app words ≡ []

-- no command takes the words
pub record NoneTakes (words : List (List ℕ)) : Type 0 where
  pub run : ¬ (IsTaken run_app words)
  pub dis : ¬ (IsTaken dis_app words)
  pub demo : ¬ (IsTaken demo_app words)
  pub monitor : ¬ (IsTaken monitor_app words)

-- the words begin with the command's name, and meet the test by which `clap` promises to take them
pub record IsPromised (app : App) (words : List (List ℕ)) : Type 0 where
  pub named : StartsWith app.top.name words
  pub takes : takes app words ≡ true

-- `clap` promises for no command to take the words
pub record NonePromised (words : List (List ℕ)) : Type 0 where
  pub run : ¬ (IsPromised run_app words)
  pub dis : ¬ (IsPromised dis_app words)
  pub demo : ¬ (IsPromised demo_app words)
  pub monitor : ¬ (IsPromised monitor_app words)

-- ---- values

-- the number that an argument's text writes in decimal digits, which a plus may precede.
-- Own: A number of the words
abbrev pub number_at : List ℕ → List Row → Option ℕ
number_at id rows = option_map (λ text. digits_value 10 (without_leading_plus text)) (one_of id rows)

-- the flag is given
abbrev pub flag_at : List ℕ → List Row → Bool
flag_at id rows = option_map_or (λ text. bytes_eq text (codes "true")) (one_of id rows) false

-- the matches give the machine
pub record GivesMachine (rows : List Row) (machine : Machine) : Type 0 where
  pub rom : first_of (codes "rom") rows ≡ Some machine.rom
  pub disk : first_of (codes "disk") rows ≡ machine.disk
  pub script : first_of (codes "script") rows ≡ machine.script
  pub ram : number_at (codes "ram") rows ≡ Some machine.ram

-- ---- the commands

-- `run` with its arguments
pub record IsRun (words : List (List ℕ)) (job : RunJob) : Type 0 where
  pub taken : IsTaken run_app words
  pub machine : GivesMachine (matches_of run_app words) job.machine
  pub steps : number_at (codes "steps") (matches_of run_app words) ≡ Some job.steps
  pub mem : first_of (codes "mem") (matches_of run_app words) ≡ job.mem
  pub save : first_of (codes "save") (matches_of run_app words) ≡ job.save

-- `dis` with its arguments
pub record IsDis (words : List (List ℕ)) (job : DisJob) : Type 0 where
  pub taken : IsTaken dis_app words
  pub rom : first_of (codes "rom") (matches_of dis_app words) ≡ Some job.rom
  pub from : number_at (codes "from") (matches_of dis_app words) ≡ Some job.from
  pub count : number_at (codes "count") (matches_of dis_app words) ≡ Some job.count
  pub big : flag_at (codes "big") (matches_of dis_app words) ≡ job.big

-- `demo` with its number
pub record IsDemo (words : List (List ℕ)) (number : ℕ) : Type 0 where
  pub taken : IsTaken demo_app words
  pub given : number_at (codes "number") (matches_of demo_app words) ≡ Some number

-- `monitor` with its arguments
pub record IsMonitor (words : List (List ℕ)) (machine : Machine) : Type 0 where
  pub taken : IsTaken monitor_app words
  pub given : GivesMachine (matches_of monitor_app words) machine

-- the words ask for this
abbrev pub Matched : List (List ℕ) → Job → Type 0
Matched words (Run job) = IsRun words job
Matched words (Dis job) = IsDis words job
Matched words (Demo number) = IsDemo words number
Matched words (Monitor machine) = IsMonitor words machine

-- the words ask for nothing that there is
abbrev pub NoneMatched : List (List ℕ) → Type 0
NoneMatched words = (job : Job) → ¬ (Matched words job)

-- ---- limits

-- RAM has 1 to 64 mebibytes
abbrev pub IsRamSize : ℕ → Type 0
IsRamSize ram = (1 ≤ ram) × (ram ≤ 64)

-- the numbers of the job are within their ranges
abbrev pub IsWithinLimits : Job → Type 0
IsWithinLimits (Run job) = IsRamSize job.machine.ram × (job.steps ≤ 1000000000000000)
IsWithinLimits (Dis job) = (job.from ≤ 262143) × (1 ≤ job.count) × (job.count ≤ 65536)
IsWithinLimits (Demo number) = number ≤ 4294967295
IsWithinLimits (Monitor machine) = IsRamSize machine.ram
