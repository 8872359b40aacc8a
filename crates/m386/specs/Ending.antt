-- The end of the program.
use Rattle.std.specs.Prelude.{◌≡◌, ◌⊎◌, ℕ}
use Rattle.std.specs.Process.{exit_status}
use Rattle.std.specs.declared.process.ExitCode.{ExitCode}
use Rattle.host_io.specs.Slots.{Same}
use Rattle.m386.specs.declared.status.Status.{Status}
use Rattle.m386.specs.declared.status.Status.TheVariants.{Done, Memory}
use Rattle.m386.specs.Slots.{Counts}
use Rattle.m386.specs.Refusals.{number_of}

-- where all was done, and where memory wants, no call of the host failed
abbrev pub KeepsCounts : Status → Counts → Counts → Type 0
KeepsCounts status before now = (status ≡ Done) ⊎ (status ≡ Memory) → Same before now

-- the program ends with the number of a status
pub record IsEnd (code : ExitCode) (before now : Counts) : Type 0 where
  pub status : Status
  pub number : exit_status code ≡ number_of status
  pub kept : KeepsCounts status before now
