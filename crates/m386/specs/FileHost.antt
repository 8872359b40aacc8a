-- The counts of faults of the program's host.
use Rattle.std.specs.Prelude.{◌≡◌, ◌≤◌, ℕ, Result, OnOk, OnErr}
use Rattle.std.specs.Borrow.{Lends, MutBor, Fml}
use Rattle.host_io.specs.Causes.{risen}
use Rattle.host_io.specs.declared.host.InSlot.TheVariants.{Rom, Disk, Script, Commands}
use Rattle.host_io.specs.declared.host.OutSlot.TheVariants.{Report, Mem, Save}
use Rattle.host_io.specs.declared.host.Slot.{Slot}
use Rattle.host_io.specs.declared.host.Slot.TheVariants.{In, Out}
use Rattle.m386.specs.declared.file_host.End.{End}
use Rattle.m386.specs.declared.file_host.FileHost.{FileHost}
use Rattle.m386.specs.contracts.file_host.FileHost.{the_row}
use Rattle.m386.specs.contracts.file_host.End as EndRow

abbrev pub end_of : FileHost → Slot → End
end_of h (In Rom) = h.rom
end_of h (In Disk) = h.disk
end_of h (In Script) = h.script
end_of h (In Commands) = h.commands
end_of h (Out Report) = h.report
end_of h (Out Mem) = h.mem
end_of h (Out Save) = h.save

abbrev pub with_end : FileHost → Slot → End → FileHost
with_end h (In Rom) end = record h { rom = end }
with_end h (In Disk) end = record h { disk = end }
with_end h (In Script) end = record h { script = end }
with_end h (In Commands) end = record h { commands = end }
with_end h (Out Report) end = record h { report = end }
with_end h (Out Mem) end = record h { mem = end }
with_end h (Out Save) end = record h { save = end }

-- the host ends with what is left behind r as its slot
abbrev pub LendsEnd : MutBor FileHost → Slot → MutBor End → Fml
LendsEnd h slot r = Lends the_row EndRow.the_row h r (with_end h.now slot)

-- how often the calls on a slot failed
abbrev pub faults_of : FileHost → Slot → ℕ
faults_of h slot = (end_of h slot).faults

-- a count rose by one at a failure, and stands at an answer
pub record IsCounted {T E : Type 0} (before now : ℕ) (result : Result T E) : Type 0 where
  pub later : before ≤ now
  pub kept : OnOk result (now ≡ before)
  pub failed : OnErr result (now ≡ risen before)
