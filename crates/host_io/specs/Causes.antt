-- The counts of faults, and when a call may fail.
use Rattle.std.specs.Prelude.{◌≡◌, ◌≢◌, ℕ, ◌+◌, ◌-◌, ◌^◌, ◌≤◌, min, is_err, if◌then◌else◌, Result, Err, OnOk, OnErr}
use Rattle.host_io.specs.declared.host.Slot.{Slot}
use Rattle.host_io.specs.declared.transfers.InError.{InError}
use Rattle.host_io.specs.declared.transfers.InError.TheVariants.{HostFault}
use Rattle.host_io.specs.Slots.{SameBut}

-- the next count, which stops at its last value. Own: counts of faults
abbrev pub risen : ℕ → ℕ
risen count = min (count + 1) (2 ^ 64 - 1)

-- a count rose, or stands at its last value
abbrev pub Rose : ℕ → ℕ → Type 0
Rose before now = risen before ≤ now

-- a count after a call: it has risen where the call failed
abbrev pub count_after : {T E : Type 0} → ℕ → Result T E → ℕ
count_after count result = if is_err result then risen count else count

-- no count falls, only the slot's own may rise, it rose at a failure and stands at an answer
pub record HasCause {T E : Type 0} (before now : Slot → ℕ) (slot : Slot) (result : Result T E) : Type 0 where
  pub later : before slot ≤ now slot
  pub others : SameBut slot before now
  pub kept : OnOk result (now slot ≡ before slot)
  pub failed : OnErr result (Rose (before slot) (now slot))

-- the same of reading an input whole, where only `HostFault` is a failure of the host
pub record HasReadCause {T : Type 0} (before now : Slot → ℕ) (slot : Slot) (result : Result T InError) : Type 0 where
  pub later : before slot ≤ now slot
  pub others : SameBut slot before now
  pub kept : result ≢ Err HostFault → now slot ≡ before slot
  pub failed : result ≡ Err HostFault → Rose (before slot) (now slot)
