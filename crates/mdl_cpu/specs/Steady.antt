-- What holds of the registers between two steps, and what most instructions leave. Manual, chapters 4, 5,
-- 6 and 15.
use Rattle.std.specs.Prelude.{◌≡◌, ◌≤◌, Bool, true, false}
use Rattle.mdl_state.specs.declared.Regs.{Regs}
use Rattle.mdl_state.specs.State.{Mem}
use Rattle.mdl_state.specs.Bytes.{bit}
use Rattle.mdl_cpu.specs.Segments.{has_protection, is_virtual}
use Rattle.mdl_cpu.specs.SystemFlags.{AreFlags}

-- PG of CR0
abbrev pub has_paging : Regs → Bool
has_paging r = bit r.cr0 31

-- Real mode runs at level 0 and V86 at level 3; V86 and paging are of protected mode alone.
pub record IsSound (r : Regs) : Type 0 where
  pub real : has_protection r ≡ false → r.cpl ≡ 0
  pub virtual_level : is_virtual r ≡ true → r.cpl ≡ 3
  pub virtual_mode : is_virtual r ≡ true → has_protection r ≡ true
  pub paged_mode : has_paging r ≡ true → has_protection r ≡ true
  pub level : r.cpl ≤ 3
  pub flags : AreFlags r.eflags

-- memory pages as the registers say
pub record Agree (r : Regs) (m : Mem) : Type 0 where
  pub paging : m.paging ≡ has_paging r
  pub cr3 : m.cr3 ≡ r.cr3

-- An instruction leaves the mode, the privilege level, the paging and the tables, and EFLAGS has no bit
-- that is no flag where it had none before.
pub record Steady (old new : Regs) : Type 0 where
  pub cr0 : new.cr0 ≡ old.cr0
  pub cr3 : new.cr3 ≡ old.cr3
  pub cpl : new.cpl ≡ old.cpl
  pub virtual : is_virtual new ≡ is_virtual old
  pub flags : AreFlags old.eflags → AreFlags new.eflags

-- so what held of the registers holds again
pub steady_sound : (old new : Regs) → Steady old new → IsSound old → IsSound new
steady_sound old new kept sound = record {
  real = λ e. rw (kept.cpl) (sound.real (rw (← kept.cr0) e));
  virtual_level = λ e. rw (kept.cpl) (sound.virtual_level (rw (← kept.virtual) e));
  virtual_mode = λ e. rw (kept.cr0) (sound.virtual_mode (rw (← kept.virtual) e));
  paged_mode = λ e. rw (kept.cr0) (sound.paged_mode (rw (← kept.cr0) e));
  level = rw (kept.cpl) sound.level;
  flags = kept.flags sound.flags;
}

-- A transfer may change the level, and enter or leave V86. It leaves CR0 and CR3, and registers that are sound where they
-- were so before.
pub record StaysSound (old new : Regs) : Type 0 where
  pub cr0 : new.cr0 ≡ old.cr0
  pub cr3 : new.cr3 ≡ old.cr3
  pub sound : IsSound old → IsSound new

pub steady_stays_sound : (old new : Regs) → Steady old new → StaysSound old new
steady_stays_sound old new kept = record { cr0 = kept.cr0; cr3 = kept.cr3; sound = steady_sound old new kept }

pub steady_agrees : (old new : Regs) (m : Mem) → Steady old new → Agree old m → Agree new m
steady_agrees old new m kept agrees = record { paging = rw (kept.cr0) agrees.paging; cr3 = rw (kept.cr3) agrees.cr3 }
