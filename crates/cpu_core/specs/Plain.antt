-- Registers and memory between two steps of the processor.
use Rattle.std.specs.Prelude.{◌≡◌, false, []}
use Rattle.mdl_state.specs.declared.Regs.{Regs}
use Rattle.mdl_state.specs.State.{Mem}
use Rattle.mdl_cpu.specs.Steady.{Agree, IsSound}

-- nothing is held, and no items are left
pub record IsStill (m : Mem) : Type 0 where
  pub held : m.held ≡ []
  pub served : m.served ≡ []

-- nothing is held, no items are left, and no breakpoint is looked for or was met
pub record IsQuiet (m : Mem) : Type 0 where
  pub held : m.held ≡ []
  pub served : m.served ≡ []
  pub watch : m.watch ≡ []
  pub hits : m.hits ≡ 0

-- memory as a reset leaves it
pub record IsPlain (m : Mem) : Type 0 where
  pub paging : m.paging ≡ false
  pub cr3 : m.cr3 ≡ 0
  pub quiet : IsQuiet m

-- the registers are sound, memory pages as they say, and is quiet
pub record IsReady (r : Regs) (m : Mem) : Type 0 where
  pub sound : IsSound r
  pub tables : Agree r m
  pub quiet : IsQuiet m

-- the same, whatever breakpoints are looked for
pub record IsSettled (r : Regs) (m : Mem) : Type 0 where
  pub sound : IsSound r
  pub tables : Agree r m
  pub still : IsStill m
