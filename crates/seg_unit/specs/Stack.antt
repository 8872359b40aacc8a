-- What a pop answers. Manual, chapter 17, under POP.
use Rattle.std.specs.Prelude.{ℕ, Result, Ok, Err}
use Rattle.mdl_state.specs.declared.Regs.{Regs}
use Rattle.mdl_state.specs.declared.Fault.{Fault}
use Rattle.mdl_state.specs.Serving.{Outcome, Passed, Failed}

-- the number and the registers that are left, or the fault
abbrev pub popped : Result ℕ Fault → Regs → Outcome (ℕ × Regs)
popped (Ok value) r = Passed (value, r)
popped (Err fault) r = Failed fault
