-- The stack: numbers on it and off it. Manual, chapters 2 and 17.
use Rattle.std.specs.Prelude.{ℕ, ◌+◌, ◌-◌, ◌%◌, ◌&&◌, if◌then◌else◌}
use Rattle.mdl_state.specs.declared.Size.{Size}
use Rattle.mdl_state.specs.declared.Size.TheVariants.{B2, B4}
use Rattle.mdl_state.specs.declared.Seg.TheVariants.{Ss}
use Rattle.mdl_state.specs.declared.Regs.{Regs}
use Rattle.mdl_state.specs.Bytes.{bytes_of, bound_of}
use Rattle.mdl_state.specs.Registers.{reg_of, with_reg, seg_of}
use Rattle.mdl_state.specs.Attempt.{Plan, Done, then_plan}
use Rattle.mdl_cpu.specs.Segments.{is_protected, is_big}
use Rattle.mdl_cpu.specs.Access.{load_from, store_to}

-- ESP or SP
abbrev pub stack_size : Regs → Size
stack_size r = if is_protected r && is_big (seg_of r Ss) then B4 else B2

-- the stack pointer, and the registers with another
abbrev pub stack_top : Regs → ℕ
stack_top r = reg_of r 4 (stack_size r)

abbrev pub with_top : Regs → ℕ → Regs
with_top r top = with_reg r 4 (stack_size r) top

-- so many bytes above the top, and so many below it, modulo the size of the stack pointer
abbrev pub above_top : Regs → ℕ → ℕ
above_top r bytes = (stack_top r + bytes) % bound_of (stack_size r)

abbrev pub below_top : Regs → ℕ → ℕ
below_top r bytes = (stack_top r + (bound_of (stack_size r) - bytes)) % bound_of (stack_size r)

-- a number put below the top, which then is there
unfoldable pub push_plan : Regs → Size → ℕ → Plan Regs
push_plan r size value = then_plan (store_to r Ss (below_top r (bytes_of size)) size value) (λ _. Done (with_top r (below_top r (bytes_of size))))

-- the number at the top, which then is above it
unfoldable pub pop_plan : Regs → Size → Plan (ℕ × Regs)
pop_plan r size = then_plan (load_from r Ss (stack_top r) size) (λ value. Done (value, with_top r (above_top r (bytes_of size))))
