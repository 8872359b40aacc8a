-- The stack of an inner level, and what goes onto it from the old one. Manual, chapters 6, 9 and 17, under CALL and INT.
-- Own: The stack of an inner level. Own: Parameters of a call gate.
use Rattle.std.specs.Prelude.{ℕ, zero, suc, ◌*◌, slice_set}
use Rattle.mdl_state.specs.declared.Size.{Size}
use Rattle.mdl_state.specs.declared.Seg.TheVariants.{Ss}
use Rattle.mdl_state.specs.declared.Regs.{Regs}
use Rattle.mdl_state.specs.Bytes.{bytes_of}
use Rattle.mdl_state.specs.Registers.{reg_of, seg_of, with_seg}
use Rattle.mdl_state.specs.Attempt.{Plan, Done, then_plan}
use Rattle.mdl_cpu.specs.declared.Desc.{Desc}
use Rattle.mdl_cpu.specs.declared.StackSegment.{StackSegment}
use Rattle.mdl_cpu.specs.Access.{load_from}
use Rattle.mdl_cpu.specs.Stack.{above_top, push_plan}
use Rattle.mdl_cpu.specs.Loads.{hidden_of, stack_plan}
use Rattle.mdl_cpu.specs.TaskSegments.{LevelStack, level_stack_plan}

-- the registers on the stack of an inner level, and the segment of that stack, whose accessed bit is not set yet
pub record InnerStack : Type 0 where
  pub regs : Regs
  pub segment : StackSegment

-- the registers at a level, with its stack
unfoldable pub on_stack : Regs → ℕ → LevelStack → Desc → Regs
on_stack r level s d = with_seg (record r { cpl = level; gpr = slice_set r.gpr 4 s.esp }) Ss (hidden_of s.selector d)

-- the stack of an inner level, tested
unfoldable pub inner_stack_plan : Regs → ℕ → Plan InnerStack
inner_stack_plan r level =
    then_plan (level_stack_plan r level) (λ s.
    then_plan (stack_plan 10 level r s.selector) (λ d.
    Done (record { regs = on_stack r level s d; segment = record { selector = s.selector; desc = d } })))

-- SS and ESP of the old stack pushed on the new one
unfoldable pub push_stack_plan : Regs → Regs → Size → Plan Regs
push_stack_plan old r size =
    then_plan (push_plan r size (seg_of old Ss).sel) (λ a.
    push_plan a size (reg_of old 4 size))

-- ---- parameters

-- one of them is read from the old stack at the old level, and pushed on the new one at the new level
unfoldable pub parameter_plan : ℕ → Regs → Regs → Size → Plan Regs
parameter_plan n old r size =
    then_plan (load_from old Ss (above_top old (n * bytes_of size)) size) (λ value.
    push_plan r size value)

-- so many of them, that of the highest address first
unfoldable pub parameters_plan : ℕ → Regs → Regs → Size → Plan Regs
parameters_plan zero old r size = Done r
parameters_plan (suc n) old r size = then_plan (parameter_plan n old r size) (λ q. parameters_plan n old q size)
