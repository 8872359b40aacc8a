-- The task state segment: its kinds, and the stacks of the inner levels in it. Manual, chapters 6 and 7.
-- Own: The stack of an inner level.
use Rattle.std.specs.Prelude.{ℕ, ◌+◌, ◌*◌, ◌%◌, ◌^◌, ◌==◌, ◌||◌, nat_lt, Bool, if◌then◌else◌, List, [], ◌∷◌}
use Rattle.mdl_state.specs.declared.Size.TheVariants.{B2, B4}
use Rattle.mdl_state.specs.declared.Who.TheVariants.{Tables}
use Rattle.mdl_state.specs.declared.Regs.{Regs}
use Rattle.mdl_state.specs.Attempt.{Plan, Done, Load, checked}
use Rattle.mdl_cpu.specs.declared.Desc.{Desc}
use Rattle.mdl_cpu.specs.Faults.{Row, row, first_of, fault_at}
use Rattle.mdl_cpu.specs.Descriptors.{system_type, is_available_tss}

-- ---- kinds

-- a TSS of the 80386, by its type: 9 where it is available, 11 where it is busy
abbrev pub is_wide_type : ℕ → Bool
is_wide_type type = type == 9 || type == 0xB

abbrev pub is_wide_tss : Desc → Bool
is_wide_tss d = is_wide_type (system_type d)

-- TR has a TSS of the 80386. Its rights are those that were read, so both types may stand there.
abbrev pub has_wide_tss : Regs → Bool
has_wide_tss r = is_wide_type (r.tr.rights % 2 ^ 4)

-- a TSS that is busy
abbrev pub is_busy_tss : Desc → Bool
is_busy_tss d = system_type d == 3 || system_type d == 0xB

abbrev pub is_tss : Desc → Bool
is_tss d = is_available_tss d || is_busy_tss d

-- ---- the stacks of the inner levels

-- ESP and SS as the TSS has them for a level
pub record LevelStack : Type 0 where
  pub esp : ℕ
  pub selector : ℕ

-- The last byte of SS of a level: in a TSS of the 80386 each level has eight bytes from 4 on, ESP and then SS, and in
-- one of the 80286 four bytes from 2 on.
abbrev pub level_end : Bool → ℕ → ℕ
level_end wide level = if wide then 8 * level + 9 else 4 * level + 5

abbrev pub level_rows : Regs → ℕ → List Row
level_rows r level = row (nat_lt r.tr.limit (level_end (has_wide_tss r) level)) (fault_at 10 r.tr.sel) ∷ []

-- the stack of a level, ESP read before SS
unfoldable pub level_stack_plan : Regs → ℕ → Plan LevelStack
level_stack_plan r level =
    checked (first_of (level_rows r level)) (λ _.
    if has_wide_tss r then
    Load ((r.tr.base + (8 * level + 4)) % 2 ^ 32) B4 Tables (λ esp.
    Load ((r.tr.base + (8 * level + 8)) % 2 ^ 32) B2 Tables (λ selector.
    Done (record { esp = esp; selector = selector })))
    else
    Load ((r.tr.base + (4 * level + 2)) % 2 ^ 32) B2 Tables (λ sp.
    Load ((r.tr.base + (4 * level + 4)) % 2 ^ 32) B2 Tables (λ selector.
    Done (record { esp = sp; selector = selector }))))
