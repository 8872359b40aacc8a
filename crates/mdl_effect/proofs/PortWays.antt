-- The permission of a port as a part of a plan: what each way through it ends with.
use Rattle.std.proofs.Common.{ℕ, arith}
use Rattle.std.specs.Prelude.{not}
use Rattle.mdl_state.specs.declared.Size.{Size}
use Rattle.mdl_state.specs.declared.Regs.{Regs}
use Rattle.mdl_state.specs.Attempt.{Plan, then_plan}
use Rattle.mdl_cpu.specs.Virtual.{asks_bitmap, bitmap_rows, reach_rows, permission_rows, port_plan}
use Rattle.mdl_effect.proofs.Operations.{Ways, passes, then_way, either_way}
use Rattle.mdl_effect.proofs.LoadWays.{Any, rows_way}

port_way : (r : Regs) (port : ℕ) (size : Size) → Ways Any (port_plan r port size)
unfolding port_plan
port_way r port size = either_way (not (asks_bitmap r)) (passes tt) (rows_way (bitmap_rows r) _ (omega arith, tt)
    (record {
      ends = λ base. (rows_way (reach_rows r base port) _ (omega arith, tt)
          (record { ends = λ bits. (rows_way (permission_rows port size bits) _ (omega arith, tt) (passes tt)).ends })).ends;
    }))

-- what follows it
pub port_then : {A : Type 0} {P : A → Type 0} (r : Regs) (port : ℕ) (size : Size) (f : Unit {0} → Plan A) → ((x : Unit {0}) → Ways P (f x))
    → Ways P (then_plan (port_plan r port size) f)
port_then r port size f h = then_way (port_way r port size) (λ x _. h x)
