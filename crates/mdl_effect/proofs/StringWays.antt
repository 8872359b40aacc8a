-- Each way through the plan of a string instruction.
use Rattle.std.proofs.Common.{◌≡◌, ℕ, Bool, true, false}
use Rattle.std.specs.Prelude.{if◌then◌else◌}
use Rattle.mdl_state.specs.declared.Regs.{Regs}
use Rattle.mdl_state.specs.Attempt.{Done, then_plan}
use Rattle.mdl_insn.specs.declared.instruction.Insn.{Insn}
use Rattle.mdl_insn.specs.declared.instruction.Rep.{Rep}
use Rattle.mdl_insn.specs.declared.instruction.Rep.TheVariants as rep
use Rattle.mdl_insn.specs.declared.mnemonics.Op.{Op}
use Rattle.mdl_insn.specs.declared.mnemonics.Op.TheVariants as ops
use Rattle.mdl_cpu.specs.Steady.{Steady}
use Rattle.mdl_state.specs.declared.Next.TheVariants.{Follow, Again}
use Rattle.mdl_effect.specs.Operands.{IsOrdinary, counted_down}
use Rattle.mdl_effect.specs.StringEffects.{runs_string, goes_on, past_source, past_destination, past_both, compared, move_string_plan, compare_strings_plan, store_string_plan, load_string_plan, scan_string_plan, input_string_plan, output_string_plan, iterate_by, iterate_plan, repeating, string_plan, counted_after}
use Rattle.mdl_effect.specs.Ways.{Leaves, IsComplete}
use Rattle.mdl_effect.proofs.Registers.{stays, then_stays, reg_stays, flags_stay}
use Rattle.mdl_effect.proofs.Operations.{follows, Ways, passes, then_way, either_way, legal_way, load_then, store_then}
use Rattle.mdl_effect.proofs.PortWays.{port_then}

past_source_stays : (r : Regs) (insn : Insn) → Steady r (past_source r insn)
past_source_stays r insn = reg_stays r 6 _ _

past_destination_stays : (r : Regs) (insn : Insn) → Steady r (past_destination r insn)
past_destination_stays r insn = reg_stays r 7 _ _

past_both_stays : (r : Regs) (insn : Insn) → Steady r (past_both r insn)
past_both_stays r insn = then_stays (past_source_stays r insn) (past_destination_stays (past_source r insn) insn)

-- a repeat goes on or ends
repeated : (more : Bool) → IsOrdinary (if more then Again else Follow)
repeated true = tt
repeated false = tt

module _ (insn : Insn) (r : Regs) where
  move_way : Ways (Steady r) (move_string_plan insn r)
  unfolding move_string_plan
  move_way = load_then _ _ _ _ _ (λ value. store_then _ _ _ _ _ _ (λ _. passes (past_both_stays r insn)))

  compare_way : (free : ℕ) → Ways (Steady r) (compare_strings_plan insn r free)
  unfolding compare_strings_plan
  compare_way free = load_then _ _ _ _ _ (λ a. load_then _ _ _ _ _ (λ b.
      passes (then_stays (flags_stay r _ free) (past_both_stays (compared r insn.size a b free) insn))))

  store_way : Ways (Steady r) (store_string_plan insn r)
  unfolding store_string_plan
  store_way = store_then _ _ _ _ _ _ (λ _. passes (past_destination_stays r insn))

  load_way : Ways (Steady r) (load_string_plan insn r)
  unfolding load_string_plan
  load_way = load_then _ _ _ _ _ (λ value. passes (then_stays (reg_stays r 0 insn.size value) (past_source_stays _ insn)))

  scan_way : (free : ℕ) → Ways (Steady r) (scan_string_plan insn r free)
  unfolding scan_string_plan
  scan_way free = load_then _ _ _ _ _ (λ b. passes (then_stays (flags_stay r _ free) (past_destination_stays _ insn)))

  input_way : Ways (Leaves r) (input_string_plan insn r)
  unfolding input_string_plan
  input_way = port_then r _ _ _ (λ _. legal_way r _ _ _ _ _ (λ at. record { ends = λ place value. (past_destination_stays r insn, tt) }))

  output_way : Ways (Leaves r) (output_string_plan insn r)
  unfolding output_string_plan
  output_way = port_then r _ _ _ (λ _. load_then _ _ _ _ _ (λ value. passes (past_source_stays r insn, tt)))

  by_way : (op : Op) (free : ℕ) → runs_string op ≡ true → Ways (Leaves r) (iterate_by op insn r free)
  by_way ops.Movs free e = then_way move_way (λ _ h. follows h)
  by_way ops.Cmps free e = then_way (compare_way free) (λ _ h. follows h)
  by_way ops.Stos free e = then_way store_way (λ _ h. follows h)
  by_way ops.Lods free e = then_way load_way (λ _ h. follows h)
  by_way ops.Scas free e = then_way (scan_way free) (λ _ h. follows h)
  by_way ops.Ins free e = input_way
  by_way ops.Outs free e = output_way
  by_way _ free e = absurd cc

  iterates : (free : ℕ) → runs_string insn.op ≡ true → Ways (Leaves r) (iterate_plan insn r free)
  unfolding iterate_plan
  iterates free e = by_way insn.op free e

  -- an iteration that is counted
  counts : (free : ℕ) → runs_string insn.op ≡ true → Ways (Leaves r) (then_plan (iterate_plan insn r free) (λ after. Done (counted_after insn after)))
  counts free e = then_way (iterates free e) (λ after h. passes (then_stays h.0 (reg_stays after.regs 1 _ _), repeated (goes_on insn (counted_down after.regs insn.wide))))

  counted : (free : ℕ) → runs_string insn.op ≡ true → (rep : Rep) → Ways (Leaves r) (repeating rep insn r free)
  counted free e rep.Plain = iterates free e
  counted free e rep.Equal = either_way _ (follows (stays r)) (counts free e)
  counted free e rep.NotEqual = either_way _ (follows (stays r)) (counts free e)

pub string_complete : (insn : Insn) (r : Regs) (free : ℕ) → runs_string insn.op ≡ true → IsComplete r (string_plan insn r free)
unfolding string_plan
string_complete insn r free e = (counted insn r free e insn.rep).ends
