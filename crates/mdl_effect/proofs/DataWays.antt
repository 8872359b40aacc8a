-- Each way through the plan of a data instruction.
use Rattle.std.proofs.Common.{◌≡◌, ℕ, ◌*◌, ◌/◌, ◌%◌, ◌==◌, ◌&&◌, Bool, true, false, refl, arith}
use Rattle.std.proofs.lemmas.Bool.{false≢true}
use Rattle.std.specs.Prelude.{not, ◌||◌, if◌then◌else◌, Result, Ok, Err}
use Rattle.mdl_state.specs.declared.Size.{Size}
use Rattle.mdl_state.specs.declared.Size.TheVariants.{B1, B2}
use Rattle.mdl_state.specs.declared.Seg.{Seg}
use Rattle.mdl_state.specs.declared.Seg.TheVariants.{Ss}
use Rattle.mdl_state.specs.declared.Regs.{Regs}
use Rattle.mdl_state.specs.Bytes.{bound_of}
use Rattle.mdl_state.specs.Registers.{reg_of, with_reg}
use Rattle.mdl_state.specs.Attempt.{Plan, Done, Fail, then_plan}
use Rattle.mdl_num.specs.declared.results.BitOp.{BitOp}
use Rattle.mdl_num.specs.declared.results.DivideError.{DivideError}
use Rattle.mdl_num.specs.declared.status.Status.{Status}
use Rattle.mdl_num.specs.Products.{mul_status, imul_word, imul_status, div_result, idiv_result}
use Rattle.mdl_num.specs.Shifts.{double_shift_value, double_shift_flags}
use Rattle.mdl_num.specs.Bits.{bit_test_status, scan_value, scan_status}
use Rattle.mdl_num.specs.Decimal.{al_of, aam_value, aad_value, digits_status}
use Rattle.mdl_insn.specs.declared.instruction.Insn.{Insn}
use Rattle.mdl_insn.specs.declared.instruction.Operand.{Operand}
use Rattle.mdl_insn.specs.declared.instruction.Operand.TheVariants.{Gpr, Sreg, Creg, Dreg, Imm, At}
use Rattle.mdl_insn.specs.declared.mnemonics.Op.{Op}
use Rattle.mdl_insn.specs.declared.mnemonics.Op.TheVariants as ops
use Rattle.mdl_cpu.specs.Loads.{load_plan}
use Rattle.mdl_cpu.specs.Steady.{Steady}
use Rattle.mdl_effect.specs.Operands.{After, Made, NoPort, IsOrdinary, follow, is_plain, is_nothing, size_of, value_of, with_value, with_flags, memory_write, reading, writing, updating}
use Rattle.mdl_effect.specs.Arithmetic.{binary_plan, compare_plan, unary_plan, multiply_plan, signed_multiply_plan, divide_plan, signed_divide_plan, quotient_plan, adjust_plan, digits_plan, from_digits_plan, with_pair, with_product, high_number, divide_error, adjusted, Answer, answer, flagged, binary, unary, signed_answer}
use Rattle.mdl_effect.specs.Shifts.{shift_plan, double_shift_plan, bit_test_plan, bit_change_plan, bit_read, bit_change, bit_made, bit_place, shifted, scan_plan}
use Rattle.mdl_effect.specs.Conditions.{set_plan}
use Rattle.mdl_effect.specs.Moves.{move_plan, sign_extend_plan, load_segment_plan, store_segment_plan, segment_move, mov_plan, lea_plan, lea_of, xlat_plan, pointer_plan, pointer_of, bound_plan, bound_within, pop_segment_plan, pop_of, exchange_plan, widen_plan, sign_plan, with_sized, sign_extended, after_load}
use Rattle.mdl_effect.specs.DataEffects.{is_data, is_address, is_special, is_segment_pop, runs_data, by_mnemonic, data_effect}
use Rattle.mdl_effect.specs.Kinds.{is_place, is_memory}
use Rattle.mdl_effect.specs.Forms.{IsMove, IsFormedAs, IsFormed}
use Rattle.mdl_effect.specs.Ways.{Leaves, IsComplete}
use Rattle.mdl_effect.proofs.Registers.{stays, then_stays, reg_stays, flags_stay, value_stays}
use Rattle.mdl_effect.proofs.Operations.{follows, Ways, passes, fails, either_way, is_read, place_read, value_read, direct_read, gpr_read, number_read, maybe_gpr_read, maybe_place_read, maybe_value_read, maybe_number_read, load_then, store_then, pop_then, reads, writes, updates, changes_in}
use Rattle.mdl_effect.proofs.LoadWays.{segment_then}

-- ---- sums, products and quotients

module _ (insn : Insn) (r : Regs) (free : ℕ) where
  binary_way : is_read insn.a ≡ true → is_read insn.b ≡ true → Ways (Leaves r) (binary_plan insn r free)
  unfolding binary_plan
  binary_way a b = reads r insn.b (λ y. updating r insn.a (λ x. flagged r free (binary insn.op insn.size x y r.eflags))) b (λ y.
      updates r insn.a (λ x. flagged r free (binary insn.op insn.size x y r.eflags)) a (λ x. flags_stay r (binary insn.op insn.size x y r.eflags).status free))

  compare_way : is_read insn.a ≡ true → is_read insn.b ≡ true → Ways (Leaves r) (compare_plan insn r free)
  unfolding compare_plan
  compare_way a b = reads r insn.b (λ y. reading r insn.a (λ x. follow (with_flags r (binary insn.op insn.size x y r.eflags).status free))) b (λ y.
      reads r insn.a (λ x. follow (with_flags r (binary insn.op insn.size x y r.eflags).status free)) a (λ x. follows (flags_stay r (binary insn.op insn.size x y r.eflags).status free)))

  unary_way : is_read insn.a ≡ true → Ways (Leaves r) (unary_plan insn r free)
  unfolding unary_plan
  unary_way a = updates r insn.a (λ x. flagged r free (unary insn.op insn.size x)) a (λ x. flags_stay r (unary insn.op insn.size x).status free)

  pair_stays : (size : Size) (low high : ℕ) → Steady r (with_pair r size low high)
  pair_stays size low high = then_stays (reg_stays r 0 size low) (reg_stays _ _ size high)

  product_stays : (product : ℕ) (status : Status) → Steady r (with_flags (with_product r insn.size product) status free)
  product_stays product status = then_stays (pair_stays insn.size (product % bound_of insn.size) (product / bound_of insn.size)) (flags_stay (with_product r insn.size product) status free)

  adjusted_stays : (made : Answer) → Steady r (with_flags (with_reg r 0 B2 made.value) made.status free)
  adjusted_stays made = then_stays (reg_stays r 0 B2 made.value) (flags_stay (with_reg r 0 B2 made.value) made.status free)

  multiply_way : is_read insn.a ≡ true → Ways (Leaves r) (multiply_plan insn r free)
  unfolding multiply_plan
  multiply_way a = reads r insn.a (λ x. follow (with_flags (with_product r insn.size (reg_of r 0 insn.size * x)) (mul_status insn.size (reg_of r 0 insn.size) x) free)) a
      (λ x. follows (product_stays (reg_of r 0 insn.size * x) (mul_status insn.size (reg_of r 0 insn.size) x)))

  signed_multiply_way : is_read insn.a ≡ true → is_read insn.b ≡ true → is_read insn.c ≡ true → Ways (Leaves r) (signed_multiply_plan insn r free)
  unfolding signed_multiply_plan
  signed_multiply_way a b c = either_way (is_nothing insn.b)
      (reads r insn.a (λ x. follow (with_flags (with_product r insn.size (imul_word insn.size (reg_of r 0 insn.size) x)) (imul_status insn.size (reg_of r 0 insn.size) x) free)) a
      (λ x. follows (product_stays (imul_word insn.size (reg_of r 0 insn.size) x) (imul_status insn.size (reg_of r 0 insn.size) x))))
      (either_way (is_nothing insn.c)
      (reads r insn.b (λ y. updating r insn.a (λ x. flagged r free (signed_answer insn.size x y))) b (λ y.
      updates r insn.a (λ x. flagged r free (signed_answer insn.size x y)) a (λ x. flags_stay r (signed_answer insn.size x y).status free)))
      (reads r insn.b (λ y. reading r insn.c (λ z. updating r insn.a (λ _. flagged r free (signed_answer insn.size y z)))) b (λ y.
      reads r insn.c (λ z. updating r insn.a (λ _. flagged r free (signed_answer insn.size y z))) c (λ z.
      updates r insn.a (λ _. flagged r free (signed_answer insn.size y z)) a (λ _. flags_stay r (signed_answer insn.size y z).status free)))))

  quotient_way : (size : Size) (result : Result (ℕ × ℕ) DivideError) → Ways (Leaves r) (quotient_plan r size free result)
  quotient_way size (Ok divided) = follows (then_stays (pair_stays size _ _) (flags_stay _ _ free))
  quotient_way size (Err error) = fails (omega arith)

  divide_way : is_read insn.a ≡ true → Ways (Leaves r) (divide_plan insn r free)
  unfolding divide_plan
  divide_way a = reads r insn.a (λ by. quotient_plan r insn.size free (div_result insn.size (reg_of r (high_number insn.size) insn.size) (reg_of r 0 insn.size) by)) a
      (λ by. quotient_way insn.size (div_result insn.size (reg_of r (high_number insn.size) insn.size) (reg_of r 0 insn.size) by))

  signed_divide_way : is_read insn.a ≡ true → Ways (Leaves r) (signed_divide_plan insn r free)
  unfolding signed_divide_plan
  signed_divide_way a = reads r insn.a (λ by. quotient_plan r insn.size free (idiv_result insn.size (reg_of r (high_number insn.size) insn.size) (reg_of r 0 insn.size) by)) a
      (λ by. quotient_way insn.size (idiv_result insn.size (reg_of r (high_number insn.size) insn.size) (reg_of r 0 insn.size) by))

  adjust_way : Ways (Leaves r) (adjust_plan insn r free)
  unfolding adjust_plan
  adjust_way = follows (then_stays (reg_stays r 0 _ _) (flags_stay _ _ free))

  -- what AAM and AAD make
  abbrev digits : ℕ → Answer
  digits base = answer (aam_value (reg_of r 0 B2) base) (digits_status (al_of (aam_value (reg_of r 0 B2) base)))

  abbrev number : ℕ → Answer
  number base = answer (aad_value (reg_of r 0 B2) base) (digits_status (aad_value (reg_of r 0 B2) base))

  digits_way : is_read insn.a ≡ true → Ways (Leaves r) (digits_plan insn r free)
  unfolding digits_plan
  digits_way a = reads r insn.a (λ base. if base == 0 then Fail divide_error else adjusted r free (digits base)) a
      (λ base. either_way (base == 0) (fails {fault = divide_error} (omega arith)) (follows (adjusted_stays (digits base))))

  from_digits_way : is_read insn.a ≡ true → Ways (Leaves r) (from_digits_plan insn r free)
  unfolding from_digits_plan
  from_digits_way a = reads r insn.a (λ base. adjusted r free (number base)) a (λ base. follows (adjusted_stays (number base)))

  -- ---- shifts and bits

  shift_way : is_read insn.a ≡ true → is_read insn.b ≡ true → Ways (Leaves r) (shift_plan insn r free)
  unfolding shift_plan
  shift_way a b = reads r insn.b (λ y. updating r insn.a (λ x. flagged r free (shifted insn.op insn.size x y r.eflags))) b (λ y.
      updates r insn.a (λ x. flagged r free (shifted insn.op insn.size x y r.eflags)) a (λ x. flags_stay r (shifted insn.op insn.size x y r.eflags).status free))

  abbrev double_made : Bool → ℕ → ℕ → ℕ → Answer
  double_made left x y z = answer (double_shift_value left insn.size x y z) (double_shift_flags left insn.size x y z)

  double_shift_way : (left : Bool) → is_read insn.a ≡ true → is_read insn.b ≡ true → is_read insn.c ≡ true → Ways (Leaves r) (double_shift_plan left insn r free)
  unfolding double_shift_plan
  double_shift_way left a b c = reads r insn.c (λ z. reading r insn.b (λ y. updating r insn.a (λ x. flagged r free (double_made left x y z)))) c (λ z.
      reads r insn.b (λ y. updating r insn.a (λ x. flagged r free (double_made left x y z))) b (λ y.
      updates r insn.a (λ x. flagged r free (double_made left x y z)) a (λ x. flags_stay r (double_made left x y z).status free)))

  bit_read_way : (a : Operand) (index : ℕ) (p : Plan After) (f : ℕ → Plan After) → is_place a ≡ true → Ways (Leaves r) p → ((value : ℕ) → Ways (Leaves r) (f value))
      → Ways (Leaves r) (if is_plain a then p else then_plan (bit_read r a insn index) f)
  bit_read_way (Gpr n size) index p f e g h = g
  bit_read_way (At mem size) index p f e g h = load_then _ _ _ _ _ h
  bit_read_way _ index p f e g h = absurd cc

  abbrev bit_tested : ℕ → ℕ → Plan After
  bit_tested index x = follow (with_flags r (bit_test_status x (bit_place insn.size index)) free)

  bit_test_way : is_place insn.a ≡ true → is_read insn.b ≡ true → Ways (Leaves r) (bit_test_plan insn r free)
  unfolding bit_test_plan
  bit_test_way a b = reads r insn.b (λ index. if is_plain insn.a then bit_tested index (value_of r insn.a) else then_plan (bit_read r insn.a insn index) (bit_tested index)) b
      (λ index. bit_read_way insn.a index (bit_tested index (value_of r insn.a)) (bit_tested index) a
      (follows (flags_stay r (bit_test_status (value_of r insn.a) (bit_place insn.size index)) free))
      (λ x. follows (flags_stay r (bit_test_status x (bit_place insn.size index)) free)))

  bit_change_in : (a : Operand) (index : ℕ) (p : Plan After) (make : ℕ → Made) → is_place a ≡ true → Ways (Leaves r) p → ((value : ℕ) → Steady r (make value).regs)
      → Ways (Leaves r) (if is_plain a then p else bit_change r a insn index make)
  bit_change_in (Gpr n size) index p make e g h = g
  bit_change_in (At mem size) index p make e g h = changes_in _ _ _ _ _ h
  bit_change_in _ index p make e g h = absurd cc

  bit_change_way : (op : BitOp) → is_place insn.a ≡ true → is_read insn.b ≡ true → Ways (Leaves r) (bit_change_plan op insn r free)
  unfolding bit_change_plan
  bit_change_way op a b = reads r insn.b (λ index. if is_plain insn.a then updating r insn.a (bit_made op insn.size index r free) else bit_change r insn.a insn index (bit_made op insn.size index r free)) b
      (λ index. bit_change_in insn.a index (updating r insn.a (bit_made op insn.size index r free)) (bit_made op insn.size index r free) a
      (updates r insn.a (bit_made op insn.size index r free) (place_read insn.a a) (λ x. flags_stay r (bit_test_status x (bit_place insn.size index)) free))
      (λ x. flags_stay r (bit_test_status x (bit_place insn.size index)) free))

  scan_way : (up : Bool) → is_read insn.a ≡ true → is_read insn.b ≡ true → Ways (Leaves r) (scan_plan up insn r free)
  unfolding scan_plan
  scan_way up a b = reads r insn.b (λ y. updating r insn.a (λ x. flagged r free (answer (scan_value up y x) (scan_status y)))) b (λ y.
      updates r insn.a (λ x. flagged r free (answer (scan_value up y x) (scan_status y))) a (λ x. flags_stay r (scan_status y) free))

-- ---- moves

-- neither follows the load of a segment register
loaded : (seg : Seg) → IsOrdinary (after_load seg)
loaded Ss = tt
loaded _ = tt

module _ (insn : Insn) (r : Regs) where
  set_way : (number : ℕ) → is_read insn.a ≡ true → Ways (Leaves r) (set_plan number insn r)
  unfolding set_plan
  set_way number a = writes _ insn.a _ a (stays r)

  move_way : is_read insn.a ≡ true → is_read insn.b ≡ true → Ways (Leaves r) (move_plan insn r)
  unfolding move_plan
  move_way a b = reads r insn.b (λ value. writing r insn.a value) b (λ value. writes r insn.a value a (stays r))

  sign_extend_way : is_read insn.a ≡ true → is_read insn.b ≡ true → Ways (Leaves r) (sign_extend_plan insn r)
  unfolding sign_extend_plan
  sign_extend_way a b = reads r insn.b (λ value. writing r insn.a (sign_extended (size_of insn.b) insn.size value)) b (λ value.
      writes r insn.a (sign_extended (size_of insn.b) insn.size value) a (stays r))

  load_segment_way : (seg : Seg) → is_read insn.b ≡ true → Ways (Leaves r) (load_segment_plan seg insn r)
  unfolding load_segment_plan
  load_segment_way seg b = reads r insn.b (λ sel. then_plan (load_plan r seg sel) (λ q. Done (record { regs = q; next = after_load seg; access = NoPort }))) b
      (λ sel. segment_then r r seg sel _ (stays r) (λ _ h. passes (h, loaded seg)))

  stored : (a : Operand) (value : ℕ) → is_place a ≡ true → Ways (Leaves r) (if is_plain a then follow (with_sized r a insn.size value) else then_plan (memory_write r a value) (λ _. follow r))
  unfolding memory_write
  stored (Gpr n size) value e = follows (reg_stays r n insn.size value)
  stored (At mem size) value e = store_then _ _ _ _ _ _ (λ _. follows (stays r))
  stored _ value e = absurd cc

  store_segment_way : (seg : Seg) → is_place insn.a ≡ true → Ways (Leaves r) (store_segment_plan seg insn r)
  unfolding store_segment_plan
  store_segment_way seg a = stored insn.a _ a

  mov_way_of : (a b : Operand) → insn.a ≡ a → insn.b ≡ b → IsMove a b insn.size → not (is_special a) ≡ true → not (is_special b) ≡ true
      → Ways (Leaves r) (if is_plain a && is_plain b then move_plan insn r else segment_move a b insn r)
  mov_way_of (Sreg seg) b i j m s t = load_segment_way seg (rw j (place_read b m.2))
  mov_way_of (Gpr n own) (Sreg seg) i j m s t = store_segment_way seg (rw i refl)
  mov_way_of (At mem own) (Sreg seg) i j m s t = store_segment_way seg (rw i refl)
  mov_way_of (Gpr n own) (Gpr k size) i j m s t = move_way (rw i refl) (rw j refl)
  mov_way_of (Gpr n own) (Imm k size) i j m s t = move_way (rw i refl) (rw j refl)
  mov_way_of (Gpr n own) (At k size) i j m s t = move_way (rw i refl) (rw j refl)
  mov_way_of (At mem own) (Gpr k size) i j m s t = move_way (rw i refl) (rw j refl)
  mov_way_of (At mem own) (Imm k size) i j m s t = move_way (rw i refl) (rw j refl)
  mov_way_of (At mem own) (At k size) i j m s t = move_way (rw i refl) (rw j refl)
  mov_way_of (Creg n) b i j m s t = absurd cc
  mov_way_of (Dreg n) b i j m s t = absurd cc
  mov_way_of (Gpr n own) (Creg k) i j m s t = absurd cc
  mov_way_of (Gpr n own) (Dreg k) i j m s t = absurd cc
  mov_way_of (Gpr n own) _ i j m s t = absurd (false≢true m.1.0)
  mov_way_of (At mem own) (Creg k) i j m s t = absurd cc
  mov_way_of (At mem own) (Dreg k) i j m s t = absurd cc
  mov_way_of (At mem own) _ i j m s t = absurd (false≢true m.1.0)
  mov_way_of _ (Sreg seg) i j m s t = absurd (false≢true m.1)
  mov_way_of _ (Creg k) i j m s t = absurd cc
  mov_way_of _ (Dreg k) i j m s t = absurd cc
  mov_way_of _ _ i j m s t = absurd (false≢true m.0.0)

  mov_way : IsMove insn.a insn.b insn.size → not (is_special insn.a) ≡ true → not (is_special insn.b) ≡ true → Ways (Leaves r) (mov_plan insn r)
  mov_way m s t = mov_way_of insn.a insn.b refl refl m s t

  exchange_way : is_read insn.a ≡ true → is_read insn.b ≡ true → Ways (Leaves r) (exchange_plan insn r)
  unfolding exchange_plan
  exchange_way a b = either_way (is_nothing insn.a) (follows (stays r))
      (reads r insn.b (λ y. updating r insn.a (λ x. record { value = y; regs = with_value r insn.b x })) b (λ y.
      updates r insn.a (λ x. record { value = y; regs = with_value r insn.b x }) a (λ x. value_stays r insn.b x)))

  widen_way : Ways (Leaves r) (widen_plan insn r)
  unfolding widen_plan
  widen_way = follows (reg_stays r 0 _ _)

  sign_way : Ways (Leaves r) (sign_plan insn r)
  unfolding sign_plan
  sign_way = follows (reg_stays r 2 _ _)

  -- ---- addresses, pointers and bounds

  lea_of_way : (b : Operand) → is_memory b ≡ true → Ways (Leaves r) (lea_of b insn r)
  lea_of_way (At mem size) e = follows (value_stays r insn.a _)
  lea_of_way _ e = absurd cc

  lea_way : is_memory insn.b ≡ true → Ways (Leaves r) (lea_plan insn r)
  unfolding lea_plan
  lea_way b = lea_of_way insn.b b

  xlat_way : Ways (Leaves r) (xlat_plan insn r)
  unfolding xlat_plan
  xlat_way = load_then _ _ _ _ _ (λ value. follows (reg_stays r 0 B1 value))

  pointer_of_way : (seg : Seg) (b : Operand) → is_memory b ≡ true → Ways (Leaves r) (pointer_of seg b insn r)
  pointer_of_way seg (At mem size) e = load_then _ _ _ _ _ (λ offset. load_then _ _ _ _ _ (λ sel.
      segment_then r r _ _ _ (stays r) (λ q h. follows (then_stays h (value_stays q insn.a offset)))))
  pointer_of_way seg _ e = absurd cc

  pointer_way : (seg : Seg) → is_memory insn.b ≡ true → Ways (Leaves r) (pointer_plan seg insn r)
  unfolding pointer_plan
  pointer_way seg b = pointer_of_way seg insn.b b

  bound_of_way : (b : Operand) → is_memory b ≡ true → Ways (Leaves r) (bound_within b insn r)
  bound_of_way (At mem size) e = load_then _ _ _ _ _ (λ lower. load_then _ _ _ _ _ (λ upper.
      either_way _ (follows (stays r)) (fails (omega arith))))
  bound_of_way _ e = absurd cc

  bound_way : is_memory insn.b ≡ true → Ways (Leaves r) (bound_plan insn r)
  unfolding bound_plan
  bound_way b = bound_of_way insn.b b

  pop_of_way : (a : Operand) → is_segment_pop ops.Pop a ≡ true → Ways (Leaves r) (pop_of a insn r)
  pop_of_way (Sreg seg) e = pop_then r r _ _ (stays r) (λ popped h. segment_then r popped.1 _ _ _ h (λ _ k. passes (k, loaded seg)))
  pop_of_way _ e = absurd cc

  pop_segment_way : is_segment_pop ops.Pop insn.a ≡ true → Ways (Leaves r) (pop_segment_plan insn r)
  unfolding pop_segment_plan
  pop_segment_way a = pop_of_way insn.a a

-- ---- by mnemonic

-- what is moved is no control or debug register
unspecial : (a b : Bool) → ((a && b) || false || false) ≡ true → (a ≡ true) × (b ≡ true)
unspecial true true e = (refl, refl)
unspecial true false e = absurd cc
unspecial false b e = absurd cc

popped_segment : (a : Bool) → (false || false || a) ≡ true → a ≡ true
popped_segment a e = e

by_way : (op : Op) (insn : Insn) (r : Regs) (free : ℕ) → IsFormedAs op insn
    → ((is_data op && not (is_special insn.a) && not (is_special insn.b)) || is_address op || is_segment_pop op insn.a) ≡ true → Ways (Leaves r) (by_mnemonic op insn r free)
by_way ops.Mov insn r free f e = let u = unspecial _ _ e in mov_way insn r f.0 u.0 u.1
by_way ops.Movzx insn r free f e = move_way insn r (gpr_read insn.a f.1.0.0) (value_read insn.b f.1.1.0)
by_way ops.Movsx insn r free f e = sign_extend_way insn r (gpr_read insn.a f.1.0.0) (value_read insn.b f.1.1.0)
by_way ops.Xchg insn r free f e = exchange_way insn r (maybe_place_read insn.a f.0.0) (maybe_gpr_read insn.b f.1.0)
by_way ops.Cbw insn r free f e = widen_way insn r
by_way ops.Cwd insn r free f e = sign_way insn r
by_way ops.Add insn r free f e = binary_way insn r free (place_read insn.a f.1.0.0) (value_read insn.b f.1.1.0)
by_way ops.Or insn r free f e = binary_way insn r free (place_read insn.a f.1.0.0) (value_read insn.b f.1.1.0)
by_way ops.Adc insn r free f e = binary_way insn r free (place_read insn.a f.1.0.0) (value_read insn.b f.1.1.0)
by_way ops.Sbb insn r free f e = binary_way insn r free (place_read insn.a f.1.0.0) (value_read insn.b f.1.1.0)
by_way ops.And insn r free f e = binary_way insn r free (place_read insn.a f.1.0.0) (value_read insn.b f.1.1.0)
by_way ops.Sub insn r free f e = binary_way insn r free (place_read insn.a f.1.0.0) (value_read insn.b f.1.1.0)
by_way ops.Xor insn r free f e = binary_way insn r free (place_read insn.a f.1.0.0) (value_read insn.b f.1.1.0)
by_way ops.Cmp insn r free f e = compare_way insn r free (value_read insn.a f.1.0.0) (value_read insn.b f.1.1.0)
by_way ops.Test insn r free f e = compare_way insn r free (value_read insn.a f.1.0.0) (value_read insn.b f.1.1.0)
by_way ops.Inc insn r free f e = unary_way insn r free (place_read insn.a f.0.0)
by_way ops.Dec insn r free f e = unary_way insn r free (place_read insn.a f.0.0)
by_way ops.Neg insn r free f e = unary_way insn r free (place_read insn.a f.0.0)
by_way ops.Not insn r free f e = unary_way insn r free (place_read insn.a f.0.0)
by_way ops.Mul insn r free f e = multiply_way insn r free (value_read insn.a f.0.0)
by_way ops.Imul insn r free f e = signed_multiply_way insn r free (value_read insn.a f.1.0.0) (maybe_value_read insn.b f.1.1.0) (maybe_number_read insn.c f.1.2.0)
by_way ops.Div insn r free f e = divide_way insn r free (value_read insn.a f.0.0)
by_way ops.Idiv insn r free f e = signed_divide_way insn r free (value_read insn.a f.0.0)
by_way ops.Daa insn r free f e = adjust_way insn r free
by_way ops.Das insn r free f e = adjust_way insn r free
by_way ops.Aaa insn r free f e = adjust_way insn r free
by_way ops.Aas insn r free f e = adjust_way insn r free
by_way ops.Aam insn r free f e = digits_way insn r free (number_read insn.a f.0.0)
by_way ops.Aad insn r free f e = from_digits_way insn r free (number_read insn.a f.0.0)
by_way ops.Rol insn r free f e = shift_way insn r free (place_read insn.a f.0.0) (direct_read insn.b f.1.0)
by_way ops.Ror insn r free f e = shift_way insn r free (place_read insn.a f.0.0) (direct_read insn.b f.1.0)
by_way ops.Rcl insn r free f e = shift_way insn r free (place_read insn.a f.0.0) (direct_read insn.b f.1.0)
by_way ops.Rcr insn r free f e = shift_way insn r free (place_read insn.a f.0.0) (direct_read insn.b f.1.0)
by_way ops.Shl insn r free f e = shift_way insn r free (place_read insn.a f.0.0) (direct_read insn.b f.1.0)
by_way ops.Shr insn r free f e = shift_way insn r free (place_read insn.a f.0.0) (direct_read insn.b f.1.0)
by_way ops.Sar insn r free f e = shift_way insn r free (place_read insn.a f.0.0) (direct_read insn.b f.1.0)
by_way ops.Shld insn r free f e = double_shift_way insn r free true (place_read insn.a f.1.0.0) (gpr_read insn.b f.1.1.0) (direct_read insn.c f.1.2.0)
by_way ops.Shrd insn r free f e = double_shift_way insn r free false (place_read insn.a f.1.0.0) (gpr_read insn.b f.1.1.0) (direct_read insn.c f.1.2.0)
by_way ops.Bt insn r free f e = bit_test_way insn r free f.1.0.0 (direct_read insn.b f.1.1.0)
by_way ops.Bts insn r free f e = bit_change_way insn r free _ f.1.0.0 (direct_read insn.b f.1.1.0)
by_way ops.Btr insn r free f e = bit_change_way insn r free _ f.1.0.0 (direct_read insn.b f.1.1.0)
by_way ops.Btc insn r free f e = bit_change_way insn r free _ f.1.0.0 (direct_read insn.b f.1.1.0)
by_way ops.Bsf insn r free f e = scan_way insn r free true (gpr_read insn.a f.1.0.0) (value_read insn.b f.1.1.0)
by_way ops.Bsr insn r free f e = scan_way insn r free false (gpr_read insn.a f.1.0.0) (value_read insn.b f.1.1.0)
by_way (ops.Setcc number) insn r free f e = set_way insn r number (place_read insn.a f.1.0.0)
by_way ops.Lea insn r free f e = lea_way insn r f.1.1.0
by_way ops.Xlat insn r free f e = xlat_way insn r
by_way ops.Les insn r free f e = pointer_way insn r _ f.1.1.0
by_way ops.Lds insn r free f e = pointer_way insn r _ f.1.1.0
by_way ops.Lss insn r free f e = pointer_way insn r _ f.1.1.0
by_way ops.Lfs insn r free f e = pointer_way insn r _ f.1.1.0
by_way ops.Lgs insn r free f e = pointer_way insn r _ f.1.1.0
by_way ops.Bound insn r free f e = bound_way insn r f.1.1.0
by_way ops.Pop insn r free f e = pop_segment_way insn r (popped_segment _ e)
by_way _ insn r free f e = absurd cc

pub data_complete : (insn : Insn) (r : Regs) (free : ℕ) → IsFormed insn → runs_data insn ≡ true → IsComplete r (data_effect insn r free)
unfolding data_effect
data_complete insn r free f e = (by_way insn.op insn r free f e).ends
