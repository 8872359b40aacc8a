-- Which instructions are data instructions, and what each of them does. Manual, chapters 3 and 17.
use Rattle.std.specs.Prelude.{ℕ, ◌&&◌, ◌||◌, not, Bool, true, false}
use Rattle.mdl_state.specs.declared.Seg.TheVariants.{Es, Ss, Ds, Fs, Gs}
use Rattle.mdl_state.specs.declared.Regs.{Regs}
use Rattle.mdl_state.specs.Attempt.{Plan}
use Rattle.mdl_num.specs.declared.results.BitOp.TheVariants as bits
use Rattle.mdl_insn.specs.declared.instruction.Insn.{Insn}
use Rattle.mdl_insn.specs.declared.instruction.Operand.{Operand}
use Rattle.mdl_insn.specs.declared.instruction.Operand.TheVariants.{Sreg, Creg, Dreg}
use Rattle.mdl_insn.specs.declared.mnemonics.Op.{Op}
use Rattle.mdl_insn.specs.declared.mnemonics.Op.TheVariants as ops
use Rattle.mdl_effect.specs.Operands.{After, no_such, is_plain}
use Rattle.mdl_effect.specs.Arithmetic.{binary_plan, compare_plan, unary_plan, multiply_plan, signed_multiply_plan, divide_plan, signed_divide_plan, adjust_plan, digits_plan, from_digits_plan}
use Rattle.mdl_effect.specs.Shifts.{shift_plan, double_shift_plan, bit_test_plan, bit_change_plan, scan_plan}
use Rattle.mdl_effect.specs.Conditions.{set_plan}
use Rattle.mdl_effect.specs.Moves.{move_plan, sign_extend_plan, mov_plan, lea_plan, xlat_plan, pointer_plan, bound_plan, pop_segment_plan, exchange_plan, widen_plan, sign_plan}

-- the mnemonics that are built here
abbrev pub is_data : Op → Bool
is_data ops.Mov = true
is_data ops.Movzx = true
is_data ops.Movsx = true
is_data ops.Xchg = true
is_data ops.Cbw = true
is_data ops.Cwd = true
is_data ops.Add = true
is_data ops.Or = true
is_data ops.Adc = true
is_data ops.Sbb = true
is_data ops.And = true
is_data ops.Sub = true
is_data ops.Xor = true
is_data ops.Cmp = true
is_data ops.Test = true
is_data ops.Inc = true
is_data ops.Dec = true
is_data ops.Neg = true
is_data ops.Not = true
is_data ops.Mul = true
is_data ops.Imul = true
is_data ops.Div = true
is_data ops.Idiv = true
is_data ops.Daa = true
is_data ops.Das = true
is_data ops.Aaa = true
is_data ops.Aas = true
is_data ops.Aam = true
is_data ops.Aad = true
is_data ops.Rol = true
is_data ops.Ror = true
is_data ops.Rcl = true
is_data ops.Rcr = true
is_data ops.Shl = true
is_data ops.Shr = true
is_data ops.Sar = true
is_data ops.Shld = true
is_data ops.Shrd = true
is_data ops.Bt = true
is_data ops.Bts = true
is_data ops.Btr = true
is_data ops.Btc = true
is_data ops.Bsf = true
is_data ops.Bsr = true
is_data (ops.Setcc number) = true
is_data _ = false

-- the mnemonics whose operands are memory or segment registers alone
abbrev pub is_address : Op → Bool
is_address ops.Lea = true
is_address ops.Xlat = true
is_address ops.Les = true
is_address ops.Lds = true
is_address ops.Lss = true
is_address ops.Lfs = true
is_address ops.Lgs = true
is_address ops.Bound = true
is_address _ = false

abbrev pub is_special : Operand → Bool
is_special (Creg n) = true
is_special (Dreg n) = true
is_special _ = false

abbrev pub is_segment_pop : Op → Operand → Bool
is_segment_pop ops.Pop (Sreg seg) = true
is_segment_pop _ a = false

-- the instruction is a data instruction: no MOV of a control or debug register, and of POP that of a segment register
abbrev pub runs_data : Insn → Bool
runs_data insn = (is_data insn.op && not (is_special insn.a) && not (is_special insn.b)) || is_address insn.op || is_segment_pop insn.op insn.a

-- what an instruction of such a mnemonic does
abbrev pub by_mnemonic : Op → Insn → Regs → ℕ → Plan After
by_mnemonic ops.Mov insn r free = mov_plan insn r
by_mnemonic ops.Movzx insn r free = move_plan insn r
by_mnemonic ops.Movsx insn r free = sign_extend_plan insn r
by_mnemonic ops.Xchg insn r free = exchange_plan insn r
by_mnemonic ops.Cbw insn r free = widen_plan insn r
by_mnemonic ops.Cwd insn r free = sign_plan insn r
by_mnemonic ops.Add insn r free = binary_plan insn r free
by_mnemonic ops.Or insn r free = binary_plan insn r free
by_mnemonic ops.Adc insn r free = binary_plan insn r free
by_mnemonic ops.Sbb insn r free = binary_plan insn r free
by_mnemonic ops.And insn r free = binary_plan insn r free
by_mnemonic ops.Sub insn r free = binary_plan insn r free
by_mnemonic ops.Xor insn r free = binary_plan insn r free
by_mnemonic ops.Cmp insn r free = compare_plan insn r free
by_mnemonic ops.Test insn r free = compare_plan insn r free
by_mnemonic ops.Inc insn r free = unary_plan insn r free
by_mnemonic ops.Dec insn r free = unary_plan insn r free
by_mnemonic ops.Neg insn r free = unary_plan insn r free
by_mnemonic ops.Not insn r free = unary_plan insn r free
by_mnemonic ops.Mul insn r free = multiply_plan insn r free
by_mnemonic ops.Imul insn r free = signed_multiply_plan insn r free
by_mnemonic ops.Div insn r free = divide_plan insn r free
by_mnemonic ops.Idiv insn r free = signed_divide_plan insn r free
by_mnemonic ops.Daa insn r free = adjust_plan insn r free
by_mnemonic ops.Das insn r free = adjust_plan insn r free
by_mnemonic ops.Aaa insn r free = adjust_plan insn r free
by_mnemonic ops.Aas insn r free = adjust_plan insn r free
by_mnemonic ops.Aam insn r free = digits_plan insn r free
by_mnemonic ops.Aad insn r free = from_digits_plan insn r free
by_mnemonic ops.Rol insn r free = shift_plan insn r free
by_mnemonic ops.Ror insn r free = shift_plan insn r free
by_mnemonic ops.Rcl insn r free = shift_plan insn r free
by_mnemonic ops.Rcr insn r free = shift_plan insn r free
by_mnemonic ops.Shl insn r free = shift_plan insn r free
by_mnemonic ops.Shr insn r free = shift_plan insn r free
by_mnemonic ops.Sar insn r free = shift_plan insn r free
by_mnemonic ops.Shld insn r free = double_shift_plan true insn r free
by_mnemonic ops.Shrd insn r free = double_shift_plan false insn r free
by_mnemonic ops.Bt insn r free = bit_test_plan insn r free
by_mnemonic ops.Bts insn r free = bit_change_plan bits.Bts insn r free
by_mnemonic ops.Btr insn r free = bit_change_plan bits.Btr insn r free
by_mnemonic ops.Btc insn r free = bit_change_plan bits.Btc insn r free
by_mnemonic ops.Bsf insn r free = scan_plan true insn r free
by_mnemonic ops.Bsr insn r free = scan_plan false insn r free
by_mnemonic (ops.Setcc number) insn r free = set_plan number insn r
by_mnemonic ops.Lea insn r free = lea_plan insn r
by_mnemonic ops.Xlat insn r free = xlat_plan insn r
by_mnemonic ops.Les insn r free = pointer_plan Es insn r
by_mnemonic ops.Lds insn r free = pointer_plan Ds insn r
by_mnemonic ops.Lss insn r free = pointer_plan Ss insn r
by_mnemonic ops.Lfs insn r free = pointer_plan Fs insn r
by_mnemonic ops.Lgs insn r free = pointer_plan Gs insn r
by_mnemonic ops.Bound insn r free = bound_plan insn r
by_mnemonic ops.Pop insn r free = pop_segment_plan insn r
by_mnemonic _ insn r free = no_such

unfoldable pub data_effect : Insn → Regs → ℕ → Plan After
data_effect insn r free = by_mnemonic insn.op insn r free

-- a data instruction of which each operand is a general register or a number
abbrev pub is_plain_data : Insn → Bool
is_plain_data insn = is_data insn.op && is_plain insn.a && is_plain insn.b && is_plain insn.c
