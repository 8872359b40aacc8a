-- The operands of instructions by their mnemonics: what they are, and their sizes and numbers. Manual,
-- chapter 17, under each instruction, and appendix A.
use Rattle.std.specs.Prelude.{◌≡◌, ◌≢◌, ◌<◌, ◌≤◌, ℕ, ◌||◌, true, ⊤}
use Rattle.mdl_state.specs.declared.Size.{Size}
use Rattle.mdl_state.specs.declared.Size.TheVariants.{B1, B2, B4}
use Rattle.mdl_state.specs.Bytes.{bytes_of, bound_of}
use Rattle.mdl_insn.specs.declared.instruction.Insn.{Insn}
use Rattle.mdl_insn.specs.declared.instruction.Operand.{Operand}
use Rattle.mdl_insn.specs.declared.instruction.Operand.TheVariants.{Gpr, Imm, Sreg, Creg, Dreg, At}
use Rattle.mdl_insn.specs.declared.mnemonics.Op.{Op}
use Rattle.mdl_insn.specs.declared.mnemonics.Op.TheVariants as ops
use Rattle.mdl_effect.specs.Operands.{is_plain, is_nothing}
use Rattle.mdl_effect.specs.Kinds.{is_gpr, is_number, is_memory, is_place, is_direct, is_value, is_relative, is_pushed, is_popped, is_target, is_far_target, is_accumulator, is_control_number, is_debug_number, IsFar, IsPort}

-- ---- sizes and numbers

-- a register, a number or memory of this size
abbrev pub IsOf : Size → Operand → Type 0
IsOf size (Gpr n own) = (own ≡ size) × (n < 8)
IsOf size (Imm value own) = (own ≡ size) × (value < bound_of size)
IsOf size (At mem own) = own ≡ size
IsOf size _ = ⊤

-- a register, a number or memory of no more bytes
abbrev pub IsWithin : Size → Operand → Type 0
IsWithin size (Gpr n own) = (bytes_of own ≤ bytes_of size) × (n < 8)
IsWithin size (Imm value own) = (bytes_of own ≤ bytes_of size) × (value < bound_of own)
IsWithin size (At mem own) = bytes_of own ≤ bytes_of size
IsWithin size _ = ⊤

-- ---- what a mnemonic takes, much as the manual writes it

-- An operand. Those with no size in their names have that of the instruction.
pub data Part : Type 0 where
  Empty : Part  -- none
  Reg : Part  -- r
  Reg16 : Part  -- r16
  Memory : Part  -- m
  RegMem : Part  -- r/m
  RegMem8 : Part  -- r/m8
  RegMem16 : Part  -- r/m16
  Value : Part  -- r/m or imm
  Narrow : Part  -- r/m or imm, of no more than the size
  Index : Part  -- r or imm, of no more than the size
  Count : Part  -- imm8 or CL
  Imm8 : Part  -- imm8
  Imm16 : Part  -- imm16
  OrReg : Part  -- r or none
  OrRegMem : Part  -- r/m or none
  OrValue : Part  -- r/m or imm or none
  OrImm : Part  -- imm or none
  OrImm16 : Part  -- imm16 or none
  Relative : Part  -- rel
  Target : Part  -- rel or r/m
  FarTarget : Part  -- ptr or m
  Pushed : Part  -- r/m, imm or a segment register
  Popped : Part  -- r/m, or a segment register but for CS
  Accumulator : Part  -- AL, AX or EAX
  Port : Part  -- imm8 or DX

-- the operand is so, in an instruction of this size
abbrev pub IsPart : Part → Size → Operand → Type 0
IsPart Empty size a = is_nothing a ≡ true
IsPart Reg size a = (is_gpr a ≡ true) × IsOf size a
IsPart Reg16 size a = (is_gpr a ≡ true) × IsOf B2 a
IsPart Memory size a = (is_memory a ≡ true) × IsOf size a
IsPart RegMem size a = (is_place a ≡ true) × IsOf size a
IsPart RegMem8 size a = (is_place a ≡ true) × IsOf B1 a
IsPart RegMem16 size a = (is_place a ≡ true) × IsOf B2 a
IsPart Value size a = (is_value a ≡ true) × IsOf size a
IsPart Narrow size a = (is_value a ≡ true) × IsWithin size a
IsPart Index size a = (is_direct a ≡ true) × IsWithin size a
IsPart Count size a = (is_direct a ≡ true) × IsOf B1 a
IsPart Imm8 size a = (is_number a ≡ true) × IsOf B1 a
IsPart Imm16 size a = (is_number a ≡ true) × IsOf B2 a
IsPart OrReg size a = ((is_gpr a || is_nothing a) ≡ true) × IsOf size a
IsPart OrRegMem size a = ((is_place a || is_nothing a) ≡ true) × IsOf size a
IsPart OrValue size a = ((is_value a || is_nothing a) ≡ true) × IsOf size a
IsPart OrImm size a = ((is_number a || is_nothing a) ≡ true) × IsOf size a
IsPart OrImm16 size a = ((is_number a || is_nothing a) ≡ true) × IsOf B2 a
IsPart Relative size a = is_relative a ≡ true
IsPart Target size a = (is_target a ≡ true) × IsOf size a
IsPart FarTarget size a = (is_far_target a ≡ true) × IsOf size a × IsFar size a
IsPart Pushed size a = (is_pushed a ≡ true) × IsOf size a
IsPart Popped size a = (is_popped a ≡ true) × IsOf size a
IsPart Accumulator size a = (is_accumulator a ≡ true) × IsOf size a
IsPart Port size a = IsPort a

-- All operands. `Wide` says that the size is that of words or doublewords, `Apart` that the first two
-- operands are not both memory, `OnCondition` that the number is that of a condition.
pub data Shape : Type 0 where
  Takes : Part → Part → Part → Shape
  Wide : Shape → Shape
  Apart : Shape → Shape
  OnCondition : ℕ → Shape → Shape
  Moves : Shape

-- MOV of a segment, control or debug register, or of the size of the instruction. CS is no destination.
abbrev pub IsMove : Operand → Operand → Size → Type 0
IsMove (Sreg seg) b size = (is_popped (Sreg seg) ≡ true) × (size ≢ B1) × (is_place b ≡ true) × IsOf B2 b
IsMove (Creg n) b size = (is_control_number n ≡ true) × (size ≡ B4) × (is_gpr b ≡ true) × IsOf B4 b
IsMove (Dreg n) b size = (is_debug_number n ≡ true) × (size ≡ B4) × (is_gpr b ≡ true) × IsOf B4 b
IsMove a (Sreg seg) size = (size ≢ B1) × (is_place a ≡ true) × IsOf B2 a
IsMove a (Creg n) size = (is_control_number n ≡ true) × (size ≡ B4) × (is_gpr a ≡ true) × IsOf B4 a
IsMove a (Dreg n) size = (is_debug_number n ≡ true) × (size ≡ B4) × (is_gpr a ≡ true) × IsOf B4 a
IsMove a b size = IsPart RegMem size a × IsPart Value size b × ((is_plain a || is_plain b) ≡ true)

abbrev pub IsShape : Shape → Insn → Type 0
IsShape (Takes a b c) insn = IsPart a insn.size insn.a × IsPart b insn.size insn.b × IsPart c insn.size insn.c
IsShape (Wide shape) insn = (insn.size ≢ B1) × IsShape shape insn
IsShape (Apart shape) insn = ((is_plain insn.a || is_plain insn.b) ≡ true) × IsShape shape insn
IsShape (OnCondition number shape) insn = (number < 16) × IsShape shape insn
IsShape Moves insn = IsMove insn.a insn.b insn.size × (is_nothing insn.c ≡ true)

-- ---- what each mnemonic takes

-- CMP, TEST, MUL, DIV, IDIV and IMUL read alone: a number may stand for memory that was read.
abbrev pub shape_of : Op → Shape
-- moves
shape_of ops.Mov = Moves
shape_of ops.Movzx = Wide (Takes Reg Narrow Empty)
shape_of ops.Movsx = Wide (Takes Reg Narrow Empty)
shape_of ops.Xchg = Takes OrRegMem OrReg Empty
shape_of ops.Cbw = Wide (Takes Empty Empty Empty)
shape_of ops.Cwd = Wide (Takes Empty Empty Empty)
shape_of ops.Lea = Wide (Takes Reg Memory Empty)
shape_of ops.Les = Wide (Takes Reg Memory Empty)
shape_of ops.Lds = Wide (Takes Reg Memory Empty)
shape_of ops.Lss = Wide (Takes Reg Memory Empty)
shape_of ops.Lfs = Wide (Takes Reg Memory Empty)
shape_of ops.Lgs = Wide (Takes Reg Memory Empty)
shape_of ops.Xlat = Takes Empty Empty Empty
shape_of ops.Bound = Wide (Takes Reg Memory Empty)
-- sums, differences and logic
shape_of ops.Add = Apart (Takes RegMem Value Empty)
shape_of ops.Or = Apart (Takes RegMem Value Empty)
shape_of ops.Adc = Apart (Takes RegMem Value Empty)
shape_of ops.Sbb = Apart (Takes RegMem Value Empty)
shape_of ops.And = Apart (Takes RegMem Value Empty)
shape_of ops.Sub = Apart (Takes RegMem Value Empty)
shape_of ops.Xor = Apart (Takes RegMem Value Empty)
shape_of ops.Cmp = Apart (Takes Value Value Empty)
shape_of ops.Test = Apart (Takes Value Value Empty)
shape_of ops.Inc = Takes RegMem Empty Empty
shape_of ops.Dec = Takes RegMem Empty Empty
shape_of ops.Neg = Takes RegMem Empty Empty
shape_of ops.Not = Takes RegMem Empty Empty
-- products, quotients and decimal adjusts
shape_of ops.Mul = Takes Value Empty Empty
shape_of ops.Imul = Apart (Takes Value OrValue OrImm)
shape_of ops.Div = Takes Value Empty Empty
shape_of ops.Idiv = Takes Value Empty Empty
shape_of ops.Daa = Takes Empty Empty Empty
shape_of ops.Das = Takes Empty Empty Empty
shape_of ops.Aaa = Takes Empty Empty Empty
shape_of ops.Aas = Takes Empty Empty Empty
shape_of ops.Aam = Takes Imm8 Empty Empty
shape_of ops.Aad = Takes Imm8 Empty Empty
-- shifts and bits
shape_of ops.Rol = Takes RegMem Count Empty
shape_of ops.Ror = Takes RegMem Count Empty
shape_of ops.Rcl = Takes RegMem Count Empty
shape_of ops.Rcr = Takes RegMem Count Empty
shape_of ops.Shl = Takes RegMem Count Empty
shape_of ops.Shr = Takes RegMem Count Empty
shape_of ops.Sar = Takes RegMem Count Empty
shape_of ops.Shld = Wide (Takes RegMem Reg Count)
shape_of ops.Shrd = Wide (Takes RegMem Reg Count)
shape_of ops.Bt = Wide (Takes RegMem Index Empty)
shape_of ops.Bts = Wide (Takes RegMem Index Empty)
shape_of ops.Btr = Wide (Takes RegMem Index Empty)
shape_of ops.Btc = Wide (Takes RegMem Index Empty)
shape_of ops.Bsf = Wide (Takes Reg Value Empty)
shape_of ops.Bsr = Wide (Takes Reg Value Empty)
shape_of (ops.Setcc number) = OnCondition number (Takes RegMem8 Empty Empty)
-- near flow
shape_of ops.Jmp = Wide (Takes Target Empty Empty)
shape_of (ops.Jcc number) = OnCondition number (Wide (Takes Relative Empty Empty))
shape_of ops.Call = Wide (Takes Target Empty Empty)
shape_of ops.Ret = Wide (Takes OrImm16 Empty Empty)
shape_of ops.Loop = Wide (Takes Relative Empty Empty)
shape_of ops.Loope = Wide (Takes Relative Empty Empty)
shape_of ops.Loopne = Wide (Takes Relative Empty Empty)
shape_of ops.Jcxz = Wide (Takes Relative Empty Empty)
-- the stack
shape_of ops.Push = Wide (Takes Pushed Empty Empty)
shape_of ops.Pop = Wide (Takes Popped Empty Empty)
shape_of ops.Pusha = Wide (Takes Empty Empty Empty)
shape_of ops.Popa = Wide (Takes Empty Empty Empty)
shape_of ops.Pushf = Wide (Takes Empty Empty Empty)
shape_of ops.Popf = Wide (Takes Empty Empty Empty)
shape_of ops.Enter = Wide (Takes Imm16 Imm8 Empty)
shape_of ops.Leave = Wide (Takes Empty Empty Empty)
-- the flags
shape_of ops.Clc = Takes Empty Empty Empty
shape_of ops.Stc = Takes Empty Empty Empty
shape_of ops.Cmc = Takes Empty Empty Empty
shape_of ops.Cld = Takes Empty Empty Empty
shape_of ops.Std = Takes Empty Empty Empty
shape_of ops.Cli = Takes Empty Empty Empty
shape_of ops.Sti = Takes Empty Empty Empty
shape_of ops.Lahf = Takes Empty Empty Empty
shape_of ops.Sahf = Takes Empty Empty Empty
-- strings and ports
shape_of ops.Movs = Takes Empty Empty Empty
shape_of ops.Cmps = Takes Empty Empty Empty
shape_of ops.Stos = Takes Empty Empty Empty
shape_of ops.Lods = Takes Empty Empty Empty
shape_of ops.Scas = Takes Empty Empty Empty
shape_of ops.Ins = Takes Empty Empty Empty
shape_of ops.Outs = Takes Empty Empty Empty
shape_of ops.InPort = Takes Accumulator Port Empty
shape_of ops.OutPort = Takes Port Accumulator Empty
-- far flow and interrupts
shape_of ops.Callf = Wide (Takes FarTarget Empty Empty)
shape_of ops.Jmpf = Wide (Takes FarTarget Empty Empty)
shape_of ops.Retf = Wide (Takes OrImm16 Empty Empty)
shape_of ops.Int3 = Wide (Takes Empty Empty Empty)
shape_of ops.Int = Wide (Takes Imm8 Empty Empty)
shape_of ops.Into = Wide (Takes Empty Empty Empty)
shape_of ops.Iret = Wide (Takes Empty Empty Empty)
-- the system
shape_of ops.Arpl = Wide (Takes RegMem16 Reg16 Empty)
shape_of ops.Lar = Wide (Takes Reg RegMem16 Empty)
shape_of ops.Lsl = Wide (Takes Reg RegMem16 Empty)
shape_of ops.Sldt = Wide (Takes RegMem16 Empty Empty)
shape_of ops.Str = Wide (Takes RegMem16 Empty Empty)
shape_of ops.Lldt = Wide (Takes RegMem16 Empty Empty)
shape_of ops.Ltr = Wide (Takes RegMem16 Empty Empty)
shape_of ops.Verr = Wide (Takes RegMem16 Empty Empty)
shape_of ops.Verw = Wide (Takes RegMem16 Empty Empty)
shape_of ops.Sgdt = Wide (Takes Memory Empty Empty)
shape_of ops.Sidt = Wide (Takes Memory Empty Empty)
shape_of ops.Lgdt = Wide (Takes Memory Empty Empty)
shape_of ops.Lidt = Wide (Takes Memory Empty Empty)
shape_of ops.Smsw = Wide (Takes RegMem16 Empty Empty)
shape_of ops.Lmsw = Wide (Takes RegMem16 Empty Empty)
shape_of ops.Clts = Takes Empty Empty Empty
shape_of ops.Hlt = Takes Empty Empty Empty
shape_of ops.Wait = Takes Empty Empty Empty
shape_of ops.Esc = Wide (Takes Imm8 RegMem Empty)

-- the operands are those that the mnemonic takes
abbrev pub IsFormedAs : Op → Insn → Type 0
IsFormedAs op insn = IsShape (shape_of op) insn

abbrev pub IsFormed : Insn → Type 0
IsFormed insn = IsFormedAs insn.op insn
