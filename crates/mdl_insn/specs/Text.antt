-- The text of an instruction.
-- Own: The spelling of the text.
use Rattle.std.specs.Prelude.{ℕ, ◌+◌, ◌-◌, ◌/◌, ◌%◌, ◌==◌, Bool, true, false, not, ◌&&◌, nat_lt, if◌then◌else◌, List, [], ◌∷◌, ◌++◌, zero, suc, Option, Some, None, is_none, codes}
use Rattle.std.specs.Str.{byte}
use Rattle.mdl_state.specs.declared.Size.{Size}
use Rattle.mdl_state.specs.declared.Size.TheVariants.{B1, B2, B4}
use Rattle.mdl_state.specs.declared.Seg.{Seg}
use Rattle.mdl_insn.specs.declared.instruction.Mem.{Mem}
use Rattle.mdl_insn.specs.declared.instruction.Operand.{Operand}
use Rattle.mdl_insn.specs.declared.instruction.Operand.TheVariants.{Nothing, Gpr, Sreg, Creg, Dreg, At, Imm, Rel, Far}
use Rattle.mdl_insn.specs.declared.instruction.Rep.{Rep}
use Rattle.mdl_insn.specs.declared.instruction.Rep.TheVariants.{Plain, Equal, NotEqual}
use Rattle.mdl_insn.specs.declared.instruction.Insn.{Insn}
use Rattle.mdl_insn.specs.declared.mnemonics.Op.{Op}
use Rattle.mdl_insn.specs.declared.mnemonics.Op.TheVariants as ops
use Rattle.mdl_state.specs.Bytes.{bound_of}
use Rattle.mdl_insn.specs.Addresses.{address_size}
use Rattle.mdl_insn.specs.Operands.{is_string}
use Rattle.mdl_insn.specs.Names.{segment_name, register_name, stem, ending, is_nop}

-- ---- numbers

abbrev pub digit : ℕ → ℕ
digit n = if nat_lt n 10 then byte "0" + n else byte "a" + (n - 10)

-- the low hexadecimal digits of a number, so many of them, the highest first
abbrev pub hex : ℕ → ℕ → List ℕ
hex zero v = []
hex (suc k) v = hex k (v / 16) ++ digit (v % 16) ∷ []

-- an immediate: 0x and the digits of its size
abbrev pub number : Size → ℕ → List ℕ
number B1 v = codes "0x" ++ hex 2 v
number B2 v = codes "0x" ++ hex 4 v
number B4 v = codes "0x" ++ hex 8 v

-- ---- memory

abbrev pub plus_if : Bool → List ℕ
plus_if b = if b then codes "+" else []

abbrev pub base_text : Bool → Option ℕ → List ℕ
base_text wide None = []
base_text wide (Some r) = register_name (address_size wide) r

abbrev pub scale_text : ℕ → List ℕ
scale_text scale = if scale == 1 then [] else codes "*" ++ hex 1 scale

-- the index, behind a plus where it is not the first
abbrev pub index_text : Bool → Bool → Option ℕ → ℕ → List ℕ
index_text wide first None scale = []
index_text wide first (Some r) scale = plus_if (not first) ++ register_name (address_size wide) r ++ scale_text scale

-- the displacement likewise; it is left out where it is 0, and does not stand alone
abbrev pub disp_text : Bool → Bool → ℕ → List ℕ
disp_text wide first disp = if (disp == 0) && not first then [] else plus_if (not first) ++ number (address_size wide) disp

-- the segment, then base, index and displacement joined by plus signs
abbrev pub mem_text : Mem → List ℕ
mem_text m =
    codes "[" ++ segment_name m.seg ++ codes ":" ++ base_text m.wide m.base
    ++ index_text m.wide (is_none m.base) m.index m.scale
    ++ disp_text m.wide (is_none m.base && is_none m.index) m.disp ++ codes "]"

abbrev pub size_word : Size → List ℕ
size_word B1 = codes "byte "
size_word B2 = codes "word "
size_word B4 = codes "dword "

-- the instructions whose memory operand has no size, or another than an operand's
-- Own: Memory without a size word.
abbrev pub no_size : Op → Bool
no_size ops.Lea = true
no_size ops.Bound = true
no_size ops.Les = true
no_size ops.Lds = true
no_size ops.Lss = true
no_size ops.Lfs = true
no_size ops.Lgs = true
no_size ops.Callf = true
no_size ops.Jmpf = true
no_size ops.Sgdt = true
no_size ops.Sidt = true
no_size ops.Lgdt = true
no_size ops.Lidt = true
no_size ops.Esc = true
no_size _ = false

-- ---- operands

-- at is the address behind the instruction; the target of a branch has the operand size
abbrev pub operand_text : Insn → ℕ → Operand → List ℕ
operand_text i at Nothing = []
operand_text i at (Gpr r size) = register_name size r
operand_text i at (Sreg seg) = segment_name seg
operand_text i at (Creg n) = codes "cr" ++ hex 1 n
operand_text i at (Dreg n) = codes "dr" ++ hex 1 n
operand_text i at (At m size) = (if no_size i.op then [] else size_word size) ++ mem_text m
operand_text i at (Imm v size) = number size v
operand_text i at (Rel by) = number i.size ((at + by) % bound_of i.size)
operand_text i at (Far selector offset) = number B2 selector ++ codes ":" ++ number i.size offset

abbrev pub is_nothing : Operand → Bool
is_nothing Nothing = true
is_nothing _ = false

-- an operand, where there is one, with what joins it to the text before
abbrev pub joined : List ℕ → Insn → ℕ → Operand → List ℕ
joined before i at o = if is_nothing o then [] else before ++ operand_text i at o

-- ---- what stands in front

-- the string instructions that a comparison may end
abbrev pub compares : Op → Bool
compares ops.Cmps = true
compares ops.Scas = true
compares _ = false

-- before CMPS and SCAS the prefix says what it waits for
abbrev pub repeat_text : Op → Rep → List ℕ
repeat_text op Plain = []
repeat_text op Equal = if compares op then codes "repe " else codes "rep "
repeat_text op NotEqual = if compares op then codes "repne " else codes "rep "

-- the instructions whose memory is not written as an operand
abbrev pub hides_memory : Op → Bool
hides_memory ops.Xlat = true
hides_memory op = is_string op

-- an overriding segment that no operand shows
abbrev pub override_text : Op → Option Seg → List ℕ
override_text op None = []
override_text op (Some seg) = if hides_memory op then segment_name seg ++ codes " " else []

-- ---- the text

abbrev pub prefix_text : Insn → List ℕ
prefix_text i = (if i.lock then codes "lock " else []) ++ repeat_text i.op i.rep ++ override_text i.op i.over

abbrev pub mnemonic : Insn → List ℕ
mnemonic i = if is_nop i.op i.a then codes "nop" else stem i.op i.size i.wide ++ ending i.op i.size

-- prefixes, the mnemonic, a space and the operands joined by commas; at is the address behind the instruction
abbrev pub print_text : Insn → ℕ → List ℕ
print_text i at = prefix_text i ++ mnemonic i ++ joined (codes " ") i at i.a ++ joined (codes ",") i at i.b ++ joined (codes ",") i at i.c
