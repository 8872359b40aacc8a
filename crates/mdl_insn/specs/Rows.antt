-- The opcode rows, in the order of the opcode map. Manual, appendix A.
use Rattle.std.specs.Prelude.{ℕ, ◌+◌, ◌*◌, List, [], ◌∷◌, map}
use Rattle.std.specs.List.{range_with_len}
use Rattle.mdl_insn.specs.declared.mnemonics.Op.TheVariants as ops
use Rattle.mdl_insn.specs.declared.rows.Form.{Form}
use Rattle.mdl_insn.specs.declared.rows.Form.TheVariants.{No, Eb, Ev, Ew, Gb, Gv, Gw, M, S, Sd, Ib, Iv, Iw, Is, Jb, Jv, Ob, Ov, P, Rb, Rv, Al, Ax, Cl, Dx, Once, Cd, Dd, Rd, Es, Cs, Ss, Ds, Fs, Gs, Escape}
use Rattle.mdl_insn.specs.declared.rows.Width.{Width}
use Rattle.mdl_insn.specs.declared.rows.Width.TheVariants.{Byte, Full, Four}
use Rattle.mdl_insn.specs.declared.rows.Entry.{Entry}
use Rattle.mdl_insn.specs.declared.rows.Entry.TheVariants.{Undefined, Group}
use Rattle.mdl_insn.specs.Entries.{Line, line, entry_at, row, sole, strings, eight, conditions, arithmetic}

-- ---- the groups, by their number

abbrev pub immediate_eb_ib : ℕ
immediate_eb_ib = 0

abbrev pub immediate_ev_iv : ℕ
immediate_ev_iv = 1

abbrev pub immediate_ev_is : ℕ
immediate_ev_is = 2

abbrev pub pop_ev : ℕ
pop_ev = 3

abbrev pub shift_eb_ib : ℕ
shift_eb_ib = 4

abbrev pub shift_ev_ib : ℕ
shift_ev_ib = 5

abbrev pub mov_eb_ib : ℕ
mov_eb_ib = 6

abbrev pub mov_ev_iv : ℕ
mov_ev_iv = 7

abbrev pub shift_eb_1 : ℕ
shift_eb_1 = 8

abbrev pub shift_ev_1 : ℕ
shift_ev_1 = 9

abbrev pub shift_eb_cl : ℕ
shift_eb_cl = 10

abbrev pub shift_ev_cl : ℕ
shift_ev_cl = 11

abbrev pub unary_eb : ℕ
unary_eb = 12

abbrev pub unary_ev : ℕ
unary_ev = 13

abbrev pub inc_dec_eb : ℕ
inc_dec_eb = 14

abbrev pub indirect_ev : ℕ
indirect_ev = 15

abbrev pub group_6 : ℕ
group_6 = 16

abbrev pub group_7 : ℕ
group_7 = 17

abbrev pub group_8 : ℕ
group_8 = 18

-- ---- the rows

-- the opcodes of one byte
abbrev pub one_byte : List Line
one_byte =
    line 0x00 (arithmetic ops.Add) ∷
    line 0x06 (row ops.Push Full Es No No ∷ row ops.Pop Full Es No No ∷ []) ∷
    line 0x08 (arithmetic ops.Or) ∷
    line 0x0E (row ops.Push Full Cs No No ∷ []) ∷
    line 0x10 (arithmetic ops.Adc) ∷
    line 0x16 (row ops.Push Full Ss No No ∷ row ops.Pop Full Ss No No ∷ []) ∷
    line 0x18 (arithmetic ops.Sbb) ∷
    line 0x1E (row ops.Push Full Ds No No ∷ row ops.Pop Full Ds No No ∷ []) ∷
    line 0x20 (arithmetic ops.And) ∷
    line 0x27 (sole ops.Daa ∷ []) ∷
    line 0x28 (arithmetic ops.Sub) ∷
    line 0x2F (sole ops.Das ∷ []) ∷
    line 0x30 (arithmetic ops.Xor) ∷
    line 0x37 (sole ops.Aaa ∷ []) ∷
    line 0x38 (arithmetic ops.Cmp) ∷
    line 0x3F (sole ops.Aas ∷ []) ∷
    line 0x40 (eight (row ops.Inc Full Rv No No)) ∷
    line 0x48 (eight (row ops.Dec Full Rv No No)) ∷
    line 0x50 (eight (row ops.Push Full Rv No No)) ∷
    line 0x58 (eight (row ops.Pop Full Rv No No)) ∷
    line 0x60 (sole ops.Pusha ∷ sole ops.Popa ∷ row ops.Bound Full Gv M No ∷ row ops.Arpl Full Ew Gw No ∷ []) ∷
    line 0x68 (row ops.Push Full Iv No No ∷ row ops.Imul Full Gv Ev Iv ∷ row ops.Push Full Is No No ∷ row ops.Imul Full Gv Ev Is ∷ []) ∷
    line 0x6C (strings ops.Ins) ∷
    line 0x6E (strings ops.Outs) ∷
    line 0x70 (conditions (λ c. row (ops.Jcc c) Full Jb No No)) ∷
    line 0x80 (Group immediate_eb_ib ∷ Group immediate_ev_iv ∷ Group immediate_eb_ib ∷ Group immediate_ev_is ∷ []) ∷
    line 0x84 (row ops.Test Byte Eb Gb No ∷ row ops.Test Full Ev Gv No ∷ []) ∷
    line 0x86 (row ops.Xchg Byte Eb Gb No ∷ row ops.Xchg Full Ev Gv No ∷ []) ∷
    line 0x88 (row ops.Mov Byte Eb Gb No ∷ row ops.Mov Full Ev Gv No ∷ row ops.Mov Byte Gb Eb No ∷ row ops.Mov Full Gv Ev No ∷ []) ∷
    line 0x8C (row ops.Mov Full Ew S No ∷ row ops.Lea Full Gv M No ∷ row ops.Mov Full Sd Ew No ∷ Group pop_ev ∷ []) ∷
    line 0x90 (sole ops.Xchg ∷ []) ∷
    line 0x91 (map (λ _. row ops.Xchg Full Ax Rv No) (range_with_len 0 7)) ∷
    line 0x98 (sole ops.Cbw ∷ sole ops.Cwd ∷ row ops.Callf Full P No No ∷ sole ops.Wait ∷ []) ∷
    line 0x9C (sole ops.Pushf ∷ sole ops.Popf ∷ sole ops.Sahf ∷ sole ops.Lahf ∷ []) ∷
    line 0xA0 (row ops.Mov Byte Al Ob No ∷ row ops.Mov Full Ax Ov No ∷ row ops.Mov Byte Ob Al No ∷ row ops.Mov Full Ov Ax No ∷ []) ∷
    line 0xA4 (strings ops.Movs) ∷
    line 0xA6 (strings ops.Cmps) ∷
    line 0xA8 (row ops.Test Byte Al Ib No ∷ row ops.Test Full Ax Iv No ∷ []) ∷
    line 0xAA (strings ops.Stos) ∷
    line 0xAC (strings ops.Lods) ∷
    line 0xAE (strings ops.Scas) ∷
    line 0xB0 (eight (row ops.Mov Byte Rb Ib No)) ∷
    line 0xB8 (eight (row ops.Mov Full Rv Iv No)) ∷
    line 0xC0 (Group shift_eb_ib ∷ Group shift_ev_ib ∷ row ops.Ret Full Iw No No ∷ sole ops.Ret ∷ []) ∷
    line 0xC4 (row ops.Les Full Gv M No ∷ row ops.Lds Full Gv M No ∷ Group mov_eb_ib ∷ Group mov_ev_iv ∷ []) ∷
    line 0xC8 (row ops.Enter Full Iw Ib No ∷ sole ops.Leave ∷ row ops.Retf Full Iw No No ∷ sole ops.Retf ∷ []) ∷
    line 0xCC (sole ops.Int3 ∷ row ops.Int Full Ib No No ∷ sole ops.Into ∷ sole ops.Iret ∷ []) ∷
    line 0xD0 (Group shift_eb_1 ∷ Group shift_ev_1 ∷ Group shift_eb_cl ∷ Group shift_ev_cl ∷ []) ∷
    line 0xD4 (row ops.Aam Full Ib No No ∷ row ops.Aad Full Ib No No ∷ []) ∷
    line 0xD7 (sole ops.Xlat ∷ []) ∷
    line 0xD8 (eight (row ops.Esc Full Escape Ev No)) ∷
    line 0xE0 (row ops.Loopne Full Jb No No ∷ row ops.Loope Full Jb No No ∷ row ops.Loop Full Jb No No ∷ row ops.Jcxz Full Jb No No ∷ []) ∷
    line 0xE4 (row ops.InPort Byte Al Ib No ∷ row ops.InPort Full Ax Ib No ∷ row ops.OutPort Byte Ib Al No ∷ row ops.OutPort Full Ib Ax No ∷ []) ∷
    line 0xE8 (row ops.Call Full Jv No No ∷ row ops.Jmp Full Jv No No ∷ row ops.Jmpf Full P No No ∷ row ops.Jmp Full Jb No No ∷ []) ∷
    line 0xEC (row ops.InPort Byte Al Dx No ∷ row ops.InPort Full Ax Dx No ∷ row ops.OutPort Byte Dx Al No ∷ row ops.OutPort Full Dx Ax No ∷ []) ∷
    line 0xF4 (sole ops.Hlt ∷ sole ops.Cmc ∷ Group unary_eb ∷ Group unary_ev ∷ []) ∷
    line 0xF8 (sole ops.Clc ∷ sole ops.Stc ∷ sole ops.Cli ∷ sole ops.Sti ∷ []) ∷
    line 0xFC (sole ops.Cld ∷ sole ops.Std ∷ Group inc_dec_eb ∷ Group indirect_ev ∷ []) ∷
    []

-- the opcodes behind 0F
abbrev pub two_bytes : List Line
two_bytes =
    line 0x00 (Group group_6 ∷ Group group_7 ∷ row ops.Lar Full Gv Ew No ∷ row ops.Lsl Full Gv Ew No ∷ []) ∷
    line 0x06 (sole ops.Clts ∷ []) ∷
    line 0x20 (row ops.Mov Four Rd Cd No ∷ row ops.Mov Four Rd Dd No ∷ row ops.Mov Four Cd Rd No ∷ row ops.Mov Four Dd Rd No ∷ []) ∷
    line 0x80 (conditions (λ c. row (ops.Jcc c) Full Jv No No)) ∷
    line 0x90 (conditions (λ c. row (ops.Setcc c) Byte Eb No No)) ∷
    line 0xA0 (row ops.Push Full Fs No No ∷ row ops.Pop Full Fs No No ∷ []) ∷
    line 0xA3 (row ops.Bt Full Ev Gv No ∷ row ops.Shld Full Ev Gv Ib ∷ row ops.Shld Full Ev Gv Cl ∷ []) ∷
    line 0xA8 (row ops.Push Full Gs No No ∷ row ops.Pop Full Gs No No ∷ []) ∷
    line 0xAB (row ops.Bts Full Ev Gv No ∷ row ops.Shrd Full Ev Gv Ib ∷ row ops.Shrd Full Ev Gv Cl ∷ []) ∷
    line 0xAF (row ops.Imul Full Gv Ev No ∷ []) ∷
    line 0xB2 (row ops.Lss Full Gv M No ∷ row ops.Btr Full Ev Gv No ∷ row ops.Lfs Full Gv M No ∷ row ops.Lgs Full Gv M No ∷ []) ∷
    line 0xB6 (row ops.Movzx Full Gv Eb No ∷ row ops.Movzx Full Gv Ew No ∷ []) ∷
    line 0xBA (Group group_8 ∷ row ops.Btc Full Ev Gv No ∷ row ops.Bsf Full Gv Ev No ∷ row ops.Bsr Full Gv Ev No ∷ []) ∷
    line 0xBE (row ops.Movsx Full Gv Eb No ∷ row ops.Movsx Full Gv Ew No ∷ []) ∷
    []

-- the members of a group, by the reg field, stand at 8 times its number
abbrev pub group : ℕ → List Entry → Line
group number members = line (8 * number) members

-- group 1
abbrev pub immediates : Width → Form → Form → List Entry
immediates width e i =
    row ops.Add width e i No ∷ row ops.Or width e i No ∷ row ops.Adc width e i No ∷ row ops.Sbb width e i No ∷
    row ops.And width e i No ∷ row ops.Sub width e i No ∷ row ops.Xor width e i No ∷ row ops.Cmp width e i No ∷ []

-- group 2
abbrev pub shifts : Width → Form → Form → List Entry
shifts width e count =
    row ops.Rol width e count No ∷ row ops.Ror width e count No ∷ row ops.Rcl width e count No ∷ row ops.Rcr width e count No ∷
    row ops.Shl width e count No ∷ row ops.Shr width e count No ∷ Undefined ∷ row ops.Sar width e count No ∷ []

-- group 3
abbrev pub unaries : Width → Form → Form → List Entry
unaries width e i =
    row ops.Test width e i No ∷ Undefined ∷ row ops.Not width e No No ∷ row ops.Neg width e No No ∷
    row ops.Mul width e No No ∷ row ops.Imul width e No No ∷ row ops.Div width e No No ∷ row ops.Idiv width e No No ∷ []

-- all groups, by number
abbrev pub groups : List Line
groups =
    group immediate_eb_ib (immediates Byte Eb Ib) ∷
    group immediate_ev_iv (immediates Full Ev Iv) ∷
    group immediate_ev_is (immediates Full Ev Is) ∷
    group pop_ev (row ops.Pop Full Ev No No ∷ []) ∷
    group shift_eb_ib (shifts Byte Eb Ib) ∷
    group shift_ev_ib (shifts Full Ev Ib) ∷
    group mov_eb_ib (row ops.Mov Byte Eb Ib No ∷ []) ∷
    group mov_ev_iv (row ops.Mov Full Ev Iv No ∷ []) ∷
    group shift_eb_1 (shifts Byte Eb Once) ∷
    group shift_ev_1 (shifts Full Ev Once) ∷
    group shift_eb_cl (shifts Byte Eb Cl) ∷
    group shift_ev_cl (shifts Full Ev Cl) ∷
    group unary_eb (unaries Byte Eb Ib) ∷
    group unary_ev (unaries Full Ev Iv) ∷
    group inc_dec_eb (row ops.Inc Byte Eb No No ∷ row ops.Dec Byte Eb No No ∷ []) ∷
    group indirect_ev (row ops.Inc Full Ev No No ∷ row ops.Dec Full Ev No No ∷ row ops.Call Full Ev No No ∷
    row ops.Callf Full M No No ∷ row ops.Jmp Full Ev No No ∷ row ops.Jmpf Full M No No ∷ row ops.Push Full Ev No No ∷ []) ∷
    group group_6 (row ops.Sldt Full Ew No No ∷ row ops.Str Full Ew No No ∷ row ops.Lldt Full Ew No No ∷
    row ops.Ltr Full Ew No No ∷ row ops.Verr Full Ew No No ∷ row ops.Verw Full Ew No No ∷ []) ∷
    group group_7 (row ops.Sgdt Full M No No ∷ row ops.Sidt Full M No No ∷ row ops.Lgdt Full M No No ∷
    row ops.Lidt Full M No No ∷ row ops.Smsw Full Ew No No ∷ Undefined ∷ row ops.Lmsw Full Ew No No ∷ []) ∷
    group group_8 (Undefined ∷ Undefined ∷ Undefined ∷ Undefined ∷
    row ops.Bt Full Ev Ib No ∷ row ops.Bts Full Ev Ib No ∷ row ops.Btr Full Ev Ib No ∷ row ops.Btc Full Ev Ib No ∷ []) ∷
    []

-- what stands at a one-byte opcode
unfoldable pub one_entry : ℕ → Entry
one_entry b = entry_at one_byte b

-- what stands at the byte behind 0F
unfoldable pub two_entry : ℕ → Entry
two_entry b = entry_at two_bytes b

-- the member of a group that a reg field chooses
unfoldable pub member_entry : ℕ → ℕ → Entry
member_entry g reg = entry_at groups (8 * g + reg)
