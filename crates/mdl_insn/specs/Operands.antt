-- What the operands of a row are, and which ModRM bytes they allow. Manual, chapter 17.
use Rattle.std.specs.Prelude.{ℕ, ◌+◌, ◌*◌, ◌/◌, ◌%◌, ◌==◌, Bool, true, false, not, ◌&&◌, ◌||◌, nat_lt, if◌then◌else◌, unwrap_or, None}
use Rattle.std.specs.List.{list_any, range_with_len}
use Rattle.mdl_state.specs.declared.Size.{Size}
use Rattle.mdl_state.specs.declared.Size.TheVariants.{B1, B2, B4}
use Rattle.mdl_state.specs.declared.Seg.{Seg}
use Rattle.mdl_state.specs.declared.Seg.TheVariants as segs
use Rattle.mdl_insn.specs.declared.instruction.Mem.{Mem}
use Rattle.mdl_insn.specs.declared.instruction.Operand.{Operand}
use Rattle.mdl_insn.specs.declared.instruction.Operand.TheVariants.{Nothing, Gpr, Sreg, Creg, Dreg, At, Imm, Rel, Far}
use Rattle.mdl_insn.specs.declared.mnemonics.Op.{Op}
use Rattle.mdl_insn.specs.declared.mnemonics.Op.TheVariants as ops
use Rattle.mdl_insn.specs.declared.rows.Setting.{Setting}
use Rattle.mdl_insn.specs.declared.rows.Form.{Form}
use Rattle.mdl_insn.specs.declared.rows.Form.TheVariants.{No, Eb, Ev, Ew, Gb, Gv, Gw, M, S, Sd, Ib, Iv, Iw, Is, Jb, Jv, Ob, Ov, P, Rb, Rv, Al, Ax, Cl, Dx, Once, Cd, Dd, Rd, Es, Cs, Ss, Ds, Fs, Gs, Escape}
use Rattle.mdl_insn.specs.declared.rows.Row.{Row}
use Rattle.mdl_insn.specs.declared.rows.Entry.{Entry}
use Rattle.mdl_insn.specs.declared.rows.Entry.TheVariants.{One}
use Rattle.mdl_insn.specs.Rows.{member_entry}
use Rattle.mdl_state.specs.Bytes.{bytes_of, bound_of}
use Rattle.mdl_insn.specs.Addresses.{extend, address_size, mod_of, reg_of, rm_of, may_address, mem_of}

-- ---- operands

-- how many bytes of its own an operand has behind the displacement
abbrev pub own_len : Setting → Form → ℕ
own_len s Ib = 1
own_len s Iv = bytes_of s.size
own_len s Iw = 2
own_len s Is = 1
own_len s Jb = 1
own_len s Jv = bytes_of s.size
own_len s Ob = bytes_of (address_size s.wide)
own_len s Ov = bytes_of (address_size s.wide)
own_len s P = 2 + bytes_of s.size
own_len s _ = 0

-- what the bytes in front tell an operand: the opcode's last, the ModRM byte, and the memory operand
pub record Place : Type 0 where
  pub opcode : ℕ
  pub modrm : ℕ
  pub mem : Mem

-- a place by its bytes' numbers
abbrev pub place : Setting → ℕ → ℕ → ℕ → ℕ → Place
place s opcode m sib d = record { opcode = opcode; modrm = m; mem = mem_of s m sib d }

-- the segment registers by number
abbrev pub seg_at : ℕ → Seg
seg_at n =
    if n == 0 then segs.Es
    else (if n == 1 then segs.Cs
    else (if n == 2 then segs.Ss
    else (if n == 3 then segs.Ds
    else (if n == 4 then segs.Fs else segs.Gs))))

-- a register where mod is 3, else memory
abbrev pub e_operand : Place → Size → Operand
e_operand p size = if mod_of p.modrm == 3 then Gpr (rm_of p.modrm) size else At p.mem size

-- memory at an offset alone
abbrev pub offset_mem : Setting → ℕ → Mem
offset_mem s x = record { seg = unwrap_or s.over segs.Ds; base = None; index = None; scale = 1; disp = x; wide = s.wide }

-- the operand of a form; x is the number in the bytes of its own
-- Own: One value for one meaning. Memory with no size of its own has the operand size.
abbrev pub operand : Setting → Place → Form → ℕ → Operand
operand s p No x = Nothing
operand s p Eb x = e_operand p B1
operand s p Ev x = e_operand p s.size
operand s p Ew x = e_operand p B2
operand s p Gb x = Gpr (reg_of p.modrm) B1
operand s p Gv x = Gpr (reg_of p.modrm) s.size
operand s p Gw x = Gpr (reg_of p.modrm) B2
operand s p M x = At p.mem s.size
operand s p S x = Sreg (seg_at (reg_of p.modrm))
operand s p Sd x = Sreg (seg_at (reg_of p.modrm))
operand s p Ib x = Imm x B1
operand s p Iv x = Imm x s.size
operand s p Iw x = Imm x B2
operand s p Is x = Imm (extend 0x80 (bound_of s.size) x) s.size
operand s p Jb x = Rel (extend 0x80 0x100000000 x)
operand s p Jv x = Rel (extend (bound_of s.size / 2) 0x100000000 x)
operand s p Ob x = At (offset_mem s x) B1
operand s p Ov x = At (offset_mem s x) s.size
operand s p P x = Far (x / bound_of s.size) (x % bound_of s.size)
operand s p Rb x = Gpr (p.opcode % 8) B1
operand s p Rv x = Gpr (p.opcode % 8) s.size
operand s p Al x = Gpr 0 B1
operand s p Ax x = Gpr 0 s.size
operand s p Cl x = Gpr 1 B1
operand s p Dx x = Gpr 2 B2
operand s p Once x = Imm 1 B1
operand s p Cd x = Creg (reg_of p.modrm)
operand s p Dd x = Dreg (reg_of p.modrm)
operand s p Rd x = Gpr (rm_of p.modrm) B4
operand s p Es x = Sreg segs.Es
operand s p Cs x = Sreg segs.Cs
operand s p Ss x = Sreg segs.Ss
operand s p Ds x = Sreg segs.Ds
operand s p Fs x = Sreg segs.Fs
operand s p Gs x = Sreg segs.Gs
operand s p Escape x = Imm (8 * (p.opcode % 8) + reg_of p.modrm) B1

-- ---- what is legal

-- which ModRM bytes an operand allows: M is no register, CS is no destination, segment registers 6 and 7 and
-- control registers but 0, 2 and 3 are none
-- Own: Debug registers 4 and 5 are undefined.
abbrev pub form_allows : Form → ℕ → Bool
form_allows M m = nat_lt (mod_of m) 3
form_allows S m = nat_lt (reg_of m) 6
form_allows Sd m = nat_lt (reg_of m) 6 && not (reg_of m == 1)
form_allows Cd m = (reg_of m == 0) || (reg_of m == 2) || (reg_of m == 3)
form_allows Dd m = not (reg_of m == 4) && not (reg_of m == 5)
form_allows _ m = true

-- the instructions that LOCK may stand before
abbrev pub locks : Op → Bool
locks ops.Add = true
locks ops.Or = true
locks ops.Adc = true
locks ops.Sbb = true
locks ops.And = true
locks ops.Sub = true
locks ops.Xor = true
locks ops.Not = true
locks ops.Neg = true
locks ops.Inc = true
locks ops.Dec = true
locks ops.Xchg = true
locks ops.Bt = true
locks ops.Bts = true
locks ops.Btr = true
locks ops.Btc = true
locks _ = false

-- and then only where the first operand, which is the destination, is memory
abbrev pub lockable : Row → Bool
lockable r = locks r.op && may_address r.a

-- what the row allows, with LOCK and without
abbrev pub allows : Setting → Row → ℕ → Bool
allows s r m =
    form_allows r.a m && form_allows r.b m && (not s.lock || (lockable r && nat_lt (mod_of m) 3))

-- LOCK may stand before the row of an entry
abbrev pub entry_lockable : Entry → Bool
entry_lockable (One r) = lockable r
entry_lockable _ = false

-- a group has a member that LOCK may stand before
unfoldable pub group_locks : ℕ → Bool
group_locks g = list_any (λ reg. entry_lockable (member_entry g reg)) (range_with_len 0 8)

-- the string instructions, which a repeat prefix repeats
abbrev pub is_string : Op → Bool
is_string ops.Ins = true
is_string ops.Outs = true
is_string ops.Movs = true
is_string ops.Cmps = true
is_string ops.Stos = true
is_string ops.Lods = true
is_string ops.Scas = true
is_string _ = false
