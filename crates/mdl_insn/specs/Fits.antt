-- What holds for each entry of the table, by a test over all of them.
use Rattle.std.specs.Prelude.{Bool, true, false, not, ◌&&◌, ◌||◌, nat_lt, IsTrue}
use Rattle.mdl_insn.specs.declared.rows.Form.{Form}
use Rattle.mdl_insn.specs.declared.rows.Form.TheVariants.{Ib, Iv, Iw, Is, Jb, Jv, Ob, Ov, P}
use Rattle.mdl_insn.specs.declared.rows.Kind.{Kind}
use Rattle.mdl_insn.specs.declared.rows.Kind.TheVariants.{Bare, First, Second, Address, Odd}
use Rattle.mdl_insn.specs.declared.rows.Row.{Row}
use Rattle.mdl_insn.specs.declared.rows.Entry.{Entry}
use Rattle.mdl_insn.specs.declared.rows.Entry.TheVariants.{Undefined, One, Group}
use Rattle.mdl_insn.specs.Entries.{is_e, is_m, is_tested}
use Rattle.mdl_insn.specs.Addresses.{has_modrm, may_address}

-- an operand with bytes of its own
abbrev pub has_own : Form → Bool
has_own Ib = true
has_own Iv = true
has_own Iw = true
has_own Is = true
has_own Jb = true
has_own Jv = true
has_own Ob = true
has_own Ov = true
has_own P = true
has_own _ = false

abbrev pub kind_fits : Kind → Row → Bool
kind_fits Bare r = not (has_modrm r)
kind_fits First r = is_e r.a && not (is_tested r.b)
kind_fits Second r = is_e r.b && not (is_tested r.a)
kind_fits Address r = is_m r.b && not (is_tested r.a)
kind_fits Odd r = has_modrm r

-- one operand at most is memory by the ModRM byte, and none with own bytes stands before it
abbrev pub one_memory : Row → Bool
one_memory r = (not (may_address r.b) || (not (may_address r.a) && not (has_own r.a))) && not (may_address r.c)

abbrev pub row_fits : Row → Bool
row_fits r = kind_fits r.kind r && one_memory r

-- a row fits its kind, and a group is one of the table's
abbrev pub is_entry : Entry → Bool
is_entry (Group g) = nat_lt g 19
is_entry (One r) = row_fits r
is_entry Undefined = true

abbrev pub IsEntry : Entry → Type 0
IsEntry e = IsTrue (is_entry e)
