-- The operands that rows have together, and the row that a shape and a mnemonic name.
use Rattle.std.specs.Prelude.{ℕ, ◌==◌, ◌&&◌, Bool, true, false, if◌then◌else◌}
use Rattle.mdl_insn.specs.declared.mnemonics.Op.{Op}
use Rattle.mdl_insn.specs.declared.rows.Width.{Width}
use Rattle.mdl_insn.specs.declared.rows.Width.TheVariants as width
use Rattle.mdl_insn.specs.declared.rows.Kind.{Kind}
use Rattle.mdl_insn.specs.declared.rows.Kind.TheVariants as kind
use Rattle.mdl_insn.specs.declared.rows.Form.{Form}
use Rattle.mdl_insn.specs.declared.rows.Form.TheVariants as form
use Rattle.mdl_insn.specs.declared.rows.Row.{Row}
use Rattle.mdl_insn.specs.declared.rows.Entry.{Entry}
use Rattle.mdl_insn.specs.declared.rows.Entry.TheVariants.{One, Group}
use Rattle.mdl_insn.specs.Rows.{one_entry}
use Rattle.mdl_insn.specs.Prefixes.{is_prefix}
use Rattle.insn_decode.specs.declared.shapes.Shape.{Shape}
use Rattle.insn_decode.specs.declared.shapes.Shape.TheVariants as shape

abbrev pub row_with : Op → Width → Kind → Form → Form → Row
row_with op w k a b = record { op = op; width = w; kind = k; a = a; b = b; c = form.No }

-- the row of a mnemonic with these operands, where the shape is of one
abbrev pub shape_row : Shape → Op → Row
shape_row shape.EbGb op = row_with op width.Byte kind.First form.Eb form.Gb
shape_row shape.EvGv op = row_with op width.Full kind.First form.Ev form.Gv
shape_row shape.GbEb op = row_with op width.Byte kind.Second form.Gb form.Eb
shape_row shape.GvEv op = row_with op width.Full kind.Second form.Gv form.Ev
shape_row shape.AlIb op = row_with op width.Byte kind.Bare form.Al form.Ib
shape_row shape.AxIv op = row_with op width.Full kind.Bare form.Ax form.Iv
shape_row shape.RbIb op = row_with op width.Byte kind.Bare form.Rb form.Ib
shape_row shape.RvIv op = row_with op width.Full kind.Bare form.Rv form.Iv
shape_row shape.Rv op = row_with op width.Full kind.Bare form.Rv form.No
shape_row shape.Jb op = row_with op width.Full kind.Bare form.Jb form.No
shape_row shape.Jv op = row_with op width.Full kind.Bare form.Jv form.No
shape_row shape.Bare op = row_with op width.Full kind.Bare form.No form.No
shape_row shape.BareByte op = row_with op width.Byte kind.Bare form.No form.No
shape_row shape.GvEb op = row_with op width.Full kind.Second form.Gv form.Eb
shape_row shape.GvEw op = row_with op width.Full kind.Second form.Gv form.Ew
shape_row shape.GvM op = row_with op width.Full kind.Address form.Gv form.M
shape_row shape.Eb op = row_with op width.Byte kind.First form.Eb form.No
shape_row shape.Ev op = row_with op width.Full kind.First form.Ev form.No
shape_row shape.EbIb op = row_with op width.Byte kind.First form.Eb form.Ib
shape_row shape.EvIb op = row_with op width.Full kind.First form.Ev form.Ib
shape_row shape.EvIs op = row_with op width.Full kind.First form.Ev form.Is
shape_row shape.EvIv op = row_with op width.Full kind.First form.Ev form.Iv
shape_row shape.EbOnce op = row_with op width.Byte kind.First form.Eb form.Once
shape_row shape.EvOnce op = row_with op width.Full kind.First form.Ev form.Once
shape_row shape.EbCl op = row_with op width.Byte kind.First form.Eb form.Cl
shape_row shape.EvCl op = row_with op width.Full kind.First form.Ev form.Cl
shape_row shape.AxOv op = row_with op width.Full kind.Bare form.Ax form.Ov
shape_row shape.OvAx op = row_with op width.Full kind.Bare form.Ov form.Ax
shape_row shape.AlOb op = row_with op width.Byte kind.Bare form.Al form.Ob
shape_row shape.ObAl op = row_with op width.Byte kind.Bare form.Ob form.Al
shape_row shape.IsNo op = row_with op width.Full kind.Bare form.Is form.No
shape_row shape.IvNo op = row_with op width.Full kind.Bare form.Iv form.No
shape_row _ op = row_with op width.Byte kind.Bare form.No form.No

-- the parts of a row by number
abbrev pub width_number : Width → ℕ
width_number width.Byte = 0
width_number width.Full = 1
width_number width.Four = 2

abbrev pub kind_number : Kind → ℕ
kind_number kind.Bare = 0
kind_number kind.First = 1
kind_number kind.Second = 2
kind_number kind.Address = 3
kind_number kind.Odd = 4

abbrev pub form_number : Form → ℕ
form_number form.No = 0
form_number form.Eb = 1
form_number form.Ev = 2
form_number form.Ew = 3
form_number form.Gb = 4
form_number form.Gv = 5
form_number form.Gw = 6
form_number form.M = 7
form_number form.S = 8
form_number form.Sd = 9
form_number form.Ib = 10
form_number form.Iv = 11
form_number form.Iw = 12
form_number form.Is = 13
form_number form.Jb = 14
form_number form.Jv = 15
form_number form.Ob = 16
form_number form.Ov = 17
form_number form.P = 18
form_number form.Rb = 19
form_number form.Rv = 20
form_number form.Al = 21
form_number form.Ax = 22
form_number form.Cl = 23
form_number form.Dx = 24
form_number form.Once = 25
form_number form.Cd = 26
form_number form.Dd = 27
form_number form.Rd = 28
form_number form.Es = 29
form_number form.Cs = 30
form_number form.Ss = 31
form_number form.Ds = 32
form_number form.Fs = 33
form_number form.Gs = 34
form_number form.Escape = 35

-- a register by the reg field of the ModRM byte
abbrev pub is_register : Form → Bool
is_register form.Gb = true
is_register form.Gv = true
is_register _ = false

-- a register by the opcode
abbrev pub is_named : Form → Bool
is_named form.Al = true
is_named form.Ax = true
is_named form.Rb = true
is_named form.Rv = true
is_named _ = false

-- nothing, or the count of a shift
abbrev pub is_count : Form → Bool
is_count form.No = true
is_count form.Once = true
is_count form.Cl = true
is_count _ = false

-- a number behind the opcode or the address
abbrev pub is_number : Form → Bool
is_number form.Ib = true
is_number form.Is = true
is_number form.Iv = true
is_number _ = false

-- the distance of a branch
abbrev pub is_distance : Form → Bool
is_distance form.Jb = true
is_distance form.Jv = true
is_distance _ = false

-- two rows are the same but for their mnemonics
abbrev pub is_like : Row → Row → Bool
is_like r q = (width_number r.width == width_number q.width) && ((kind_number r.kind == kind_number q.kind)
    && ((form_number r.a == form_number q.a) && ((form_number r.b == form_number q.b) && (form_number r.c == form_number q.c))))

-- a row of these operands
abbrev pub is_row : Shape → Bool
is_row shape.Odd = false
is_row shape.Prefix = false
is_row shape.TwoBytes = false
is_row shape.Group = false
is_row _ = true

abbrev pub is_group : Entry → Bool
is_group (Group g) = true
is_group _ = false

abbrev pub is_row_like : Entry → Shape → Bool
is_row_like (One r) s = is_like r (shape_row s r.op)
is_row_like _ s = false

-- what else stands at an entry
abbrev pub other_fits : Entry → Shape → Bool
other_fits f shape.Odd = true
other_fits f shape.Group = is_group f
other_fits f _ = false

-- the entry is what the shape says
abbrev pub shape_fits : Entry → Shape → Bool
shape_fits f s = if is_row s then is_row_like f s else other_fits f s

-- what else stands at a first byte
abbrev pub first_fits : ℕ → Entry → Shape → Bool
first_fits b f shape.Prefix = is_prefix b
first_fits b f shape.TwoBytes = b == 0x0F
first_fits b f s = other_fits f s

-- a first byte is what the shape says
abbrev pub fits_at : ℕ → Entry → Shape → Bool
fits_at b f s = if is_row s then is_row_like f s else first_fits b f s

abbrev pub lead_fits : ℕ → Shape → Bool
lead_fits b s = fits_at b (one_entry b) s
