-- The table of shapes names the rows.
use Rattle.std.proofs.Common.{◌≡◌, ℕ, zero, suc, ◌+◌, ◌*◌, ◌<◌, ◌==◌, ◌&&◌, Bool, true, false, if◌then◌else◌, List, [], ◌∷◌, get_or, refl, sym, ap, subst, ◌∙◌, arith, length}
use Rattle.std.proofs.lemmas.Bool.Decides.{nat_tests}
use Rattle.mdl_insn.specs.declared.mnemonics.Op.{Op}
use Rattle.mdl_insn.specs.declared.rows.Width.{Width}
use Rattle.mdl_insn.specs.declared.rows.Width.TheVariants as width
use Rattle.mdl_insn.specs.declared.rows.Kind.{Kind}
use Rattle.mdl_insn.specs.declared.rows.Kind.TheVariants as kind
use Rattle.mdl_insn.specs.declared.rows.Form.{Form}
use Rattle.mdl_insn.specs.declared.rows.Form.TheVariants as form
use Rattle.mdl_insn.specs.declared.rows.Row.{Row}
use Rattle.mdl_insn.specs.declared.rows.Entry.{Entry}
use Rattle.mdl_insn.specs.declared.rows.Entry.TheVariants.{Undefined, One}
use Rattle.mdl_insn.specs.declared.table.TheConstants as rows
use Rattle.mdl_insn.specs.Rows.{one_entry, two_entry, member_entry}
use Rattle.mdl_insn.proofs.Tables.{at-one, at-two, at-member}
use Rattle.insn_decode.specs.declared.shapes.Shape.{Shape}
use Rattle.insn_decode.specs.declared.shapes.Shape.TheVariants as shape
use Rattle.insn_decode.specs.declared.shapes.TheConstants.{ONE_BYTE, TWO_BYTES, GROUPS}
use Rattle.insn_decode.specs.Shapes.{shape_row, width_number, kind_number, form_number, is_like, is_row, is_row_like, other_fits, shape_fits, fits_at, lead_fits}

-- ---- a number tells the part

abbrev width_at : ℕ → Width
width_at n = get_or (width.Byte ∷ width.Full ∷ width.Four ∷ []) n width.Four

width_back : (w : Width) → width_at (width_number w) ≡ w
width_back width.Byte = refl
width_back width.Full = refl
width_back width.Four = refl

abbrev kind_at : ℕ → Kind
kind_at n = get_or (kind.Bare ∷ kind.First ∷ kind.Second ∷ kind.Address ∷ kind.Odd ∷ []) n kind.Odd

kind_back : (k : Kind) → kind_at (kind_number k) ≡ k
kind_back kind.Bare = refl
kind_back kind.First = refl
kind_back kind.Second = refl
kind_back kind.Address = refl
kind_back kind.Odd = refl

abbrev form_at : ℕ → Form
form_at n = get_or (form.No ∷ form.Eb ∷ form.Ev ∷ form.Ew ∷ form.Gb ∷ form.Gv ∷ form.Gw ∷ form.M ∷ form.S ∷ form.Sd ∷ form.Ib ∷ form.Iv ∷ form.Iw ∷ form.Is ∷ form.Jb ∷ form.Jv ∷ form.Ob ∷ form.Ov ∷ form.P ∷ form.Rb ∷ form.Rv ∷ form.Al ∷ form.Ax ∷ form.Cl ∷ form.Dx ∷ form.Once ∷ form.Cd ∷ form.Dd ∷ form.Rd ∷ form.Es ∷ form.Cs ∷ form.Ss ∷ form.Ds ∷ form.Fs ∷ form.Gs ∷ form.Escape ∷ []) n form.No

form_back : (f : Form) → form_at (form_number f) ≡ f
form_back form.No = refl
form_back form.Eb = refl
form_back form.Ev = refl
form_back form.Ew = refl
form_back form.Gb = refl
form_back form.Gv = refl
form_back form.Gw = refl
form_back form.M = refl
form_back form.S = refl
form_back form.Sd = refl
form_back form.Ib = refl
form_back form.Iv = refl
form_back form.Iw = refl
form_back form.Is = refl
form_back form.Jb = refl
form_back form.Jv = refl
form_back form.Ob = refl
form_back form.Ov = refl
form_back form.P = refl
form_back form.Rb = refl
form_back form.Rv = refl
form_back form.Al = refl
form_back form.Ax = refl
form_back form.Cl = refl
form_back form.Dx = refl
form_back form.Once = refl
form_back form.Cd = refl
form_back form.Dd = refl
form_back form.Rd = refl
form_back form.Es = refl
form_back form.Cs = refl
form_back form.Ss = refl
form_back form.Ds = refl
form_back form.Fs = refl
form_back form.Gs = refl
form_back form.Escape = refl

same_number : (a b : ℕ) → (a == b) ≡ true → a ≡ b
same_number a b e = grind (arith, nat_tests, e)

width_same : (a b : Width) → (width_number a == width_number b) ≡ true → a ≡ b
width_same a b e = sym (width_back a) ∙ ap width_at (same_number _ _ e) ∙ width_back b

kind_same : (a b : Kind) → (kind_number a == kind_number b) ≡ true → a ≡ b
kind_same a b e = sym (kind_back a) ∙ ap kind_at (same_number _ _ e) ∙ kind_back b

form_same : (a b : Form) → (form_number a == form_number b) ≡ true → a ≡ b
form_same a b e = sym (form_back a) ∙ ap form_at (same_number _ _ e) ∙ form_back b

left_of : (x y : Bool) → (x && y) ≡ true → x ≡ true
left_of true y e = refl
left_of false y e = absurd cc

right_of : (x y : Bool) → (x && y) ≡ true → y ≡ true
right_of true y e = e
right_of false y e = absurd cc

abbrev made : Op → Width → Kind → Form → Form → Form → Row
made o w k a b c = record { op = o; width = w; kind = k; a = a; b = b; c = c }

like : (r q : Row) → r.op ≡ q.op → is_like r q ≡ true → r ≡ q
like r q op e =
    let w = left_of _ _ e in
    let e1 = right_of _ _ e in
    let k = left_of _ _ e1 in
    let e2 = right_of _ _ e1 in
    let a = left_of _ _ e2 in
    let e3 = right_of _ _ e2 in
    let b = left_of _ _ e3 in
    let c = right_of _ _ e3 in
    let width : r.width ≡ q.width = width_same r.width q.width w in
    let kind : r.kind ≡ q.kind = kind_same r.kind q.kind k in
    let first : r.a ≡ q.a = form_same r.a q.a a in
    let second : r.b ≡ q.b = form_same r.b q.b b in
    let third : r.c ≡ q.c = form_same r.c q.c c in
    ap (λ (o : Op). made o r.width r.kind r.a r.b r.c) op
    ∙ ap (λ (v : Width). made q.op v r.kind r.a r.b r.c) width
    ∙ ap (λ (v : Kind). made q.op q.width v r.a r.b r.c) kind
    ∙ ap (λ (v : Form). made q.op q.width q.kind v r.b r.c) first
    ∙ ap (λ (v : Form). made q.op q.width q.kind q.a v r.c) second
    ∙ ap (λ (v : Form). made q.op q.width q.kind q.a q.b v) third

row_op : (s : Shape) (op : Op) → (shape_row s op).op ≡ op
row_op shape.Odd op = refl
row_op shape.Prefix op = refl
row_op shape.TwoBytes op = refl
row_op shape.Group op = refl
row_op shape.EbGb op = refl
row_op shape.EvGv op = refl
row_op shape.GbEb op = refl
row_op shape.GvEv op = refl
row_op shape.AlIb op = refl
row_op shape.AxIv op = refl
row_op shape.RbIb op = refl
row_op shape.RvIv op = refl
row_op shape.Rv op = refl
row_op shape.Jb op = refl
row_op shape.Jv op = refl
row_op shape.Bare op = refl
row_op shape.BareByte op = refl
row_op shape.GvEb op = refl
row_op shape.GvEw op = refl
row_op shape.GvM op = refl
row_op shape.Eb op = refl
row_op shape.Ev op = refl
row_op shape.EbIb op = refl
row_op shape.EvIb op = refl
row_op shape.EvIs op = refl
row_op shape.EvIv op = refl
row_op shape.EbOnce op = refl
row_op shape.EvOnce op = refl
row_op shape.EbCl op = refl
row_op shape.EvCl op = refl
row_op shape.AxOv op = refl
row_op shape.OvAx op = refl
row_op shape.AlOb op = refl
row_op shape.ObAl op = refl
row_op shape.IsNo op = refl
row_op shape.IvNo op = refl

-- a row of a shape is the one that the shape names
pub named : (f : Entry) (s : Shape) (r : Row) → f ≡ One r → is_row s ≡ true → shape_fits f s ≡ true → f ≡ One (shape_row s r.op)
named f s r is row e =
    let fits : is_row_like f s ≡ true = subst (λ (v : Bool). (if v then is_row_like f s else other_fits f s) ≡ true) row e in
    is ∙ ap One (like r (shape_row s r.op) (sym (row_op s r.op)) (subst (λ (g : Entry). is_row_like g s ≡ true) is fits))

-- ---- the tables

abbrev all_fit : List Entry → List Shape → Bool
all_fit [] ss = true
all_fit (f ∷ fs) [] = true
all_fit (f ∷ fs) (s ∷ ss) = shape_fits f s && all_fit fs ss

fit_at : (fs : List Entry) (ss : List Shape) (i : ℕ) (d : Entry) (z : Shape) → i < length fs → i < length ss → all_fit fs ss ≡ true → shape_fits (get_or fs i d) (get_or ss i z) ≡ true
fit_at [] ss i d z h k e = absurd (omega (arith, h))
fit_at (f ∷ fs) [] i d z h k e = absurd (omega (arith, k))
fit_at (f ∷ fs) (s ∷ ss) zero d z h k e = left_of (shape_fits f s) (all_fit fs ss) e
fit_at (f ∷ fs) (s ∷ ss) (suc i) d z h k e = fit_at fs ss i d z (omega (arith, h)) (omega (arith, k)) (right_of (shape_fits f s) (all_fit fs ss) e)

-- from a first byte on
abbrev leads_fit : ℕ → List Entry → List Shape → Bool
leads_fit b [] ss = true
leads_fit b (f ∷ fs) [] = true
leads_fit b (f ∷ fs) (s ∷ ss) = fits_at b f s && leads_fit (suc b) fs ss

lead_at : (b n : ℕ) (fs : List Entry) (ss : List Shape) (i : ℕ) (d : Entry) (z : Shape) → n ≡ b + i → i < length fs → i < length ss → leads_fit b fs ss ≡ true → fits_at n (get_or fs i d) (get_or ss i z) ≡ true
lead_at b n [] ss i d z at h k e = absurd (omega (arith, h))
lead_at b n (f ∷ fs) [] i d z at h k e = absurd (omega (arith, k))
lead_at b n (f ∷ fs) (s ∷ ss) zero d z at h k e =
    let same : b ≡ n = omega (arith, at) in
    subst (λ (m : ℕ). fits_at m f s ≡ true) same (left_of (fits_at b f s) (leads_fit (suc b) fs ss) e)
lead_at b n (f ∷ fs) (s ∷ ss) (suc i) d z at h k e = lead_at (suc b) n fs ss i d z (omega (arith, at)) (omega (arith, h)) (omega (arith, k)) (right_of (fits_at b f s) (leads_fit (suc b) fs ss) e)

default_any : (fs : List Entry) (i : ℕ) (d : Entry) → i < length fs → get_or fs i d ≡ get_or fs i (get_or fs i d)
default_any [] i d h = absurd (omega (arith, h))
default_any (f ∷ fs) zero d h = refl
default_any (f ∷ fs) (suc i) d h = within fs i d (get_or fs i d) (omega (arith, h))
  where
    within : (fs : List Entry) (i : ℕ) (d z : Entry) → i < length fs → get_or fs i d ≡ get_or fs i z
    within [] i d z h = absurd (omega (arith, h))
    within (f ∷ fs) zero d z h = refl
    within (f ∷ fs) (suc i) d z h = within fs i d z (omega (arith, h))

pub one_fits : (b : ℕ) (s : Shape) → b < 256 → s ≡ get_or ONE_BYTE b s → lead_fits b s ≡ true
one_fits b s lt e =
    subst (λ (f : Entry). fits_at b f s ≡ true) (at-one b (get_or rows.ONE_BYTE b Undefined) lt (default_any rows.ONE_BYTE b Undefined lt))
    (subst (λ (z : Shape). fits_at b (get_or rows.ONE_BYTE b Undefined) z ≡ true) (sym e) (lead_at 0 b rows.ONE_BYTE ONE_BYTE b Undefined s (omega arith) lt lt refl))

pub two_fits : (b : ℕ) (s : Shape) → b < 256 → s ≡ get_or TWO_BYTES b s → shape_fits (two_entry b) s ≡ true
two_fits b s lt e =
    subst (λ (f : Entry). shape_fits f s ≡ true) (at-two b (get_or rows.TWO_BYTES b Undefined) lt (default_any rows.TWO_BYTES b Undefined lt))
    (subst (λ (z : Shape). shape_fits (get_or rows.TWO_BYTES b Undefined) z ≡ true) (sym e) (fit_at rows.TWO_BYTES TWO_BYTES b Undefined s lt lt refl))

pub member_fits : (g reg : ℕ) (s : Shape) → 8 * g + reg < 152 → s ≡ get_or GROUPS (8 * g + reg) s → shape_fits (member_entry g reg) s ≡ true
member_fits g reg s lt e =
    subst (λ (f : Entry). shape_fits f s ≡ true) (at-member g reg (get_or rows.GROUPS (8 * g + reg) Undefined) lt (default_any rows.GROUPS (8 * g + reg) Undefined lt))
    (subst (λ (z : Shape). shape_fits (get_or rows.GROUPS (8 * g + reg) Undefined) z ≡ true) (sym e) (fit_at rows.GROUPS GROUPS (8 * g + reg) Undefined s lt lt refl))
