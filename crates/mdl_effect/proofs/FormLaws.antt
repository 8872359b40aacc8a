-- What some bytes spell has the operands that its mnemonic takes.
use Rattle.std.proofs.Common.{◌≡◌, ◌≢◌, ℕ, ◌+◌, ◌*◌, ◌/◌, ◌%◌, ◌^◌, ◌<◌, ◌≤◌, ◌==◌, ◌&&◌, Bool, true, false, cond, List, [], ◌∷◌, ◌++◌, length, refl, sym, subst, ◌∙◌, ap, arith, rules}
use Rattle.std.specs.Prelude.{nat_lt, not, ◌||◌, None}
use Rattle.std.proofs.Math.Nat.{pow-suc}
use Rattle.std.proofs.lemmas.List.{append-nil}
use Rattle.std.proofs.lemmas.Bool.{false≢true}
use Rattle.std.proofs.lemmas.Bool.Decides.{nat_tests}
use Rattle.mdl_state.specs.declared.Size.{Size}
use Rattle.mdl_state.specs.declared.Size.TheVariants.{B1, B2, B4}
use Rattle.mdl_state.specs.declared.Seg.TheVariants as segs
use Rattle.mdl_state.specs.Bytes.{bytes_of, bound_of, little}
use Rattle.mdl_insn.specs.declared.instruction.Insn.{Insn}
use Rattle.mdl_insn.specs.declared.instruction.Operand.{Operand}
use Rattle.mdl_insn.specs.declared.instruction.Operand.TheVariants.{Nothing, Gpr, Sreg, Creg, Dreg, At, Imm, Rel, Far}
use Rattle.mdl_insn.specs.declared.rows.Setting.{Setting}
use Rattle.mdl_insn.specs.declared.rows.Width.{Width}
use Rattle.mdl_insn.specs.declared.rows.Width.TheVariants.{Byte, Full, Four}
use Rattle.mdl_insn.specs.declared.rows.Form.{Form}
use Rattle.mdl_insn.specs.declared.rows.Form.TheVariants.{No, Eb, Ev, Ew, Gb, Gv, Gw, M, S, Sd, Ib, Iv, Iw, Is, Jb, Jv, Ob, Ov, P, Rb, Rv, Al, Ax, Cl, Dx, Once, Cd, Dd, Rd, Es, Cs, Ss, Ds, Fs, Gs, Escape}
use Rattle.mdl_insn.specs.declared.rows.Row.{Row}
use Rattle.mdl_insn.specs.Tree.{IsBytes}
use Rattle.mdl_insn.specs.Addresses.{mod_of, reg_of, rm_of, extend}
use Rattle.mdl_insn.specs.Operands.{operand, e_operand, own_len, seg_at, form_allows, lockable, allows, Place, place}
use Rattle.mdl_insn.specs.Prefixes.{has, operand_size_prefix, setting}
use Rattle.mdl_insn.specs.Spelling.{size_of, insn_of, opcode_last, SpeltRow, Spelt}
use Rattle.mdl_insn.proofs.PrefixEnds.{fit_back}
use Rattle.mdl_effect.specs.Operands.{is_plain, is_nothing}
use Rattle.mdl_effect.specs.Kinds.{is_gpr, is_number, is_memory, is_place, is_direct, is_value, is_relative, is_pushed, is_popped, is_target, is_far_target, is_accumulator, is_control_number, is_debug_number, IsFar, IsPort}
use Rattle.mdl_effect.specs.Forms.{IsOf, IsWithin, IsMove, IsFormed, Part, IsPart, Empty, Reg, Reg16, Memory, RegMem, RegMem8, RegMem16, Value, Narrow, Index, Count, Imm8, Imm16, OrReg, OrRegMem, OrValue, OrImm, OrImm16, Relative, Target, FarTarget, Pushed, Popped, Accumulator, Port, Shape, IsShape, Takes, Wide, Apart, OnCondition, Moves, shape_of}
use Rattle.mdl_effect.proofs.RowTests.{row_tested}

-- ---- the test of a row

-- an operand of the kind that a form gives
abbrev sample : Form → Operand
sample No = Nothing
sample M = At (record { seg = segs.Ds; base = None; index = None; scale = 1; disp = 0; wide = true }) B1
sample Ob = At (record { seg = segs.Ds; base = None; index = None; scale = 1; disp = 0; wide = true }) B1
sample Ov = At (record { seg = segs.Ds; base = None; index = None; scale = 1; disp = 0; wide = true }) B1
sample S = Sreg segs.Cs
sample Sd = Sreg segs.Cs
sample Ib = Imm 0 B1
sample Iv = Imm 0 B1
sample Iw = Imm 0 B1
sample Is = Imm 0 B1
sample Once = Imm 0 B1
sample Escape = Imm 0 B1
sample Jb = Rel 0
sample Jv = Rel 0
sample P = Far 0 0
sample Al = Gpr 0 B1
sample Ax = Gpr 0 B1
sample Cd = Creg 0
sample Dd = Dreg 0
sample Es = Sreg segs.Es
sample Cs = Sreg segs.Cs
sample Ss = Sreg segs.Ss
sample Ds = Sreg segs.Ds
sample Fs = Sreg segs.Fs
sample Gs = Sreg segs.Gs
sample _ = Gpr 1 B1

-- the operands of a form pass the test of a kind
abbrev meets : (Operand → Bool) → Form → Bool
meets test Eb = test (sample Gb) && test (sample M)
meets test Ev = test (sample Gb) && test (sample M)
meets test Ew = test (sample Gb) && test (sample M)
meets test f = test (sample f)

-- nothing, or of one byte
abbrev is_byte : Form → Bool
is_byte No = true
is_byte Eb = true
is_byte Gb = true
is_byte Ib = true
is_byte Ob = true
is_byte Rb = true
is_byte Al = true
is_byte Cl = true
is_byte Once = true
is_byte Escape = true
is_byte _ = false

-- nothing, or a word
abbrev is_word : Form → Bool
is_word No = true
is_word Ew = true
is_word Gw = true
is_word Iw = true
is_word _ = false

-- nothing, or of the operand size
abbrev is_full : Form → Bool
is_full No = true
is_full Ev = true
is_full Gv = true
is_full M = true
is_full Iv = true
is_full Is = true
is_full Ov = true
is_full Rv = true
is_full Ax = true
is_full _ = false

-- of no size
abbrev is_sizeless : Form → Bool
is_sizeless Jb = true
is_sizeless Jv = true
is_sizeless P = true
is_sizeless Es = true
is_sizeless Cs = true
is_sizeless Ss = true
is_sizeless Ds = true
is_sizeless Fs = true
is_sizeless Gs = true
is_sizeless _ = false

-- of no more than the operand size
abbrev is_narrow : Form → Bool
is_narrow Eb = true
is_narrow Ew = true
is_narrow Ib = true
is_narrow Gv = true
is_narrow _ = false

abbrev is_port : Form → Bool
is_port Ib = true
is_port Dx = true
is_port _ = false

abbrev is_four : Form → Bool
is_four Rd = true
is_four _ = false

-- the operand size, which is never a byte
abbrev is_wide : Width → Bool
is_wide Full = true
is_wide _ = false

abbrev is_double : Width → Bool
is_double Four = true
is_double _ = false

-- nothing, or of the row's size
abbrev is_of : Width → Form → Bool
is_of Byte f = is_byte f
is_of Full f = is_full f
is_of Four f = false

-- the form gives such an operand
abbrev fits : Part → Width → Form → Bool
fits Empty w f = meets is_nothing f
fits Reg w f = meets is_gpr f && is_of w f
fits Reg16 w f = meets is_gpr f && is_word f
fits Memory w f = meets is_memory f && is_of w f
fits RegMem w f = meets is_place f && is_of w f
fits RegMem8 w f = meets is_place f && is_byte f
fits RegMem16 w f = meets is_place f && is_word f
fits Value w f = meets is_value f && is_of w f
fits Narrow w f = meets is_value f && is_wide w && is_narrow f
fits Index w f = meets is_direct f && is_wide w && is_narrow f
fits Count w f = meets is_direct f && is_byte f
fits Imm8 w f = meets is_number f && is_byte f
fits Imm16 w f = meets is_number f && is_word f
fits OrReg w f = meets (λ (a : Operand). is_gpr a || is_nothing a) f && is_of w f
fits OrRegMem w f = meets (λ (a : Operand). is_place a || is_nothing a) f && is_of w f
fits OrValue w f = meets (λ (a : Operand). is_value a || is_nothing a) f && is_of w f
fits OrImm w f = meets (λ (a : Operand). is_number a || is_nothing a) f && is_of w f
fits OrImm16 w f = meets (λ (a : Operand). is_number a || is_nothing a) f && is_word f
fits Relative w f = meets is_relative f
fits Target w f = meets is_target f && (is_of w f || is_sizeless f)
fits FarTarget w f = meets is_far_target f && is_wide w && (is_of w f || is_sizeless f)
fits Pushed w f = meets is_pushed f && (is_of w f || is_sizeless f)
fits Popped w f = meets is_popped f && (is_of w f || is_sizeless f)
fits Accumulator w f = meets is_accumulator f && is_of w f
fits Port w f = is_port f

-- a move to a segment, control or debug register
abbrev moves_to : Width → Form → Form → Bool
moves_to w Sd b = is_wide w && meets is_place b && is_word b
moves_to w Cd b = is_double w && is_four b
moves_to w Dd b = is_double w && is_four b
moves_to w _ b = false

-- and from one
abbrev moves_from : Width → Form → Form → Bool
moves_from w a S = is_wide w && meets is_place a && is_word a
moves_from w a Cd = is_double w && is_four a
moves_from w a Dd = is_double w && is_four a
moves_from w a _ = false

abbrev moves : Width → Form → Form → Bool
moves w a b = moves_to w a b || (moves_from w a b || (fits RegMem w a && fits Value w b && (meets is_plain a || meets is_plain b)))

-- the forms are those that the mnemonic takes
abbrev has_shape : Shape → Width → Form → Form → Form → Bool
has_shape (Takes p q r) w a b c = fits p w a && fits q w b && fits r w c
has_shape (Wide shape) w a b c = is_wide w && has_shape shape w a b c
has_shape (Apart shape) w a b c = (meets is_plain a || meets is_plain b) && has_shape shape w a b c
has_shape (OnCondition number shape) w a b c = nat_lt number 16 && has_shape shape w a b c
has_shape Moves w a b c = moves w a b && meets is_nothing c

abbrev is_formed : Row → Bool
is_formed r = has_shape (shape_of r.op) r.width r.a r.b r.c

row_formed : {bytes : List ℕ} {big : Bool} {insn : Insn} (h : Spelt bytes big insn) → is_formed h.row.row ≡ true
row_formed h = row_tested is_formed refl refl refl _ _ _ h

-- ---- sizes and numbers

setting_size : (big : Bool) (ps : List ℕ) → (setting big ps).size ≢ B1
setting_size true ps = elim (has operand_size_prefix ps) as (λ v. cond v B2 B4 ≢ B1) [ true ↦ λ e. absurd cc | false ↦ λ e. absurd cc ]
setting_size false ps = elim (has operand_size_prefix ps) as (λ v. cond v B4 B2 ≢ B1) [ true ↦ λ e. absurd cc | false ↦ λ e. absurd cc ]

bytes_bound : (size : Size) → 256 ^ bytes_of size ≡ bound_of size
bytes_bound B1 = refl
bytes_bound B2 = refl
bytes_bound B4 = refl

byte_within : (size : Size) → 1 ≤ bytes_of size
byte_within B1 = omega arith
byte_within B2 = omega arith
byte_within B4 = omega arith

word_within : (size : Size) → size ≢ B1 → 2 ≤ bytes_of size
word_within B1 wide = absurd (wide refl)
word_within B2 wide = omega arith
word_within B4 wide = omega arith

extend_below : (size : Size) (x : ℕ) → x < 256 → extend 0x80 (bound_of size) x < bound_of size
extend_below B1 x lt = grind (arith, nat_tests)
extend_below B2 x lt = grind (arith, nat_tests)
extend_below B4 x lt = grind (arith, nat_tests)

little_below : (x y : List ℕ) (n : ℕ) → length x ≡ n → IsBytes (x ++ y) → little x < 256 ^ n
little_below [] y n is fit = subst (λ k. 0 < 256 ^ k) is (omega arith)
little_below (b ∷ x) y n is fit =
    let rest = little_below x y (length x) refl fit.1 in
    let power : 256 ^ n ≡ 256 ^ length x * 256 = ap (λ k. 256 ^ k) (sym is) ∙ pow-suc 256 (length x) in
    omega (arith, fit.0)

-- ---- sizes of operands

byte_of : (s : Setting) (p : Place) (f : Form) (x : ℕ) → x < 256 ^ own_len s f → is_byte f ≡ true → IsOf B1 (operand s p f x)
byte_of s p No x lt e = tt
byte_of s p Eb x lt e = elim (mod_of p.modrm == 3) as (λ v. IsOf B1 (cond v (Gpr (rm_of p.modrm) B1) (At p.mem B1))) [ true ↦ (refl, omega arith) | false ↦ refl ]
byte_of s p Gb x lt e = (refl, omega arith)
byte_of s p Ib x lt e = (refl, omega (arith, lt))
byte_of s p Ob x lt e = refl
byte_of s p Rb x lt e = (refl, omega arith)
byte_of s p Al x lt e = (refl, omega arith)
byte_of s p Cl x lt e = (refl, omega arith)
byte_of s p Once x lt e = (refl, omega arith)
byte_of s p Escape x lt e = (refl, omega arith)
byte_of s p _ x lt e = absurd cc

word_of : (s : Setting) (p : Place) (f : Form) (x : ℕ) → x < 256 ^ own_len s f → is_word f ≡ true → IsOf B2 (operand s p f x)
word_of s p No x lt e = tt
word_of s p Ew x lt e = elim (mod_of p.modrm == 3) as (λ v. IsOf B2 (cond v (Gpr (rm_of p.modrm) B2) (At p.mem B2))) [ true ↦ (refl, omega arith) | false ↦ refl ]
word_of s p Gw x lt e = (refl, omega arith)
word_of s p Iw x lt e = (refl, omega (arith, lt))
word_of s p _ x lt e = absurd cc

full_of : (s : Setting) (p : Place) (f : Form) (x : ℕ) → x < 256 ^ own_len s f → is_full f ≡ true → IsOf s.size (operand s p f x)
full_of s p No x lt e = tt
full_of s p Ev x lt e = elim (mod_of p.modrm == 3) as (λ v. IsOf s.size (cond v (Gpr (rm_of p.modrm) s.size) (At p.mem s.size))) [ true ↦ (refl, omega arith) | false ↦ refl ]
full_of s p Gv x lt e = (refl, omega arith)
full_of s p M x lt e = refl
full_of s p Iv x lt e = (refl, subst (λ (k : ℕ). x < k) (bytes_bound s.size) lt)
full_of s p Is x lt e = (refl, extend_below s.size x lt)
full_of s p Ov x lt e = refl
full_of s p Rv x lt e = (refl, omega arith)
full_of s p Ax x lt e = (refl, omega arith)
full_of s p _ x lt e = absurd cc

sizeless_of : (s : Setting) (p : Place) (f : Form) (x : ℕ) (size : Size) → is_sizeless f ≡ true → IsOf size (operand s p f x)
sizeless_of s p Jb x size e = tt
sizeless_of s p Jv x size e = tt
sizeless_of s p P x size e = tt
sizeless_of s p Es x size e = tt
sizeless_of s p Cs x size e = tt
sizeless_of s p Ss x size e = tt
sizeless_of s p Ds x size e = tt
sizeless_of s p Fs x size e = tt
sizeless_of s p Gs x size e = tt
sizeless_of s p _ x size e = absurd cc

narrow_of : (s : Setting) (p : Place) (f : Form) (x : ℕ) → s.size ≢ B1 → x < 256 ^ own_len s f → is_narrow f ≡ true → IsWithin s.size (operand s p f x)
narrow_of s p Eb x wide lt e = elim (mod_of p.modrm == 3) as (λ v. IsWithin s.size (cond v (Gpr (rm_of p.modrm) B1) (At p.mem B1))) [ true ↦ (byte_within s.size, omega arith) | false ↦ byte_within s.size ]
narrow_of s p Ew x wide lt e = elim (mod_of p.modrm == 3) as (λ v. IsWithin s.size (cond v (Gpr (rm_of p.modrm) B2) (At p.mem B2))) [ true ↦ (word_within s.size wide, omega arith) | false ↦ word_within s.size wide ]
narrow_of s p Gv x wide lt e = (omega arith, omega arith)
narrow_of s p Ib x wide lt e = (byte_within s.size, omega (arith, lt))
narrow_of s p _ x wide lt e = absurd cc

four_of : (s : Setting) (p : Place) (f : Form) (x : ℕ) → is_four f ≡ true → (is_gpr (operand s p f x) ≡ true) × IsOf B4 (operand s p f x)
four_of s p Rd x e = (refl, (refl, omega arith))
four_of s p _ x e = absurd cc

port_of : (s : Setting) (p : Place) (f : Form) (x : ℕ) → x < 256 ^ own_len s f → is_port f ≡ true → IsPort (operand s p f x)
port_of s p Ib x lt e = (refl, omega (arith, lt))
port_of s p Dx x lt e = (refl, refl)
port_of s p _ x lt e = absurd cc

far_parts : (size : Size) (x : ℕ) → x < 256 ^ (2 + bytes_of size) → (x / bound_of size < 2 ^ 16) × (x % bound_of size < bound_of size)
far_parts B1 x lt = (omega (arith, lt), omega arith)
far_parts B2 x lt = (omega (arith, lt), omega arith)
far_parts B4 x lt = (omega (arith, lt), omega arith)

far_of : (s : Setting) (p : Place) (f : Form) (x : ℕ) → x < 256 ^ own_len s f → meets is_far_target f ≡ true → IsFar s.size (operand s p f x)
far_of s p P x lt e = far_parts s.size x lt
far_of s p M x lt e = tt
far_of s p Ob x lt e = tt
far_of s p Ov x lt e = tt
far_of s p _ x lt e = absurd cc

-- ---- kinds of operands

e_meets : (test : Operand → Bool) (p : Place) (size : Size) → test (Gpr (rm_of p.modrm) size) ≡ true → test (At p.mem size) ≡ true → test (e_operand p size) ≡ true
e_meets test p size g m = elim (mod_of p.modrm == 3) as (λ v. test (cond v (Gpr (rm_of p.modrm) size) (At p.mem size)) ≡ true) [ true ↦ g | false ↦ m ]

of_nothing : (s : Setting) (p : Place) (f : Form) (x : ℕ) → meets is_nothing f ≡ true → is_nothing (operand s p f x) ≡ true
of_nothing s p Eb x e = absurd cc
of_nothing s p Ev x e = absurd cc
of_nothing s p Ew x e = absurd cc
of_nothing s p _ x e = e

of_gpr : (s : Setting) (p : Place) (f : Form) (x : ℕ) → meets is_gpr f ≡ true → is_gpr (operand s p f x) ≡ true
of_gpr s p Eb x e = absurd cc
of_gpr s p Ev x e = absurd cc
of_gpr s p Ew x e = absurd cc
of_gpr s p _ x e = e

of_number : (s : Setting) (p : Place) (f : Form) (x : ℕ) → meets is_number f ≡ true → is_number (operand s p f x) ≡ true
of_number s p Eb x e = absurd cc
of_number s p Ev x e = absurd cc
of_number s p Ew x e = absurd cc
of_number s p _ x e = e

of_memory : (s : Setting) (p : Place) (f : Form) (x : ℕ) → meets is_memory f ≡ true → is_memory (operand s p f x) ≡ true
of_memory s p Eb x e = absurd cc
of_memory s p Ev x e = absurd cc
of_memory s p Ew x e = absurd cc
of_memory s p _ x e = e

of_place : (s : Setting) (p : Place) (f : Form) (x : ℕ) → meets is_place f ≡ true → is_place (operand s p f x) ≡ true
of_place s p Eb x e = e_meets is_place p B1 refl refl
of_place s p Ev x e = e_meets is_place p s.size refl refl
of_place s p Ew x e = e_meets is_place p B2 refl refl
of_place s p _ x e = e

of_direct : (s : Setting) (p : Place) (f : Form) (x : ℕ) → meets is_direct f ≡ true → is_direct (operand s p f x) ≡ true
of_direct s p Eb x e = absurd cc
of_direct s p Ev x e = absurd cc
of_direct s p Ew x e = absurd cc
of_direct s p _ x e = e

of_value : (s : Setting) (p : Place) (f : Form) (x : ℕ) → meets is_value f ≡ true → is_value (operand s p f x) ≡ true
of_value s p Eb x e = e_meets is_value p B1 refl refl
of_value s p Ev x e = e_meets is_value p s.size refl refl
of_value s p Ew x e = e_meets is_value p B2 refl refl
of_value s p _ x e = e

of_plain : (s : Setting) (p : Place) (f : Form) (x : ℕ) → meets is_plain f ≡ true → is_plain (operand s p f x) ≡ true
of_plain s p Eb x e = absurd cc
of_plain s p Ev x e = absurd cc
of_plain s p Ew x e = absurd cc
of_plain s p _ x e = e

of_relative : (s : Setting) (p : Place) (f : Form) (x : ℕ) → meets is_relative f ≡ true → is_relative (operand s p f x) ≡ true
of_relative s p Eb x e = absurd cc
of_relative s p Ev x e = absurd cc
of_relative s p Ew x e = absurd cc
of_relative s p _ x e = e

of_pushed : (s : Setting) (p : Place) (f : Form) (x : ℕ) → meets is_pushed f ≡ true → is_pushed (operand s p f x) ≡ true
of_pushed s p Eb x e = e_meets is_pushed p B1 refl refl
of_pushed s p Ev x e = e_meets is_pushed p s.size refl refl
of_pushed s p Ew x e = e_meets is_pushed p B2 refl refl
of_pushed s p _ x e = e

of_popped : (s : Setting) (p : Place) (f : Form) (x : ℕ) → meets is_popped f ≡ true → is_popped (operand s p f x) ≡ true
of_popped s p Eb x e = e_meets is_popped p B1 refl refl
of_popped s p Ev x e = e_meets is_popped p s.size refl refl
of_popped s p Ew x e = e_meets is_popped p B2 refl refl
of_popped s p S x e = absurd cc
of_popped s p Sd x e = absurd cc
of_popped s p _ x e = e

of_target : (s : Setting) (p : Place) (f : Form) (x : ℕ) → meets is_target f ≡ true → is_target (operand s p f x) ≡ true
of_target s p Eb x e = e_meets is_target p B1 refl refl
of_target s p Ev x e = e_meets is_target p s.size refl refl
of_target s p Ew x e = e_meets is_target p B2 refl refl
of_target s p _ x e = e

of_far_target : (s : Setting) (p : Place) (f : Form) (x : ℕ) → meets is_far_target f ≡ true → is_far_target (operand s p f x) ≡ true
of_far_target s p Eb x e = absurd cc
of_far_target s p Ev x e = absurd cc
of_far_target s p Ew x e = absurd cc
of_far_target s p _ x e = e

of_accumulator : (s : Setting) (p : Place) (f : Form) (x : ℕ) → meets is_accumulator f ≡ true → is_accumulator (operand s p f x) ≡ true
of_accumulator s p Eb x e = absurd cc
of_accumulator s p Ev x e = absurd cc
of_accumulator s p Ew x e = absurd cc
of_accumulator s p Gb x e = absurd cc
of_accumulator s p Gv x e = absurd cc
of_accumulator s p Gw x e = absurd cc
of_accumulator s p Rb x e = absurd cc
of_accumulator s p Rv x e = absurd cc
of_accumulator s p Rd x e = absurd cc
of_accumulator s p _ x e = e

or_gpr : (s : Setting) (p : Place) (f : Form) (x : ℕ) → meets (λ (a : Operand). is_gpr a || is_nothing a) f ≡ true → (λ (a : Operand). is_gpr a || is_nothing a) (operand s p f x) ≡ true
or_gpr s p Eb x e = absurd cc
or_gpr s p Ev x e = absurd cc
or_gpr s p Ew x e = absurd cc
or_gpr s p _ x e = e

or_place : (s : Setting) (p : Place) (f : Form) (x : ℕ) → meets (λ (a : Operand). is_place a || is_nothing a) f ≡ true → (λ (a : Operand). is_place a || is_nothing a) (operand s p f x) ≡ true
or_place s p Eb x e = e_meets (λ (a : Operand). is_place a || is_nothing a) p B1 refl refl
or_place s p Ev x e = e_meets (λ (a : Operand). is_place a || is_nothing a) p s.size refl refl
or_place s p Ew x e = e_meets (λ (a : Operand). is_place a || is_nothing a) p B2 refl refl
or_place s p _ x e = e

or_value : (s : Setting) (p : Place) (f : Form) (x : ℕ) → meets (λ (a : Operand). is_value a || is_nothing a) f ≡ true → (λ (a : Operand). is_value a || is_nothing a) (operand s p f x) ≡ true
or_value s p Eb x e = e_meets (λ (a : Operand). is_value a || is_nothing a) p B1 refl refl
or_value s p Ev x e = e_meets (λ (a : Operand). is_value a || is_nothing a) p s.size refl refl
or_value s p Ew x e = e_meets (λ (a : Operand). is_value a || is_nothing a) p B2 refl refl
or_value s p _ x e = e

or_number : (s : Setting) (p : Place) (f : Form) (x : ℕ) → meets (λ (a : Operand). is_number a || is_nothing a) f ≡ true → (λ (a : Operand). is_number a || is_nothing a) (operand s p f x) ≡ true
or_number s p Eb x e = absurd cc
or_number s p Ev x e = absurd cc
or_number s p Ew x e = absurd cc
or_number s p _ x e = e

-- ---- parts

and_parts : (a b : Bool) → (a && b) ≡ true → (a ≡ true) × (b ≡ true)
and_parts true b e = (refl, e)
and_parts false b e = absurd cc

three_parts : (a b c : Bool) → (a && b && c) ≡ true → (a ≡ true) × (b ≡ true) × (c ≡ true)
three_parts true b c e = let parts = and_parts b c e in (refl, parts.0, parts.1)
three_parts false b c e = absurd cc

below : (m n : ℕ) → nat_lt m n ≡ true → m < n
below m n e = grind (arith, nat_tests)

-- a form of a row of this width, and its operand
module _ (s : Setting) (p : Place) (w : Width) (f : Form) (x : ℕ) (wide : s.size ≢ B1) (x_below : x < 256 ^ own_len s f) where
  own_of : (v : Width) → is_of v f ≡ true → IsOf (size_of s v) (operand s p f x)
  own_of Byte e = byte_of s p f x x_below e
  own_of Full e = full_of s p f x x_below e
  own_of Four e = absurd cc

  loose_of : (is_of w f || is_sizeless f) ≡ true → IsOf (size_of s w) (operand s p f x)
  loose_of e = elim (is_of w f) as (λ v. is_of w f ≡ v → (v || is_sizeless f) ≡ true → IsOf (size_of s w) (operand s p f x)) [
    | true ↦ λ is _. own_of w is
    | false ↦ λ _ less. sizeless_of s p f x (size_of s w) less
  ] refl e

  within_of : (v : Width) → is_wide v ≡ true → is_narrow f ≡ true → IsWithin (size_of s v) (operand s p f x)
  within_of Byte e n = absurd cc
  within_of Full e n = narrow_of s p f x wide x_below n
  within_of Four e n = absurd cc

  far_sized : (v : Width) → meets is_far_target f ≡ true → is_wide v ≡ true → IsFar (size_of s v) (operand s p f x)
  far_sized Byte far e = absurd cc
  far_sized Full far e = far_of s p f x x_below far
  far_sized Four far e = absurd cc

  part_of : (part : Part) → fits part w f ≡ true → IsPart part (size_of s w) (operand s p f x)
  part_of Empty e = of_nothing s p f x e
  part_of Reg e = let q = and_parts _ _ e in (of_gpr s p f x q.0, own_of w q.1)
  part_of Reg16 e = let q = and_parts _ _ e in (of_gpr s p f x q.0, word_of s p f x x_below q.1)
  part_of Memory e = let q = and_parts _ _ e in (of_memory s p f x q.0, own_of w q.1)
  part_of RegMem e = let q = and_parts _ _ e in (of_place s p f x q.0, own_of w q.1)
  part_of RegMem8 e = let q = and_parts _ _ e in (of_place s p f x q.0, byte_of s p f x x_below q.1)
  part_of RegMem16 e = let q = and_parts _ _ e in (of_place s p f x q.0, word_of s p f x x_below q.1)
  part_of Value e = let q = and_parts _ _ e in (of_value s p f x q.0, own_of w q.1)
  part_of Narrow e = let q = three_parts _ _ _ e in (of_value s p f x q.0, within_of w q.1 q.2)
  part_of Index e = let q = three_parts _ _ _ e in (of_direct s p f x q.0, within_of w q.1 q.2)
  part_of Count e = let q = and_parts _ _ e in (of_direct s p f x q.0, byte_of s p f x x_below q.1)
  part_of Imm8 e = let q = and_parts _ _ e in (of_number s p f x q.0, byte_of s p f x x_below q.1)
  part_of Imm16 e = let q = and_parts _ _ e in (of_number s p f x q.0, word_of s p f x x_below q.1)
  part_of OrReg e = let q = and_parts _ _ e in (or_gpr s p f x q.0, own_of w q.1)
  part_of OrRegMem e = let q = and_parts _ _ e in (or_place s p f x q.0, own_of w q.1)
  part_of OrValue e = let q = and_parts _ _ e in (or_value s p f x q.0, own_of w q.1)
  part_of OrImm e = let q = and_parts _ _ e in (or_number s p f x q.0, own_of w q.1)
  part_of OrImm16 e = let q = and_parts _ _ e in (or_number s p f x q.0, word_of s p f x x_below q.1)
  part_of Relative e = of_relative s p f x e
  part_of Target e = let q = and_parts _ _ e in (of_target s p f x q.0, loose_of q.1)
  part_of FarTarget e = let q = three_parts _ _ _ e in (of_far_target s p f x q.0, loose_of q.2, far_sized w q.0 q.1)
  part_of Pushed e = let q = and_parts _ _ e in (of_pushed s p f x q.0, loose_of q.1)
  part_of Popped e = let q = and_parts _ _ e in (of_popped s p f x q.0, loose_of q.1)
  part_of Accumulator e = let q = and_parts _ _ e in (of_accumulator s p f x q.0, own_of w q.1)
  part_of Port e = port_of s p f x x_below e

-- ---- moves

widened : (s : Setting) (w : Width) → s.size ≢ B1 → is_wide w ≡ true → size_of s w ≢ B1
widened s Byte wide e = absurd cc
widened s Full wide e = wide
widened s Four wide e = absurd cc

doubled : (s : Setting) (w : Width) → is_double w ≡ true → size_of s w ≡ B4
doubled s Four e = refl
doubled s _ e = absurd cc

either : (a b : Bool) (C : Type 0) → (a ≡ true → C) → (b ≡ true → C) → (a || b) ≡ true → C
either true b C f g e = f refl
either false b C f g e = g e

more_either : (a b c d : Bool) → (a ≡ true → c ≡ true) → (b ≡ true → d ≡ true) → (a || b) ≡ true → (c || d) ≡ true
more_either a b true d f g e = refl
more_either a b false d f g e = either a b (d ≡ true) (λ h. absurd (false≢true (f h))) g e

move_between : (a b : Operand) (size : Size) → IsPart RegMem size a → IsPart Value size b → (is_plain a || is_plain b) ≡ true → IsMove a b size
move_between (Gpr n own) (Gpr m other) size g h e = (g, h, e)
move_between (Gpr n own) (Imm value other) size g h e = (g, h, e)
move_between (Gpr n own) (At mem other) size g h e = (g, h, e)
move_between (Gpr n own) _ size g h e = absurd cc
move_between (At mem own) (Gpr m other) size g h e = (g, h, e)
move_between (At mem own) (Imm value other) size g h e = (g, h, e)
move_between (At mem own) (At more other) size g h e = (g, h, e)
move_between (At mem own) _ size g h e = absurd cc
move_between _ b size g h e = absurd cc

from_segment : (a : Operand) (n : ℕ) (size : Size) → size ≢ B1 → is_place a ≡ true → IsOf B2 a → IsMove a (Sreg (seg_at n)) size
from_segment (Gpr m own) n size wide e is = (wide, e, is)
from_segment (At mem own) n size wide e is = (wide, e, is)
from_segment _ n size wide e is = absurd cc

from_control : (a : Operand) (n : ℕ) (size : Size) → is_control_number n ≡ true → size ≡ B4 → (is_gpr a ≡ true) × IsOf B4 a → IsMove a (Creg n) size
from_control (Gpr m own) n size is four e = (is, four, e.0, e.1)
from_control _ n size is four e = absurd cc

from_debug : (a : Operand) (n : ℕ) (size : Size) → is_debug_number n ≡ true → size ≡ B4 → (is_gpr a ≡ true) × IsOf B4 a → IsMove a (Dreg n) size
from_debug (Gpr m own) n size is four e = (is, four, e.0, e.1)
from_debug _ n size is four e = absurd cc

-- a number below 8 that is not 4 or 5
debugs : (n : ℕ) → n < 8 → (not (n == 4) && not (n == 5)) ≡ true → is_debug_number n ≡ true
debugs n small e = grind (arith, nat_tests)

loaded : (n : ℕ) → not (n == 1) ≡ true → is_popped (Sreg (seg_at n)) ≡ true
loaded n = elim (n == 1) as (λ v. not v ≡ true → is_popped (Sreg (cond (n == 0) segs.Es (cond v segs.Cs (cond (n == 2) segs.Ss (cond (n == 3) segs.Ds (cond (n == 4) segs.Fs segs.Gs)))))) ≡ true) [
  | true ↦ λ e. absurd cc
  | false ↦ λ _.
      elim (n == 0) as (λ v. is_popped (Sreg (cond v segs.Es (cond (n == 2) segs.Ss (cond (n == 3) segs.Ds (cond (n == 4) segs.Fs segs.Gs))))) ≡ true) [
        | true ↦ refl
        | false ↦
            elim (n == 2) as (λ v. is_popped (Sreg (cond v segs.Ss (cond (n == 3) segs.Ds (cond (n == 4) segs.Fs segs.Gs)))) ≡ true) [
              | true ↦ refl
              | false ↦
                  elim (n == 3) as (λ v. is_popped (Sreg (cond v segs.Ds (cond (n == 4) segs.Fs segs.Gs))) ≡ true) [
                    | true ↦ refl
                    | false ↦ elim (n == 4) as (λ v. is_popped (Sreg (cond v segs.Fs segs.Gs)) ≡ true) [ true ↦ refl | false ↦ refl ]
                  ]
            ]
      ]
]

-- ---- the instruction

module _ (s : Setting) (p : Place) (x y z : ℕ) (w : Width) (a b c : Form) (wide : s.size ≢ B1) (allowed : form_allows a p.modrm ≡ true) (second : form_allows b p.modrm ≡ true)
    (x_below : x < 256 ^ own_len s a) (y_below : y < 256 ^ own_len s b) (z_below : z < 256 ^ own_len s c) where
  moved_to : (form : Form) → form_allows form p.modrm ≡ true → moves_to w form b ≡ true → IsMove (operand s p form x) (operand s p b y) (size_of s w)
  moved_to Sd fine e =
      let q = three_parts _ _ _ e in
      (loaded (reg_of p.modrm) (and_parts _ _ fine).1, widened s w wide q.0, of_place s p b y q.1, word_of s p b y y_below q.2)
  moved_to Cd fine e = let q = and_parts _ _ e in let g = four_of s p b y q.1 in (fine, doubled s w q.0, g.0, g.1)
  moved_to Dd fine e = let q = and_parts _ _ e in let g = four_of s p b y q.1 in (debugs (reg_of p.modrm) (omega arith) fine, doubled s w q.0, g.0, g.1)
  moved_to _ fine e = absurd cc

  moved_from : (form : Form) → form_allows form p.modrm ≡ true → moves_from w a form ≡ true → IsMove (operand s p a x) (operand s p form y) (size_of s w)
  moved_from S fine e =
      let q = three_parts _ _ _ e in
      from_segment (operand s p a x) (reg_of p.modrm) (size_of s w) (widened s w wide q.0) (of_place s p a x q.1) (word_of s p a x x_below q.2)
  moved_from Cd fine e = let q = and_parts _ _ e in from_control (operand s p a x) (reg_of p.modrm) (size_of s w) fine (doubled s w q.0) (four_of s p a x q.1)
  moved_from Dd fine e = let q = and_parts _ _ e in from_debug (operand s p a x) (reg_of p.modrm) (size_of s w) (debugs (reg_of p.modrm) (omega arith) fine) (doubled s w q.0) (four_of s p a x q.1)
  moved_from _ fine e = absurd cc

  apart : (meets is_plain a || meets is_plain b) ≡ true → (is_plain (operand s p a x) || is_plain (operand s p b y)) ≡ true
  apart e = more_either (meets is_plain a) (meets is_plain b) (is_plain (operand s p a x)) (is_plain (operand s p b y)) (of_plain s p a x) (of_plain s p b y) e

  moved : moves w a b ≡ true → IsMove (operand s p a x) (operand s p b y) (size_of s w)
  moved e = either (moves_to w a b) _ (IsMove (operand s p a x) (operand s p b y) (size_of s w)) (moved_to a allowed)
      (either (moves_from w a b) _ (IsMove (operand s p a x) (operand s p b y) (size_of s w)) (moved_from b second)
      (λ rest. let q = three_parts _ _ _ rest in
      move_between (operand s p a x) (operand s p b y) (size_of s w) (part_of s p w a x wide x_below RegMem q.0) (part_of s p w b y wide y_below Value q.1) (apart q.2))) e

  shaped : (k : Insn) → k.size ≡ size_of s w → k.a ≡ operand s p a x → k.b ≡ operand s p b y → k.c ≡ operand s p c z
      → (shape : Shape) → has_shape shape w a b c ≡ true → IsShape shape k
  shaped k i j l m (Takes one two three) e =
      let q = three_parts _ _ _ e in
      rw (i, j, l, m) (part_of s p w a x wide x_below one q.0, part_of s p w b y wide y_below two q.1, part_of s p w c z wide z_below three q.2)
  shaped k i j l m (Wide shape) e = let q = and_parts _ _ e in (rw i (widened s w wide q.0), shaped k i j l m shape q.1)
  shaped k i j l m (Apart shape) e = let q = and_parts _ _ e in (rw (j, l) (apart q.0), shaped k i j l m shape q.1)
  shaped k i j l m (OnCondition number shape) e = let q = and_parts _ _ e in (below number 16 q.0, shaped k i j l m shape q.1)
  shaped k i j l m Moves e = let q = and_parts _ _ e in rw (i, j, l, m) (moved q.0, of_nothing s p c z q.1)

both_allowed : (s : Setting) (r : Row) (m : ℕ) → allows s r m ≡ true → (form_allows r.a m ≡ true) × (form_allows r.b m ≡ true)
both_allowed s r m e = let q = three_parts (form_allows r.a m) (form_allows r.b m) (not s.lock || (lockable r && nat_lt (mod_of m) 3)) e in (q.0, q.1)

spelt_row_formed : (s : Setting) (bytes : List ℕ) (insn : Insn) → s.size ≢ B1 → IsBytes bytes → (q : SpeltRow s bytes insn) → is_formed q.row ≡ true → IsFormed insn
spelt_row_formed s bytes insn wide fit q tested =
    let r = q.row in
    let p : Place = place s (little (opcode_last q.opcode)) (little q.modrm) (little q.sib) (little q.disp) in
    let i : Insn = insn_of s r p (little q.x) (little q.y) (little q.z) in
    let all_fit = subst (λ (k : List ℕ). IsBytes k) q.whole fit in
    let x_fit = fit_back q.disp (q.x ++ (q.y ++ q.z)) (fit_back q.sib _ (fit_back q.modrm _ (fit_back q.opcode _ all_fit))) in
    let y_fit = fit_back q.x (q.y ++ q.z) x_fit in
    let z_fit = fit_back q.y q.z y_fit in
    let x_below = little_below q.x (q.y ++ q.z) (own_len s r.a) q.x_length x_fit in
    let y_below = little_below q.y q.z (own_len s r.b) q.y_length y_fit in
    let z_below = little_below q.z [] (own_len s r.c) q.z_length (subst (λ (k : List ℕ). IsBytes k) (sym (append-nil q.z)) z_fit) in
    let fine = both_allowed s r (little q.modrm) q.allowed in
    let all : IsFormed i = shaped s p (little q.x) (little q.y) (little q.z) r.width r.a r.b r.c wide fine.0 fine.1 x_below y_below z_below i refl refl refl refl (shape_of r.op) tested in
    subst (λ (k : Insn). IsFormed k) (sym q.insn_is) all

-- what some bytes spell has the operands that its mnemonic takes
pub spelt_formed : (bytes : List ℕ) (big : Bool) (insn : Insn) → Spelt bytes big insn → IsFormed insn
spelt_formed bytes big insn h =
    let rest : IsBytes h.rest = fit_back h.prefixes h.rest (subst (λ (z : List ℕ). IsBytes z) h.whole h.bytes_fit) in
    spelt_row_formed (setting big h.prefixes) h.rest insn (setting_size big h.prefixes) rest h.row (row_formed h)

pub ruleset forms = (rules, spelt_formed)
