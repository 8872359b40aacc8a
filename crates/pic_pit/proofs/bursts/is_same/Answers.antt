use Rattle.std.proofs.Common.{rules, ◌≡◌, ◌&&◌, ℕ, Bool, true, false, refl, sym, ◌∙◌}
use denote.Enum.Bare.{same_true}
use mathlib.Core.Bool.{beq}
use Rattle.std.proofs.lemmas.Bool.{eqb-true, false≢true}
use Rattle.mdl_dev.specs.contracts.pit.Stage.{the_type}
use Rattle.mdl_dev.specs.declared.pit.Stage.{Stage}
use Rattle.mdl_dev.specs.declared.pit.Counter.{Counter}
use Rattle.pic_pit.proofs.bursts.is_same.Goals as goal

flags : (a b : Bool) → beq a b ≡ true → a ≡ b
flags true true h = refl
flags true false h = sym h
flags false true h = h
flags false false h = refl

parts : (a b : Bool) → (a && b) ≡ true → (a ≡ true) × (b ≡ true)
parts true b h = (refl, h)
parts false b h = absurd (false≢true h)

-- a counter is its registers
made : (x1 y1 : ℕ) (x2 y2 : Bool) (x3 y3 : Bool) (x4 y4 : Stage) (x5 y5 : Bool) (x6 y6 : ℕ) (x7 y7 : Bool) (x8 y8 : Bool) (x9 y9 : ℕ) (x10 y10 : Bool) (x11 y11 : ℕ) (x12 y12 : ℕ) (x13 y13 : ℕ) (x14 y14 : ℕ) → x1 ≡ y1 → x2 ≡ y2 → x3 ≡ y3 → x4 ≡ y4 → x5 ≡ y5 → x6 ≡ y6 → x7 ≡ y7 → x8 ≡ y8 → x9 ≡ y9 → x10 ≡ y10 → x11 ≡ y11 → x12 ≡ y12 → x13 ≡ y13 → x14 ≡ y14 →
    ◌≡◌ {A = Counter} (record { control = x1; out = x2; null = x3; stage = x4; low_written = x5; low = x6; high_next = x7; count_latched = x8; latched_count = x9; status_latched = x10; latched_status = x11; written = x12; loaded = x13; value = x14 }) (record { control = y1; out = y2; null = y3; stage = y4; low_written = y5; low = y6; high_next = y7; count_latched = y8; latched_count = y9; status_latched = y10; latched_status = y11; written = y12; loaded = y13; value = y14 })
made x1 y1 x2 y2 x3 y3 x4 y4 x5 y5 x6 y6 x7 y7 x8 y8 x9 y9 x10 y10 x11 y11 x12 y12 x13 y13 x14 y14 h1 h2 h3 h4 h5 h6 h7 h8 h9 h10 h11 h12 h13 h14 = cc

pub returns : goal.returns
returns c is =
    let p1 = parts _ _ (sym c.eq.ensures ∙ is) in
    let p2 = parts _ _ p1.1 in
    let p3 = parts _ _ p2.1 in
    let p4 = parts _ _ p3.1 in
    let p5 = parts _ _ p4.1 in
    let p6 = parts _ _ p5.1 in
    let p7 = parts _ _ p6.1 in
    let p8 = parts _ _ p7.1 in
    let p9 = parts _ _ p8.1 in
    let p10 = parts _ _ p9.1 in
    let p11 = parts _ _ p10.1 in
    let p12 = parts _ _ p11.1 in
    let p13 = parts _ _ p12.1 in
    made _ _ _ _ _ _ _ _ _ _ _ _ _ _ _ _ _ _ _ _ _ _ _ _ _ _ _ _
    (eqb-true _ _ p1.0)
    (flags _ _ p2.0)
    (flags _ _ p3.0)
    (same_true the_type (search rules) _ _ p4.0)
    (flags _ _ p5.0)
    (eqb-true _ _ p6.0)
    (flags _ _ p7.0)
    (flags _ _ p8.0)
    (eqb-true _ _ p9.0)
    (flags _ _ p10.0)
    (eqb-true _ _ p11.0)
    (eqb-true _ _ p12.0)
    (eqb-true _ _ p13.0)
    (eqb-true _ _ p13.1)
