use Rattle.std.proofs.Common.{◌≡◌, ◌≤◌, ◌+◌, ◌-◌, ◌*◌, ◌/◌, min, ℕ, true, IsTrue, sym, ap, ◌∙◌, arith, subst, refl}
use Rattle.mdl_dev.specs.declared.pit.Counter.{Counter}
use Rattle.mdl_dev.specs.declared.pit.Mode.{Mode}
use Rattle.mdl_dev.specs.Counter.{mode_of}
use Rattle.mdl_dev.specs.PitImage.{is_in_range}
use Rattle.pic_pit.specs.Bursts.{quiet_floor, step_of}
use Rattle.pic_pit.proofs.Periods.{no_pulses}
use Rattle.pic_pit.proofs.Quiet.{at, none_quiet, quiet_pulses, quiet_risen, quiet_range, steps_fit}
use Rattle.pic_pit.proofs.bursts.lower_quietly.Goals as goal

pub returns-then-counter-floor-clause-quiet : goal.returns-then-counter-floor-clause-quiet
returns-then-counter-floor-clause-quiet c = none_quiet true c.args.counter.now

pub returns-then-counter-floor-clause-new : goal.returns-then-counter-floor-clause-new
returns-then-counter-floor-clause-new c = no_pulses true c.args.counter.now

chosen : (c : Counter) (m : Mode) (floor step k most : ℕ) → m ≡ mode_of c.control → floor ≡ quiet_floor m c → step ≡ step_of m → k ≡ min ((c.value - floor) / step) most →
    k ≡ min ((c.value - quiet_floor (mode_of c.control) c) / step_of (mode_of c.control)) most
chosen c m floor step k most is low by made =
    made ∙ ap (λ (s : ℕ). min ((c.value - floor) / s) most) (by ∙ ap step_of is)
    ∙ ap (λ (f : ℕ). min ((c.value - f) / step_of (mode_of c.control)) most) (low ∙ ap (λ (n : Mode). quiet_floor n c) is)

-- what was passed over ends at the floor or above it
passed : (c : Counter) (m : Mode) (floor step k most : ℕ) → m ≡ mode_of c.control → floor ≡ quiet_floor m c → step ≡ step_of m → floor ≤ c.value → k ≡ min ((c.value - floor) / step) most →
    quiet_floor (mode_of c.control) c + step_of (mode_of c.control) * k ≤ c.value
passed c m floor step k most is low by h made =
    steps_fit (mode_of c.control) (quiet_floor (mode_of c.control) c) c.value k most
    (subst (λ (f : ℕ). f ≤ c.value) (low ∙ ap (λ (n : Mode). quiet_floor n c) is) h)
    (chosen c m floor step k most is low by made)

pub returns-clause-quiet : goal.returns-clause-quiet
returns-clause-quiet c =
    let fits = passed c.args.counter.now c.mode_of-mode.result c.quiet_floor-floor.result c.step_of-step.result c.min-passed.result c.args.most
    c.mode_of-mode.ensures c.quiet_floor-floor.ensures c.step_of-step.ensures.value (grind (arith, c.if-counter-floor.false)) c.min-passed.ensures in
    quiet_risen c.args.counter.now c.min-passed.result c.requires.stage fits

pub returns-clause-new : goal.returns-clause-new
returns-clause-new c =
    let fits = passed c.args.counter.now c.mode_of-mode.result c.quiet_floor-floor.result c.step_of-step.result c.min-passed.result c.args.most
    c.mode_of-mode.ensures c.quiet_floor-floor.ensures c.step_of-step.ensures.value (grind (arith, c.if-counter-floor.false)) c.min-passed.ensures in
    ap (λ (s : ℕ). at c.args.counter.now (c.args.counter.now.value - s * c.min-passed.result)) (c.step_of-step.ensures.value ∙ ap step_of c.mode_of-mode.ensures)
    ∙ sym (quiet_pulses c.args.counter.now c.min-passed.result c.requires.stage fits)

above : (f s k v : ℕ) → f + s * k ≤ v → f ≤ v - s * k
above f s k v h = omega arith

pub returns-clause-range : goal.returns-clause-range
returns-clause-range c =
    let fits = passed c.args.counter.now c.mode_of-mode.result c.quiet_floor-floor.result c.step_of-step.result c.min-passed.result c.args.most
    c.mode_of-mode.ensures c.quiet_floor-floor.ensures c.step_of-step.ensures.value (grind (arith, c.if-counter-floor.false)) c.min-passed.ensures in
    let step = c.step_of-step.ensures.value ∙ ap step_of c.mode_of-mode.ensures in
    subst (λ (s : ℕ). IsTrue (is_in_range (at c.args.counter.now (c.args.counter.now.value - s * c.min-passed.result)))) (sym step)
    (quiet_range c.args.counter.now _ c.min-passed.result c.requires.stage (above _ (step_of (mode_of c.args.counter.now.control)) c.min-passed.result c.args.counter.now.value fits) refl c.requires.range)
