-- Pulses that lower the value of a counter and do nothing else.
use Rattle.std.proofs.Common.{◌≡◌, ◌≤◌, ℕ, zero, suc, ◌+◌, ◌-◌, ◌*◌, ◌/◌, min, ◌&&◌, ◌||◌, not, Bool, true, false, IsTrue, refl, sym, ap, ◌∙◌, arith}
use Rattle.std.proofs.lemmas.Bool.Decides.{nat_tests}
use native.Mathlib.Nat.{mul-suc}
use Rattle.mdl_dev.specs.declared.pit.Mode.{Mode}
use Rattle.mdl_dev.specs.declared.pit.Mode.TheVariants.{TerminalCount, OneShot, RateGenerator, SquareWave, SoftwareStrobe, HardwareStrobe}
use Rattle.mdl_dev.specs.declared.pit.Stage.TheVariants.{Counting}
use Rattle.mdl_dev.specs.declared.pit.Counter.{Counter}
use Rattle.mdl_dev.specs.Counter.{mode_of}
use Rattle.mdl_dev.specs.Modes.{pulsed, counting}
use Rattle.mdl_dev.specs.PitImage.{is_in_range, is_within}
use Rattle.pic_pit.specs.Bursts.{counter_pulses, counter_has_risen, rises_next, step_of, quiet_floor}

-- the counter with another value
abbrev pub at : Counter → ℕ → Counter
at c v = record c { value = v }

-- one pulse above the floor
one_quiet : (mode : Mode) (c : Counter) (v : ℕ) → quiet_floor mode c + step_of mode ≤ v → v ≤ c.value → counting mode true (at c v) ≡ at c (v - step_of mode)
one_quiet TerminalCount c v h i = grind (arith, nat_tests)
one_quiet OneShot c v h i = grind (arith, nat_tests)
one_quiet RateGenerator c v h i = grind (arith, nat_tests)
one_quiet SquareWave c v h i = grind (arith, nat_tests)
one_quiet SoftwareStrobe c v h i = grind (arith, nat_tests)
one_quiet HardwareStrobe c v h i = grind (arith, nat_tests)

pulse_counts : (c : Counter) (v : ℕ) → c.stage ≡ Counting → pulsed true (at c v) ≡ counting (mode_of c.control) true (at c v)
pulse_counts c v stage = rw stage refl

above : (f s k v : ℕ) → f + s * suc k ≤ v → (f + s * k ≤ v) × (f + s ≤ v - s * k) × (v - s * k ≤ v) × (v - s * k - s ≡ v - s * suc k)
above f s k v h = (omega (arith, mul-suc s k), omega (arith, mul-suc s k), omega arith, omega (arith, mul-suc s k))

from_zero : (v s : ℕ) → v ≡ v - s * zero
from_zero v s = omega arith

start : (c : Counter) (s : ℕ) → c ≡ at c (c.value - s * zero)
start c s = ap (at c) (from_zero c.value s)

-- so many of them
pub quiet_pulses : (c : Counter) (k : ℕ) → c.stage ≡ Counting → quiet_floor (mode_of c.control) c + step_of (mode_of c.control) * k ≤ c.value →
    counter_pulses true k c ≡ at c (c.value - step_of (mode_of c.control) * k)
unfolding counter_pulses
quiet_pulses c zero stage h = start c (step_of (mode_of c.control))
quiet_pulses c (suc k) stage h =
    let a = above (quiet_floor (mode_of c.control) c) (step_of (mode_of c.control)) k c.value h in
    ap (pulsed true) (quiet_pulses c k stage a.0)
    ∙ pulse_counts c (c.value - step_of (mode_of c.control) * k) stage
    ∙ one_quiet (mode_of c.control) c (c.value - step_of (mode_of c.control) * k) a.1 a.2
    ∙ ap (at c) a.3

no_rise : (a b c : Bool) → a ≡ c → b ≡ c → (not a && b) ≡ false
no_rise true b c h i = refl
no_rise false b c h i = i ∙ sym h

or_neither : (a b : Bool) → a ≡ false → b ≡ false → (a || b) ≡ false
or_neither true b h i = h
or_neither false b h i = i

pub quiet_risen : (c : Counter) (k : ℕ) → c.stage ≡ Counting → quiet_floor (mode_of c.control) c + step_of (mode_of c.control) * k ≤ c.value →
    counter_has_risen true k c ≡ false
unfolding counter_has_risen counter_pulses
quiet_risen c zero stage h = refl
quiet_risen c (suc k) stage h =
    let a = above (quiet_floor (mode_of c.control) c) (step_of (mode_of c.control)) k c.value h in
    or_neither (counter_has_risen true k c) (rises_next true (counter_pulses true k c)) (quiet_risen c k stage a.0)
    (no_rise (counter_pulses true k c).out (counter_pulses true (suc k) c).out c.out
    (ap (λ (d : Counter). d.out) (quiet_pulses c k stage a.0))
    (ap (λ (d : Counter). d.out) (quiet_pulses c (suc k) stage h)))

-- they stay in the ranges
within : (mode : Mode) (c : Counter) (v k : ℕ) → c.stage ≡ Counting → quiet_floor mode c ≤ v → v ≡ c.value - step_of mode * k → IsTrue (is_within mode c) → IsTrue (is_within mode (at c v))
within TerminalCount c v k stage h is range = grind (arith, nat_tests)
within OneShot c v k stage h is range = grind (arith, nat_tests)
within RateGenerator c v k stage h is range = grind (arith, nat_tests)
within SquareWave c v k stage h is range = grind (arith, nat_tests)
within SoftwareStrobe c v k stage h is range = grind (arith, nat_tests)
within HardwareStrobe c v k stage h is range = grind (arith, nat_tests)

pub quiet_range : (c : Counter) (v k : ℕ) → c.stage ≡ Counting → quiet_floor (mode_of c.control) c ≤ v → v ≡ c.value - step_of (mode_of c.control) * k → IsTrue (is_in_range c) → IsTrue (is_in_range (at c v))
unfolding is_in_range
quiet_range c v k stage h is range = within (mode_of c.control) c v k stage h is range

-- the pulse behind them
next : (k : ℕ) → k + 1 ≡ suc k
next k = omega arith

pub pulse_behind : (gate : Bool) (k : ℕ) (c : Counter) → counter_pulses gate (k + 1) c ≡ pulsed gate (counter_pulses gate k c)
unfolding counter_pulses
pulse_behind gate k c = ap (λ (n : ℕ). counter_pulses gate n c) (next k)

pub risen_behind : (gate : Bool) (k : ℕ) (c : Counter) → counter_has_risen gate k c ≡ false → counter_has_risen gate (k + 1) c ≡ rises_next gate (counter_pulses gate k c)
unfolding counter_has_risen
risen_behind gate k c quiet = ap (λ (n : ℕ). counter_has_risen gate n c) (next k) ∙ ap (λ (b : Bool). b || rises_next gate (counter_pulses gate k c)) quiet

-- no pulses
pub none_quiet : (gate : Bool) (c : Counter) → counter_has_risen gate 0 c ≡ false
unfolding counter_has_risen
none_quiet gate c = refl

-- as many steps as fit above the floor
pub steps_fit : (mode : Mode) (floor value k most : ℕ) → floor ≤ value → k ≡ min ((value - floor) / step_of mode) most → floor + step_of mode * k ≤ value
steps_fit TerminalCount floor value k most h is = omega arith
steps_fit OneShot floor value k most h is = omega arith
steps_fit RateGenerator floor value k most h is = omega arith
steps_fit SquareWave floor value k most h is = omega arith
steps_fit SoftwareStrobe floor value k most h is = omega arith
steps_fit HardwareStrobe floor value k most h is = omega arith
