use Rattle.std.proofs.Common.{◌≡◌, ◌≤◌, ℕ, Bool, true, false, IsTrue, arith, sym, subst}
use Rattle.std.proofs.lemmas.Bool.Decides.{nat_tests}
use Rattle.mdl_dev.specs.declared.pit.Mode.{Mode}
use Rattle.mdl_dev.specs.declared.pit.Mode.TheVariants.{TerminalCount, OneShot, RateGenerator, SquareWave, SoftwareStrobe, HardwareStrobe}
use Rattle.mdl_dev.specs.declared.pit.Stage.TheVariants.{Loading, Counting}
use Rattle.mdl_dev.specs.declared.pit.Counter.{Counter}
use Rattle.mdl_dev.specs.Counter.{mode_of, is_bcd, modulus_of, count_of, count_written}
use Rattle.mdl_dev.specs.Modes.{loading, square}
use Rattle.mdl_dev.specs.PitImage.{is_in_range, is_within}

-- the highest count is from 2 to 65,536
modulus : (bcd : Bool) → (2 ≤ modulus_of bcd) × (modulus_of bcd ≤ 65536)
modulus false = (omega arith, omega arith)
modulus true = (omega arith, omega arith)

-- a whole count stays in the ranges
pub count_stays : (c : Counter) (word : ℕ) → IsTrue (is_in_range c) → 1 ≤ count_of (is_bcd c.control) word → count_of (is_bcd c.control) word ≤ modulus_of (is_bcd c.control) → IsTrue (is_in_range (count_written c word))
unfolding is_in_range
count_stays c word range least most = grind (arith, nat_tests, modulus (is_bcd c.control))

-- a pulse that loads stays in the ranges
pub loading_stays : (mode : Mode) (c : Counter) → c.stage ≡ Loading → IsTrue (is_within mode c) → IsTrue (is_within mode (loading mode c))
loading_stays TerminalCount c stage range = grind (arith, nat_tests, modulus (is_bcd c.control))
loading_stays OneShot c stage range = grind (arith, nat_tests, modulus (is_bcd c.control))
loading_stays RateGenerator c stage range = grind (arith, nat_tests, modulus (is_bcd c.control))
loading_stays SquareWave c stage range = grind (arith, nat_tests, modulus (is_bcd c.control))
loading_stays SoftwareStrobe c stage range = grind (arith, nat_tests, modulus (is_bcd c.control))
loading_stays HardwareStrobe c stage range = grind (arith, nat_tests, modulus (is_bcd c.control))

-- so does one of a running square wave
pub square_stays : (c : Counter) → c.stage ≡ Counting → IsTrue (is_within SquareWave c) → IsTrue (is_within SquareWave (square c))
square_stays c stage range = grind (arith, nat_tests, modulus (is_bcd c.control))

-- the mode is that of the control word
pub range_by_mode : (c d : Counter) → d.control ≡ c.control → IsTrue (is_within (mode_of c.control) d) → IsTrue (is_in_range d)
unfolding is_in_range
range_by_mode c d same range = subst (λ (n : ℕ). IsTrue (is_within (mode_of n) d)) (sym same) range
