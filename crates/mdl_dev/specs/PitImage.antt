-- The timer as 72 bytes, 24 a counter, little endian, and back. Own: Images of the chips.
use Rattle.std.specs.Prelude.{ℕ, ◌+◌, ◌*◌, ◌/◌, ◌%◌, ◌==◌, ◌&&◌, ◌||◌, nat_le, nat_lt, Bool, true, IsTrue, if◌then◌else◌, List, [], ◌∷◌, ◌++◌, slice_index, Option, Some, None}
use Rattle.mdl_dev.specs.declared.pit.Mode.{Mode}
use Rattle.mdl_dev.specs.declared.pit.Mode.TheVariants.{RateGenerator, SquareWave}
use Rattle.mdl_dev.specs.declared.pit.Stage.{Stage}
use Rattle.mdl_dev.specs.declared.pit.Stage.TheVariants.{Stopped, Loading, Counting, Waiting}
use Rattle.mdl_dev.specs.declared.pit.Counter.{Counter}
use Rattle.mdl_dev.specs.declared.pit.Timer.{Timer}
use Rattle.mdl_dev.specs.Counter.{mode_of, is_bcd, modulus_of, flag}

-- ---- ranges

-- in modes 2 and 3 a running count stays inside its period
abbrev pub is_in_period : Mode → Counter → Bool
is_in_period RateGenerator c = nat_le 2 c.loaded && nat_le 1 c.value && nat_le c.value c.loaded
is_in_period SquareWave c =
    nat_le 2 c.loaded && c.value % 2 == 0 && nat_le c.value c.loaded
    && (nat_le 1 c.value || c.loaded % 2 == 1 && c.out)
is_in_period mode c = true

-- a counter that loads, counts or waits has a count, and one that counts is within its limits
abbrev pub is_in_stage : Stage → Mode → Counter → Bool
is_in_stage Stopped mode c = true
is_in_stage Counting mode c =
    nat_le 1 c.written
    && nat_le c.loaded (modulus_of (is_bcd c.control))
    && nat_le c.value (modulus_of (is_bcd c.control))
    && is_in_period mode c
is_in_stage stage mode c = nat_le 1 c.written

abbrev pub is_within : Mode → Counter → Bool
is_within mode c =
    nat_le 16 c.control
    && nat_lt c.control 64
    && nat_le c.written (modulus_of (is_bcd c.control))
    && nat_le c.loaded 65536
    && nat_le c.value 65536
    && is_in_stage c.stage mode c

unfoldable pub is_in_range : Counter → Bool
is_in_range c = is_within (mode_of c.control) c

-- each counter is in its ranges
pub record IsSound (t : Timer) : Type 0 where
  pub counter0 : IsTrue (is_in_range t.counter0)
  pub counter1 : IsTrue (is_in_range t.counter1)
  pub counter2 : IsTrue (is_in_range t.counter2)

-- ---- to bytes

abbrev pub number_of : Stage → ℕ
number_of Stopped = 0
number_of Loading = 1
number_of Counting = 2
number_of Waiting = 3

abbrev pub counter_image : Counter → List ℕ
counter_image c =
    c.control ∷ flag c.out ∷ flag c.null ∷ number_of c.stage
    ∷ flag c.low_written ∷ c.low ∷ flag c.high_next
    ∷ flag c.count_latched ∷ c.latched_count % 256 ∷ c.latched_count / 256
    ∷ flag c.status_latched ∷ c.latched_status
    ∷ c.written % 256 ∷ c.written / 256 % 256 ∷ c.written / 65536 % 256 ∷ c.written / 16777216
    ∷ c.loaded % 256 ∷ c.loaded / 256 % 256 ∷ c.loaded / 65536 % 256 ∷ c.loaded / 16777216
    ∷ c.value % 256 ∷ c.value / 256 % 256 ∷ c.value / 65536 % 256 ∷ c.value / 16777216
    ∷ []

abbrev pub image : Timer → List ℕ
image t = counter_image t.counter0 ++ counter_image t.counter1 ++ counter_image t.counter2

-- ---- from bytes

abbrev pub stage_of : ℕ → Stage
stage_of n = if n == 0 then Stopped else if n == 1 then Loading else if n == 2 then Counting else Waiting

-- the numbers of two and of four bytes from a place on
abbrev pub word_at : List ℕ → ℕ → ℕ
word_at bytes at = slice_index bytes at + 256 * slice_index bytes (at + 1)

abbrev pub long_at : List ℕ → ℕ → ℕ
long_at bytes at = word_at bytes at + 65536 * word_at bytes (at + 2)

-- the counter whose 24 bytes stand from a place on
abbrev pub counter_at : List ℕ → ℕ → Counter
counter_at bytes at = record {
  control = slice_index bytes at;
  out = slice_index bytes (at + 1) == 1;
  null = slice_index bytes (at + 2) == 1;
  stage = stage_of (slice_index bytes (at + 3));
  low_written = slice_index bytes (at + 4) == 1;
  low = slice_index bytes (at + 5);
  high_next = slice_index bytes (at + 6) == 1;
  count_latched = slice_index bytes (at + 7) == 1;
  latched_count = word_at bytes (at + 8);
  status_latched = slice_index bytes (at + 10) == 1;
  latched_status = slice_index bytes (at + 11);
  written = long_at bytes (at + 12);
  loaded = long_at bytes (at + 16);
  value = long_at bytes (at + 20);
}

-- the stage is 0 to 3, and the flags are 0 or 1
abbrev pub has_kinds : List ℕ → ℕ → Bool
has_kinds bytes at =
    nat_lt (slice_index bytes (at + 1)) 2
    && nat_lt (slice_index bytes (at + 2)) 2
    && nat_lt (slice_index bytes (at + 3)) 4
    && nat_lt (slice_index bytes (at + 4)) 2
    && nat_lt (slice_index bytes (at + 6)) 2
    && nat_lt (slice_index bytes (at + 7)) 2
    && nat_lt (slice_index bytes (at + 10)) 2

abbrev pub is_counter_image : List ℕ → ℕ → Bool
is_counter_image bytes at = has_kinds bytes at && is_in_range (counter_at bytes at)

-- the timer of an image, with its gate handed in, where no range fails
abbrev pub from_image : List ℕ → Bool → Option Timer
from_image bytes gate2 =
    if is_counter_image bytes 0 && is_counter_image bytes 24 && is_counter_image bytes 48
    then Some (record { counter0 = counter_at bytes 0; counter1 = counter_at bytes 24; counter2 = counter_at bytes 48; gate2 = gate2 })
    else None
