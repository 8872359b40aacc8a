-- One counter of the timer: its control word, and the bytes of its counts. 8254 data sheet.
-- Own: Digits above 9 in a BCD count. Own: The byte that stops mode 0. Own: The status of a counter.
-- Own: Bytes behind a flag that is clear.
use Rattle.std.specs.Prelude.{ℕ, ◌+◌, ◌*◌, ◌/◌, ◌%◌, ◌==◌, Bool, true, false, if◌then◌else◌}
use Rattle.mdl_dev.specs.declared.pit.Mode.{Mode}
use Rattle.mdl_dev.specs.declared.pit.Mode.TheVariants.{TerminalCount, OneShot, RateGenerator, SquareWave, SoftwareStrobe, HardwareStrobe}
use Rattle.mdl_dev.specs.declared.pit.AccessForm.{AccessForm}
use Rattle.mdl_dev.specs.declared.pit.AccessForm.TheVariants.{LowByte, HighByte, LowThenHigh}
use Rattle.mdl_dev.specs.declared.pit.Stage.{Stage}
use Rattle.mdl_dev.specs.declared.pit.Stage.TheVariants.{Stopped, Loading, Waiting}
use Rattle.mdl_dev.specs.declared.pit.Counter.{Counter}

-- ---- the control word

-- bits 3 to 1: the mode, where 6 and 7 are 2 and 3
abbrev pub mode_of : ℕ → Mode
mode_of control =
    if control / 2 % 8 == 0 then TerminalCount
    else if control / 2 % 8 == 1 then OneShot
    else if control / 2 % 4 == 2 then RateGenerator
    else if control / 2 % 4 == 3 then SquareWave
    else if control / 2 % 8 == 4 then SoftwareStrobe
    else HardwareStrobe

-- bits 5 and 4: the low byte, the high byte, or both
abbrev pub access_of : ℕ → AccessForm
access_of control =
    if control / 16 % 4 == 1 then LowByte
    else if control / 16 % 4 == 2 then HighByte
    else LowThenHigh

-- bit 0: four decimal digits in place of 16 bits
abbrev pub is_bcd : ℕ → Bool
is_bcd control = control % 2 == 1

-- how many counts there are
abbrev pub modulus_of : Bool → ℕ
modulus_of false = 65536
modulus_of true = 10000

-- ---- numbers and their bytes

-- the sum of four digits, each at its place
abbrev pub digits_sum : ℕ → ℕ
digits_sum word = 1000 * (word / 4096) + 100 * (word / 256 % 16) + 10 * (word / 16 % 16) + word % 16

-- the four digits of a number below 10,000
abbrev pub digits_of : ℕ → ℕ
digits_of n = 4096 * (n / 1000) + 256 * (n / 100 % 10) + 16 * (n / 10 % 10) + n % 10

-- a count of 0 is the modulus itself
abbrev pub full : Bool → ℕ → ℕ
full bcd n = if n == 0 then modulus_of bcd else n

-- the count that is written as 16 bits
abbrev pub count_of : Bool → ℕ → ℕ
count_of false word = full false word
count_of true word = full true (digits_sum word % 10000)

-- the 16 bits as which a count is read
abbrev pub word_of : Bool → ℕ → ℕ
word_of false n = n % 65536
word_of true n = digits_of (n % 10000)

-- ---- a control word

-- OUT after a control word: low in mode 0 alone
abbrev pub starts_high : Mode → Bool
starts_high TerminalCount = false
starts_high mode = true

-- a control word sets up the counter, which then has no count, no latch and no half of one
abbrev pub set_up : Counter → ℕ → Counter
set_up c control = record c {
  control = control;
  out = starts_high (mode_of control);
  null = true;
  stage = Stopped;
  low_written = false;
  high_next = false;
  count_latched = false;
  status_latched = false;
  written = 0;
}

-- ---- a count is written

-- the first byte of a count, or its only one, stops mode 0 and makes OUT low
abbrev pub first_byte : Mode → Counter → Counter
first_byte TerminalCount c = record c { out = false; stage = Stopped }
first_byte mode c = c

-- a counter that had no count waits now for the pulse that loads it, or for a rise of its gate
abbrev pub if_stopped : Stage → Stage → Stage
if_stopped Stopped next = next
if_stopped stage next = stage

-- what a whole count is followed by
abbrev pub stage_after_count : Mode → Stage → Stage
stage_after_count TerminalCount stage = Loading
stage_after_count OneShot stage = if_stopped stage Waiting
stage_after_count RateGenerator stage = if_stopped stage Loading
stage_after_count SquareWave stage = if_stopped stage Loading
stage_after_count SoftwareStrobe stage = Loading
stage_after_count HardwareStrobe stage = if_stopped stage Waiting

-- a whole count is written
abbrev pub count_written : Counter → ℕ → Counter
count_written c word = record c {
  null = true;
  stage = stage_after_count (mode_of c.control) c.stage;
  written = count_of (is_bcd c.control) word;
}

-- a byte written to the counter's port
abbrev pub byte_written_as : AccessForm → Counter → ℕ → Counter
byte_written_as LowByte c byte = count_written (first_byte (mode_of c.control) c) byte
byte_written_as HighByte c byte = count_written (first_byte (mode_of c.control) c) (256 * byte)
byte_written_as LowThenHigh c byte =
    if c.low_written then count_written (record c { low_written = false }) (c.low + 256 * byte)
    else record (first_byte (mode_of c.control) c) { low_written = true; low = byte }

abbrev pub byte_written : Counter → ℕ → Counter
byte_written c byte = byte_written_as (access_of c.control) c byte

-- ---- a count is latched and read

-- 1 or 0
abbrev pub flag : Bool → ℕ
flag false = 0
flag true = 1

-- OUT, null count, and the control word
abbrev pub status_of : Counter → ℕ
status_of c = 128 * flag c.out + 64 * flag c.null + c.control

-- a latch that was not read stays
abbrev pub count_latched : Counter → Counter
count_latched c =
    if c.count_latched then c
    else record c { count_latched = true; latched_count = word_of (is_bcd c.control) c.value }

abbrev pub status_latched : Counter → Counter
status_latched c =
    if c.status_latched then c
    else record c { status_latched = true; latched_status = status_of c }

-- the count that is read: the latched one, else the one that runs
abbrev pub word_read : Counter → ℕ
word_read c = if c.count_latched then c.latched_count else word_of (is_bcd c.control) c.value

-- the byte of it
abbrev pub byte_of : AccessForm → Bool → ℕ → ℕ
byte_of LowByte high word = word % 256
byte_of HighByte high word = word / 256
byte_of LowThenHigh high word = if high then word / 256 else word % 256

-- a read of the counter's port gives a latched status first
abbrev pub byte_read : Counter → ℕ
byte_read c =
    if c.status_latched then c.latched_status
    else byte_of (access_of c.control) c.high_next (word_read c)

-- a latched count is gone when its last byte is read
abbrev pub count_read : AccessForm → Counter → Counter
count_read LowByte c = record c { count_latched = false }
count_read HighByte c = record c { count_latched = false }
count_read LowThenHigh c =
    if c.high_next then record c { high_next = false; count_latched = false }
    else record c { high_next = true }

-- the counter behind a read
abbrev pub after_read : Counter → Counter
after_read c =
    if c.status_latched then record c { status_latched = false }
    else count_read (access_of c.control) c
