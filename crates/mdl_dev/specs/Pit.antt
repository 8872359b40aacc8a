-- The timer: its ports, its gate, and pulses of its clock. 8254 data sheet.
-- Own: The ports of the timer. Own: The timer before any program. Own: Which rises of OUT count.
use Rattle.std.specs.Prelude.{ℕ, zero, suc, ◌/◌, ◌%◌, ◌==◌, ◌&&◌, ◌||◌, not, Bool, true, false, if◌then◌else◌, Option, Some, None}
use Rattle.mdl_dev.specs.declared.pit.Select.{Select}
use Rattle.mdl_dev.specs.declared.pit.Select.TheVariants.{Counter0, Counter1, Counter2}
use Rattle.mdl_dev.specs.declared.pit.Command.{Command}
use Rattle.mdl_dev.specs.declared.pit.Command.TheVariants.{CounterLatch, ControlWord, ReadBack}
use Rattle.mdl_dev.specs.declared.pit.Port.{Port}
use Rattle.mdl_dev.specs.declared.pit.Port.TheVariants.{Count, Control}
use Rattle.mdl_dev.specs.declared.pit.Stage.TheVariants.{Stopped}
use Rattle.mdl_dev.specs.declared.pit.Counter.{Counter}
use Rattle.mdl_dev.specs.declared.pit.Timer.{Timer}
use Rattle.mdl_dev.specs.Counter.{mode_of, set_up, byte_written, byte_read, after_read, count_latched, status_latched}
use Rattle.mdl_dev.specs.Modes.{pulsed, gate_rises, gate_falls}

-- ---- the counters

abbrev pub select_of : ℕ → Select
select_of n = if n == 0 then Counter0 else if n == 1 then Counter1 else Counter2

abbrev pub counter_of : Timer → Select → Counter
counter_of t Counter0 = t.counter0
counter_of t Counter1 = t.counter1
counter_of t Counter2 = t.counter2

-- one counter in the place of another
abbrev pub with_counter : Timer → Select → Counter → Timer
with_counter t Counter0 c = record t { counter0 = c }
with_counter t Counter1 c = record t { counter1 = c }
with_counter t Counter2 c = record t { counter2 = c }

-- mode 0, low then high byte, binary, and no count
abbrev pub boot_counter : Counter
boot_counter = record {
  control = 0x30;
  out = false;
  null = false;
  stage = Stopped;
  low_written = false;
  low = 0;
  high_next = false;
  count_latched = false;
  latched_count = 0;
  status_latched = false;
  latched_status = 0;
  written = 0;
  loaded = 0;
  value = 0;
}

abbrev pub boot : Timer
boot = record { counter0 = boot_counter; counter1 = boot_counter; counter2 = boot_counter; gate2 = false }

-- ---- ports

abbrev pub port_of : ℕ → Option Port
port_of port =
    if port == 0x40 then Some (Count Counter0)
    else if port == 0x41 then Some (Count Counter1)
    else if port == 0x42 then Some (Count Counter2)
    else if port == 0x43 then Some Control
    else None

-- bits 7 and 6 are the counter, or 3 in a read-back; bits 5 and 4 are 0 in a latch
abbrev pub command_of : ℕ → Command
command_of byte =
    if byte / 64 == 3 then ReadBack byte
    else if byte / 16 % 4 == 0 then CounterLatch (select_of (byte / 64))
    else ControlWord (select_of (byte / 64)) (byte % 64)

-- what a read-back latches of a counter that it chooses: bit 5 is 0 for the count, bit 4 for the status
abbrev pub read_back : ℕ → Counter → Counter
read_back byte c =
    let d = if byte / 32 % 2 == 0 then count_latched c else c in
    if byte / 16 % 2 == 0 then status_latched d else d

-- bit 1 chooses counter 0, bit 2 counter 1, bit 3 counter 2
abbrev pub read_back_all : ℕ → Timer → Timer
read_back_all byte t = record t {
  counter0 = if byte / 2 % 2 == 1 then read_back byte t.counter0 else t.counter0;
  counter1 = if byte / 4 % 2 == 1 then read_back byte t.counter1 else t.counter1;
  counter2 = if byte / 8 % 2 == 1 then read_back byte t.counter2 else t.counter2;
}

abbrev pub commanded : Timer → Command → Timer
commanded t (CounterLatch which) = with_counter t which (count_latched (counter_of t which))
commanded t (ControlWord which control) = with_counter t which (set_up (counter_of t which) control)
commanded t (ReadBack byte) = read_back_all byte t

-- a byte written to a port, and it is lost where the port is none of the timer's
abbrev pub written_to : Option Port → Timer → ℕ → Timer
written_to None t byte = t
written_to (Some Control) t byte = commanded t (command_of byte)
written_to (Some (Count which)) t byte = with_counter t which (byte_written (counter_of t which) byte)

abbrev pub written : Timer → ℕ → ℕ → Timer
written t port byte = written_to (port_of port) t byte

-- the byte that is read from a port: all ones from the control port, and where no counter is
abbrev pub read_from : Option Port → Timer → ℕ
read_from None t = 0xFF
read_from (Some Control) t = 0xFF
read_from (Some (Count which)) t = byte_read (counter_of t which)

abbrev pub read : Timer → ℕ → ℕ
read t port = read_from (port_of port) t

-- the timer behind a read
abbrev pub behind_read_from : Option Port → Timer → Timer
behind_read_from None t = t
behind_read_from (Some Control) t = t
behind_read_from (Some (Count which)) t = with_counter t which (after_read (counter_of t which))

abbrev pub behind_read : Timer → ℕ → Timer
behind_read t port = behind_read_from (port_of port) t

-- ---- the gate of counter 2

-- the gate as it was, and as it is set
abbrev pub gate_changed : Bool → Bool → Counter → Counter
gate_changed false false c = c
gate_changed false true c = gate_rises (mode_of c.control) c
gate_changed true false c = gate_falls (mode_of c.control) c
gate_changed true true c = c

abbrev pub gate_set : Timer → Bool → Timer
gate_set t high = record t { gate2 = high; counter2 = gate_changed t.gate2 high t.counter2 }

-- ---- pulses of the clock

-- one pulse, of all three counters
abbrev pub pulse : Timer → Timer
pulse t = record t {
  counter0 = pulsed true t.counter0;
  counter1 = pulsed true t.counter1;
  counter2 = pulsed t.gate2 t.counter2;
}

-- so many pulses, one after another
unfoldable pub pulses : ℕ → Timer → Timer
pulses zero t = t
pulses (suc n) t = pulse (pulses n t)

-- OUT 0 rises from one state to the next
abbrev pub rises : Timer → Timer → Bool
rises before after = not before.counter0.out && after.counter0.out

-- OUT 0 rises in one of so many pulses
unfoldable pub has_risen : ℕ → Timer → Bool
has_risen zero t = false
has_risen (suc n) t = has_risen n t || rises (pulses n t) (pulses (suc n) t)
