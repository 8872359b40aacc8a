-- The six modes of a counter: one pulse of the clock, and a change of the gate. 8254 data sheet.
-- Own: A count of 1 in modes 2 and 3. Own: Counting on from 0. Own: Pulses without a count.
-- Own: A gate that rises before a count.
use Rattle.std.specs.Prelude.{ℕ, ◌-◌, ◌%◌, ◌==◌, ◌&&◌, not, Bool, true, false, if◌then◌else◌}
use Rattle.mdl_dev.specs.declared.pit.Mode.{Mode}
use Rattle.mdl_dev.specs.declared.pit.Mode.TheVariants.{TerminalCount, OneShot, RateGenerator, SquareWave, SoftwareStrobe, HardwareStrobe}
use Rattle.mdl_dev.specs.declared.pit.Stage.{Stage}
use Rattle.mdl_dev.specs.declared.pit.Stage.TheVariants.{Stopped, Loading, Counting, Waiting}
use Rattle.mdl_dev.specs.declared.pit.Counter.{Counter}
use Rattle.mdl_dev.specs.Counter.{mode_of, is_bcd, modulus_of}

-- ---- the count is loaded

-- a period of modes 2 and 3 has at least two pulses
abbrev pub period_of : ℕ → ℕ
period_of count = if count == 1 then 2 else count

-- the counter takes the count that was written; mode 3 counts by two, from an even number
abbrev pub taken : Mode → Counter → Counter
taken RateGenerator c = record c { null = false; loaded = period_of c.written; value = period_of c.written }
taken SquareWave c = record c { null = false; loaded = period_of c.written; value = period_of c.written - period_of c.written % 2 }
taken mode c = record c { null = false; loaded = c.written; value = c.written }

-- OUT at the pulse that loads: the pulse of mode 1 begins, and those of modes 4 and 5 end
abbrev pub out_at_load : Mode → Bool → Bool
out_at_load OneShot out = false
out_at_load SoftwareStrobe out = true
out_at_load HardwareStrobe out = true
out_at_load mode out = out

-- the pulse that loads
abbrev pub loading : Mode → Counter → Counter
loading mode c = record (taken mode c) { stage = Counting; out = out_at_load mode c.out }

-- ---- the count runs

-- down by one, and from 0 to the highest count
abbrev pub lowered : Counter → Counter
lowered c = record c { value = if c.value == 0 then modulus_of (is_bcd c.control) - 1 else c.value - 1 }

-- modes 0 and 1: OUT rises at 0
abbrev pub high_at_zero : Counter → Counter
high_at_zero c = if c.value == 0 then record c { out = true } else c

-- modes 4 and 5: OUT is low at 0, for one pulse
abbrev pub low_at_zero : Counter → Counter
low_at_zero c = record c { out = not (c.value == 0) }

-- mode 2: OUT is low at 1, for one pulse, and then the next period begins
abbrev pub rate : Counter → Counter
rate c =
    if c.value == 1 then record (taken RateGenerator c) { out = true }
    else record c { value = c.value - 1; out = not (c.value == 2) && c.out }

-- mode 3: the last count of a half period, which is one pulse longer where OUT is high in an odd one
abbrev pub last_of_half : Counter → ℕ
last_of_half c = if c.loaded % 2 == 1 && c.out then 0 else 2

abbrev pub square : Counter → Counter
square c =
    if c.value == last_of_half c then record (taken SquareWave c) { out = not c.out }
    else record c { value = c.value - 2 }

-- a pulse of a counter that is loaded, with its gate low or high
abbrev pub counting : Mode → Bool → Counter → Counter
counting TerminalCount gate c = if gate then high_at_zero (lowered c) else c
counting OneShot gate c = high_at_zero (lowered c)
counting RateGenerator gate c = if gate then rate c else c
counting SquareWave gate c = if gate then square c else c
counting SoftwareStrobe gate c = if gate then low_at_zero (lowered c) else record c { out = true }
counting HardwareStrobe gate c = low_at_zero (lowered c)

-- one pulse of the clock
abbrev pub pulsed_at : Stage → Bool → Counter → Counter
pulsed_at Stopped gate c = c
pulsed_at Loading gate c = loading (mode_of c.control) c
pulsed_at Counting gate c = counting (mode_of c.control) gate c
pulsed_at Waiting gate c = c

abbrev pub pulsed : Bool → Counter → Counter
pulsed gate c = pulsed_at c.stage gate c

-- ---- the gate changes

-- a rise of the gate has the count loaded again, where there is one
abbrev pub reload : Stage → Stage
reload Stopped = Stopped
reload stage = Loading

abbrev pub gate_rises : Mode → Counter → Counter
gate_rises TerminalCount c = c
gate_rises SoftwareStrobe c = c
gate_rises mode c = record c { stage = reload c.stage }

-- a fall of the gate makes OUT high at once in modes 2 and 3
abbrev pub gate_falls : Mode → Counter → Counter
gate_falls RateGenerator c = record c { out = true }
gate_falls SquareWave c = record c { out = true }
gate_falls mode c = c
