-- Pulses of one counter alone, which the others do not touch. 8254 data sheet.
use Rattle.std.specs.Prelude.{ℕ, zero, suc, ◌&&◌, ◌||◌, not, Bool, false, if◌then◌else◌}
use Rattle.mdl_dev.specs.declared.pit.Mode.{Mode}
use Rattle.mdl_dev.specs.declared.pit.Mode.TheVariants.{TerminalCount, OneShot, RateGenerator, SquareWave, SoftwareStrobe, HardwareStrobe}
use Rattle.mdl_dev.specs.declared.pit.Counter.{Counter}
use Rattle.mdl_dev.specs.Modes.{pulsed, last_of_half}

-- so many pulses of a counter, with its gate low or high
unfoldable pub counter_pulses : Bool → ℕ → Counter → Counter
counter_pulses gate zero c = c
counter_pulses gate (suc n) c = pulsed gate (counter_pulses gate n c)

-- OUT rises in the next pulse
abbrev pub rises_next : Bool → Counter → Bool
rises_next gate c = not c.out && (pulsed gate c).out

-- OUT rises in one of so many pulses
unfoldable pub counter_has_risen : Bool → ℕ → Counter → Bool
counter_has_risen gate zero c = false
counter_has_risen gate (suc n) c = counter_has_risen gate n c || rises_next gate (counter_pulses gate n c)

-- by how much a pulse lowers the value
abbrev pub step_of : Mode → ℕ
step_of SquareWave = 2
step_of mode = 1

-- a strobe that is low ends in the next pulse
abbrev pub strobe_floor : Counter → ℕ
strobe_floor c = if c.out then 1 else c.value

-- down to this value pulses lower the value and do nothing else
abbrev pub quiet_floor : Mode → Counter → ℕ
quiet_floor TerminalCount c = 1
quiet_floor OneShot c = 1
quiet_floor RateGenerator c = 2
quiet_floor SquareWave c = last_of_half c
quiet_floor SoftwareStrobe c = strobe_floor c
quiet_floor HardwareStrobe c = strobe_floor c
