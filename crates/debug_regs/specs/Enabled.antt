-- One breakpoint more, before those of higher numbers. Manual, chapter 12.
use Rattle.std.specs.Prelude.{ℕ, ◌==◌, ◌&&◌, ◌||◌, if◌then◌else◌, List, ◌∷◌, bit_or}
use Rattle.mdl_state.specs.declared.Regs.{Regs}
use Rattle.mdl_state.specs.declared.Watch.{Watch}
use Rattle.mdl_state.specs.Bytes.{bytes_of}
use Rattle.mdl_state.specs.Watches.{watch_start, overlaps}
use Rattle.mdl_cpu.specs.Breakpoints.{is_enabled, kind_of, breakpoint}

-- the breakpoints with this one, where it is enabled for data
abbrev pub with_data : Regs → ℕ → List Watch → List Watch
with_data r n ws = if is_enabled r n && (kind_of r n == 1 || kind_of r n == 3) then breakpoint r n ∷ ws else ws

-- the bits with that of a breakpoint in which a byte lies
abbrev pub with_bits : Watch → ℕ → ℕ → ℕ
with_bits w lin bits = if overlaps lin 1 (watch_start w) (bytes_of w.size) then bit_or w.bits bits else bits

-- the bits with that of this one, where it is enabled for execution and the byte lies in it
abbrev pub with_execution : Regs → ℕ → ℕ → ℕ → ℕ
with_execution r n lin bits = if is_enabled r n && kind_of r n == 0 then with_bits (breakpoint r n) lin bits else bits
