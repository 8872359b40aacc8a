-- The breakpoints that the debug registers name. Manual, chapter 12.
-- Own: Breakpoints of undefined kinds and lengths.
use Rattle.std.specs.Prelude.{ℕ, ◌+◌, ◌*◌, ◌/◌, ◌%◌, ◌^◌, ◌==◌, ◌&&◌, ◌||◌, Bool, if◌then◌else◌, List, [], ◌∷◌, slice_index, bit_or}
use Rattle.mdl_state.specs.declared.Size.{Size}
use Rattle.mdl_state.specs.declared.Size.TheVariants.{B1, B2, B4}
use Rattle.mdl_state.specs.declared.Regs.{Regs}
use Rattle.mdl_state.specs.declared.Watch.{Watch}
use Rattle.mdl_state.specs.Bytes.{bit, bytes_of}
use Rattle.mdl_state.specs.Watches.{watch_start, overlaps}

-- L or G of a breakpoint
abbrev pub is_enabled : Regs → ℕ → Bool
is_enabled r n = bit r.dr7 (2 * n) || bit r.dr7 (2 * n + 1)

-- R/W of a breakpoint: 0 where it breaks on execution, 1 on writes, 3 on reads and writes, 2 never
abbrev pub kind_of : Regs → ℕ → ℕ
kind_of r n = r.dr7 / 2 ^ (16 + 4 * n) % 4

-- LEN of a breakpoint: 0 for one byte, 1 for two, 3 for four
abbrev pub size_by : ℕ → Size
size_by len = if len == 1 then B2 else if len == 3 then B4 else B1

-- the bytes of a breakpoint, with its bit of DR6
abbrev pub breakpoint : Regs → ℕ → Watch
breakpoint r n = record { lin = slice_index r.dr n; size = size_by (r.dr7 / 2 ^ (18 + 4 * n) % 4); reads = kind_of r n == 3; bits = 2 ^ n }

-- the breakpoints with a test, in order
abbrev pub breakpoints_that : (ℕ → Bool) → Regs → List ℕ → List Watch
breakpoints_that wants r [] = []
breakpoints_that wants r (n ∷ ns) = if wants n then breakpoint r n ∷ breakpoints_that wants r ns else breakpoints_that wants r ns

-- those that are enabled for data
unfoldable pub data_breakpoints : Regs → List Watch
data_breakpoints r = breakpoints_that (λ n. is_enabled r n && (kind_of r n == 1 || kind_of r n == 3)) r (0 ∷ 1 ∷ 2 ∷ 3 ∷ [])

-- those that are enabled for execution
abbrev pub execution_breakpoints : Regs → List Watch
execution_breakpoints r = breakpoints_that (λ n. is_enabled r n && kind_of r n == 0) r (0 ∷ 1 ∷ 2 ∷ 3 ∷ [])

-- the bits of those in which a byte lies
abbrev pub bits_at : List Watch → ℕ → ℕ
bits_at [] lin = 0
bits_at (w ∷ ws) lin = if overlaps lin 1 (watch_start w) (bytes_of w.size) then bit_or w.bits (bits_at ws lin) else bits_at ws lin

-- the bits of DR6 of the execution breakpoints that the first byte of an instruction meets
unfoldable pub execution_hits : Regs → ℕ → ℕ
execution_hits r lin = bits_at (execution_breakpoints r) lin
