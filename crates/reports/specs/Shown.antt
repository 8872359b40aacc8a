-- The report of a machine that is looked at: its state, and its screen registers. Own: The screen registers.
use Rattle.std.specs.Prelude.{ℕ, ◌+◌, ◌*◌, List}
use Rattle.mdl_dev.specs.Screen.{Screen}
use Rattle.mdl_state.specs.State.{State}
use Rattle.mdl_step.specs.Report.{report_text}

-- the cell where the screen starts
abbrev pub start_of : Screen → ℕ
start_of s = 0x100 * s.start_high + s.start_low

-- the cell of the cursor
abbrev pub cursor_of : Screen → ℕ
cursor_of s = 0x100 * s.cursor_high + s.cursor_low

-- the report, with the number of walks that the memory counted
abbrev pub report_of : State → Screen → List ℕ
report_of s screen = report_text s s.mem.walks (start_of screen) (cursor_of screen)
