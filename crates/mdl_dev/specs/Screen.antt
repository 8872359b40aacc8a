-- The screen registers, four of a 6845's. Own: The screen registers.
use Rattle.std.specs.Prelude.{ℕ, ◌==◌, Bool, ◌||◌, if◌then◌else◌, List, [], ◌∷◌}
use Rattle.mdl_dev.specs.declared.screen.TheConstants.{INDEX_PORT, REGISTER_PORT, START_HIGH, START_LOW, CURSOR_HIGH, CURSOR_LOW}

-- the index, the cell where the screen starts and the cell of the cursor
pub record Screen : Type 0 where
  pub index : ℕ
  pub start_high : ℕ
  pub start_low : ℕ
  pub cursor_high : ℕ
  pub cursor_low : ℕ

-- all 0
abbrev pub boot_screen : Screen
boot_screen = record { index = 0; start_high = 0; start_low = 0; cursor_high = 0; cursor_low = 0 }

-- a port of this chip
abbrev pub is_screen_port : ℕ → Bool
is_screen_port port = (port == INDEX_PORT) || (port == REGISTER_PORT)

-- the register of a number; the others read 0
abbrev pub register_of : Screen → ℕ → ℕ
register_of s number =
    if number == START_HIGH then s.start_high
    else if number == START_LOW then s.start_low
    else if number == CURSOR_HIGH then s.cursor_high
    else if number == CURSOR_LOW then s.cursor_low
    else 0

-- a write to the register of a number; to the others it is lost
abbrev pub with_register : Screen → ℕ → ℕ → Screen
with_register s number value =
    if number == START_HIGH then record s { start_high = value }
    else if number == START_LOW then record s { start_low = value }
    else if number == CURSOR_HIGH then record s { cursor_high = value }
    else if number == CURSOR_LOW then record s { cursor_low = value }
    else s

-- what a read gives; the index reads as it was written
abbrev pub screen_input : Screen → ℕ → ℕ
screen_input s port = if port == INDEX_PORT then s.index else register_of s s.index

-- what a write leaves
abbrev pub screen_output : Screen → ℕ → ℕ → Screen
screen_output s port value = if port == INDEX_PORT then record s { index = value } else with_register s s.index value

-- the screen registers as 5 bytes
abbrev pub screen_image : Screen → List ℕ
screen_image s = s.index ∷ s.start_high ∷ s.start_low ∷ s.cursor_high ∷ s.cursor_low ∷ []
