-- Where the machine stands, and the code at a linear address: its bytes by the page tables as they stand, read in the size of CS.
-- Manual, chapters 5 and 16. Own: The answers of the monitor
use Rattle.std.specs.Prelude.{◌≡◌, ◌≢◌, ◌⊎◌, ◌<◌, ◌≤◌, ◌+◌, ◌%◌, ◌^◌, ℕ, zero, suc, List, [], ◌∷◌, ◌++◌, length, take, slice_index, Some, None, codes}
use Rattle.std.specs.Fmt.{decimal}
use Rattle.mdl_board.specs.Board.{BoardState}
use Rattle.mdl_insn.specs.Listing.{Front, Whole, Undefined, TooLong, Short, StandsAt, covered, bytes_text}
use Rattle.mdl_insn.specs.Text.{hex, print_text}
use Rattle.mdl_state.specs.declared.Activity.{Activity}
use Rattle.mdl_state.specs.declared.Activity.TheVariants.{Running, Halted, Shutdown}
use Rattle.mdl_state.specs.declared.Seg.TheVariants.{Cs}
use Rattle.mdl_state.specs.Machine.{Machine}
use Rattle.mdl_state.specs.Registers.{seg_of}
use Rattle.mdl_state.specs.State.{Mem}
use Rattle.mdl_step.specs.Computer.{linear_byte}
use Rattle.mdl_step.specs.Fetching.{is_wide}
use Rattle.monitor.specs.Moves.{code_address}

-- ---- the code at a linear address

-- The bytes from a linear address on: fifteen, or those before the first that has no page. Behind the last address comes 0.
pub record IsCode (m : Mem) (at : ℕ) (code : List ℕ) : Type 0 where
  pub each : (i : ℕ) → i < length code → linear_byte m ((at + i) % 2 ^ 32) ≡ Some (slice_index code i)
  pub most : length code ≤ 15
  pub ends : length code < 15 → linear_byte m ((at + length code) % 2 ^ 32) ≡ None

-- the text of what stands in front of some code, of which the first byte has this address
abbrev pub code_text : Front → ℕ → List ℕ
code_text (Whole insn n) at = print_text insn ((at + n) % 2 ^ 32)
code_text Undefined at = codes "undefined"
code_text TooLong at = codes "too long"
code_text Short at = codes "no page"

-- this stands at a linear address; code that goes on behind the bytes that have a page is short
pub record Stands (m : Machine BoardState) (at : ℕ) (code : List ℕ) (front : Front) : Type 0 where
  pub is_code : IsCode m.state.mem at code
  pub stands : StandsAt code (is_wide m.state.core.regs) front

-- ---- a place

-- what is said of a place: what the processor does where it does not run, and else the instruction, whose branch leads to an EIP
abbrev pub IsWord : Activity → Machine BoardState → List ℕ → Type 0
IsWord Halted m word = word ≡ codes "halted"
IsWord Shutdown m word = word ≡ codes "shutdown"
IsWord Running m word = (code : List ℕ) × (front : Front) × Stands m (code_address m.state.core.regs) code front × (word ≡ code_text front m.state.core.regs.eip)

-- the count of steps, CS and EIP, and the word
pub record IsPlace (m : Machine BoardState) (line : List ℕ) : Type 0 where
  pub word : List ℕ
  pub is_word : IsWord m.state.core.activity m word
  pub written : line ≡ decimal m.state.core.steps ++ codes " " ++ hex 4 (seg_of m.state.core.regs Cs).sel ++ codes ":" ++ hex 8 m.state.core.regs.eip ++ codes " " ++ word ++ 0x0A ∷ []

-- ---- a listing

-- the line of what stands at a linear address, and how many bytes it covers
pub record IsCodeLine (m : Machine BoardState) (at : ℕ) (line : List ℕ) (n : ℕ) : Type 0 where
  pub code : List ℕ
  pub front : Front
  pub stands : Stands m at code front
  pub paged : front ≢ Short
  pub written : line ≡ hex 8 at ++ codes " " ++ bytes_text (take (covered front code) code) ++ codes " " ++ code_text front at ++ 0x0A ∷ []
  pub count : n ≡ covered front code

-- a byte that decoding needs has no page
abbrev pub HasNoPage : Machine BoardState → ℕ → Type 0
HasNoPage m at = (code : List ℕ) × Stands m at code Short

-- the lines of what stands at a linear address and behind, so many of them, or up to where there is no page
abbrev pub ListsAt : Machine BoardState → ℕ → ℕ → List ℕ → Type 0
ListsAt m zero at text = text ≡ []
ListsAt m (suc count) at text =
    (HasNoPage m at × (text ≡ codes "no page\n"))
    ⊎ ((line rest : List ℕ) × (n : ℕ) × IsCodeLine m at line n × (text ≡ line ++ rest) × ListsAt m count ((at + n) % 2 ^ 32) rest)
