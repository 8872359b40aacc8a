-- The listing of bytes.
-- Own: The listing goes on behind one byte.
use Rattle.std.specs.Prelude.{ℕ, ◌+◌, ◌≡◌, ◌<◌, ◌≤◌, Bool, List, [], ◌∷◌, ◌++◌, length, take, drop, zero, suc, codes}
use Rattle.mdl_insn.specs.declared.instruction.Insn.{Insn}
use Rattle.mdl_insn.specs.Spelling.{Spelt, Begun}
use Rattle.mdl_insn.specs.Text.{hex, print_text}

-- ---- what stands in front of some bytes

pub data Front : Type 0 where
  -- an instruction of so many bytes
  Whole : Insn → ℕ → Front
  -- bytes that begin no instruction; one that goes on behind fifteen bytes; one that goes on behind the end
  Undefined : Front
  TooLong : Front
  Short : Front

-- big is a default of 32 bits
abbrev pub StandsAt : List ℕ → Bool → Front → Type 0
StandsAt bytes big (Whole insn n) = (n ≤ length bytes) × (n ≤ 15) × Spelt (take n bytes) big insn
StandsAt bytes big Undefined =
    (n : ℕ) × (n < length bytes) × (n < 15) × Begun (take n bytes) big × (Begun (take (n + 1) bytes) big → ⊥)
    × ((insn : Insn) → Spelt (take (n + 1) bytes) big insn → ⊥)
StandsAt bytes big TooLong = (15 ≤ length bytes) × Begun (take 15 bytes) big
StandsAt bytes big Short = (length bytes < 15) × Begun bytes big

-- ---- a line

-- how many of the bytes its line covers: what is refused covers one byte, and the rest where it is short
abbrev pub covered : Front → List ℕ → ℕ
covered (Whole insn n) bytes = n
covered Undefined bytes = 1
covered TooLong bytes = 1
covered Short bytes = length bytes

-- at is the address of the first byte
abbrev pub front_text : Front → ℕ → List ℕ
front_text (Whole insn n) at = print_text insn (at + n)
front_text Undefined at = codes "undefined"
front_text TooLong at = codes "too long"
front_text Short at = codes "short"

-- two digits for each byte
abbrev pub bytes_text : List ℕ → List ℕ
bytes_text [] = []
bytes_text (b ∷ bs) = hex 2 b ++ bytes_text bs

-- the address, the bytes, and the text
abbrev pub line_text : Front → ℕ → List ℕ → List ℕ
line_text front at bytes =
    hex 8 at ++ codes " " ++ bytes_text (take (covered front bytes) bytes) ++ codes " " ++ front_text front at ++ 0x0A ∷ []

-- ---- the listing

-- the text is the lines of what stands at the bytes and behind, at most count of them, the first at an address
abbrev pub Lists : Bool → ℕ → ℕ → List ℕ → List ℕ → Type 0
Lists big zero at bytes text = text ≡ []
Lists big (suc count) at [] text = text ≡ []
Lists big (suc count) at (b ∷ bs) text =
    (front : Front) × (rest : List ℕ) × StandsAt (b ∷ bs) big front × (text ≡ line_text front at (b ∷ bs) ++ rest)
    × Lists big count (at + covered front (b ∷ bs)) (drop (covered front (b ∷ bs)) (b ∷ bs)) rest

-- the text is the listing of the bytes from a place of them, which is its address
abbrev pub IsListing : List ℕ → ℕ → ℕ → Bool → List ℕ → Type 0
IsListing bytes from count big text = Lists big count from (drop from bytes) text
