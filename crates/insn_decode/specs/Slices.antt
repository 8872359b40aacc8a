-- The same on a slice.
use Rattle.std.specs.Prelude.{ℕ, ◌+◌, ◌≡◌, ◌<◌, ◌≤◌, Bool, List, [], ◌∷◌, length, take, Result, Ok, Err}
use Rattle.mdl_state.specs.declared.Fault.{Fault}
use Rattle.mdl_insn.specs.declared.instruction.Insn.{Insn}
use Rattle.insn_decode.specs.declared.refusals.SliceError.{SliceError}
use Rattle.insn_decode.specs.declared.refusals.SliceError.TheVariants as slices
use Rattle.mdl_insn.specs.Spelling.{Spelt, Begun}

-- a slice gives its first byte, and a fault where it is empty
abbrev pub gives_byte : List ℕ → Result ℕ Fault → List ℕ → Type 0
gives_byte s (Ok b) t = s ≡ b ∷ t
gives_byte s (Err f) t = (s ≡ []) × (t ≡ [])

-- the front of that length, at most 15 bytes, spells the instruction
pub record TakesFront (bytes : List ℕ) (big : Bool) (insn : Insn) (len : ℕ) : Type 0 where
  pub spelt : Spelt (take len bytes) big insn
  pub inside : len ≤ length bytes
  pub within : len ≤ 15

-- the front before a byte is begun, and with that byte nothing is spelt or begun any more
pub record UndefinedAt (bytes : List ℕ) (big : Bool) : Type 0 where
  pub at : ℕ
  pub inside : at < length bytes
  pub within : at < 15
  pub begun : Begun (take at bytes) big
  pub not_begun : Begun (take (at + 1) bytes) big → ⊥
  pub not_spelt : (insn : Insn) → Spelt (take (at + 1) bytes) big insn → ⊥

-- the first fifteen bytes are begun
pub record LongAt (bytes : List ℕ) (big : Bool) : Type 0 where
  pub inside : 15 ≤ length bytes
  pub begun : Begun (take 15 bytes) big

-- all bytes, fewer than fifteen, are begun
pub record ShortAt (bytes : List ℕ) (big : Bool) : Type 0 where
  pub within : length bytes < 15
  pub begun : Begun bytes big

-- why the slice begins with no instruction, by its cause
abbrev pub SliceRefused : List ℕ → Bool → SliceError → Type 0
SliceRefused bytes big slices.Undefined = UndefinedAt bytes big
SliceRefused bytes big slices.TooLong = LongAt bytes big
SliceRefused bytes big slices.Short = ShortAt bytes big
