-- What the decoder answers, and why.
use Rattle.std.specs.Prelude.{ℕ, ◌≡◌, ◌<◌, ◌≤◌, Bool, List, [], ◌∷◌, ◌++◌, length, Result, Ok, Err}
use Rattle.mdl_state.specs.declared.Fault.{Fault}
use Rattle.mdl_insn.specs.declared.instruction.Insn.{Insn}
use Rattle.insn_decode.specs.declared.refusals.Undecoded.{Undecoded}
use Rattle.insn_decode.specs.declared.refusals.Undecoded.TheVariants as causes
use Rattle.mdl_insn.specs.Spelling.{Spelt, Begun}

-- the bytes that came one after the other, from s to e
abbrev pub Came : {S : Type 0} → (S → Result ℕ Fault → S → Type 0) → S → List ℕ → S → Type 0
Came gives s [] e = e ≡ s
Came gives s (b ∷ bs) e = (mid : _) × gives s (Ok b) mid × Came gives mid bs e

-- the bytes that came, at most 15 of them, spell the instruction
pub record Takes {S : Type 0} (gives : S → Result ℕ Fault → S → Type 0) (big : Bool) (s : S) (insn : Insn) (len : ℕ) (e : S) : Type 0 where
  pub bytes : List ℕ
  pub came : Came gives s bytes e
  pub spelt : Spelt bytes big insn
  pub len_is : length bytes ≡ len
  pub within : len ≤ 15

-- what came before the last byte is begun, and with it nothing is spelt or begun any more
pub record IsUndefined {S : Type 0} (gives : S → Result ℕ Fault → S → Type 0) (big : Bool) (s e : S) : Type 0 where
  pub front : List ℕ
  pub last : ℕ
  pub came : Came gives s (front ++ last ∷ []) e
  pub begun : Begun front big
  pub not_begun : Begun (front ++ last ∷ []) big → ⊥
  pub not_spelt : (insn : Insn) → Spelt (front ++ last ∷ []) big insn → ⊥
  pub within : length front < 15

-- fifteen bytes came, and more are needed
pub record IsLong {S : Type 0} (gives : S → Result ℕ Fault → S → Type 0) (big : Bool) (s e : S) : Type 0 where
  pub bytes : List ℕ
  pub came : Came gives s bytes e
  pub begun : Begun bytes big
  pub len_is : length bytes ≡ 15

-- fewer came, more are needed, and the next could not be fetched
pub record IsCut {S : Type 0} (gives : S → Result ℕ Fault → S → Type 0) (big : Bool) (s : S) (fault : Fault) (e : S) : Type 0 where
  pub bytes : List ℕ
  pub mid : S
  pub came : Came gives s bytes mid
  pub begun : Begun bytes big
  pub within : length bytes < 15
  pub fails : gives mid (Err fault) e

-- why there is no instruction, by its cause
abbrev pub Refused : {S : Type 0} → (S → Result ℕ Fault → S → Type 0) → Bool → S → Undecoded → S → Type 0
Refused gives big s causes.Undefined e = IsUndefined gives big s e
Refused gives big s causes.TooLong e = IsLong gives big s e
Refused gives big s (causes.Fetch f) e = IsCut gives big s f e
