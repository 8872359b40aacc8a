-- What a call of a host leaves alone.
use Rattle.std.specs.Prelude.{◌≡◌, ◌≢◌, Option, is_some}

-- the same at every slot
abbrev pub Same : {S A : Type 0} → (S → A) → (S → A) → Type 0
Same {S} {A} before now = (slot : S) → now slot ≡ before slot

-- the same at every slot but this one
abbrev pub SameBut : {S A : Type 0} → S → (S → A) → (S → A) → Type 0
SameBut {S} {A} slot before now = (other : S) → other ≢ slot → now other ≡ before other

-- it tells now where it told before, and only there
abbrev pub TellsAlike : {A : Type 0} → Option A → Option A → Type 0
TellsAlike before now = is_some now ≡ is_some before
