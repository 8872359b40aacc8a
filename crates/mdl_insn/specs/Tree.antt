-- Reading byte by byte: what is decided so far, and what each next byte leads to.
use Rattle.std.specs.Prelude.{ℕ, ◌+◌, ◌*◌, ◌<◌, Bool, if◌then◌else◌, List, [], ◌∷◌, zero, suc}
use Rattle.std.specs.List.{AllByRecursion}

pub data Tree (A : Type 0) : Type 0 where
  Done : A → Tree A
  Fail : Tree A
  Take : (ℕ → Tree A) → Tree A

-- one tree, and then the tree that its end leads to
infixl 10 ◌>>=◌
abbrev pub ◌>>=◌ : {A B : Type 0} → Tree A → (A → Tree B) → Tree B
(Done a) >>= f = f a
Fail >>= f = Fail
(Take k) >>= f = Take (λ b. k b >>= f)

-- what is left of a tree behind these bytes
abbrev pub after : {A : Type 0} → Tree A → List ℕ → Tree A
after t [] = t
after (Done a) (b ∷ bs) = Fail
after Fail (b ∷ bs) = Fail
after (Take k) (b ∷ bs) = after (k b) bs

-- a byte
abbrev pub byte_tree : Tree ℕ
byte_tree = Take (λ b. Done b)

-- a number of so many bytes, lowest first
unfoldable pub number_tree : ℕ → Tree ℕ
number_tree zero = Done 0
number_tree (suc n) = byte_tree >>= λ b. number_tree n >>= λ v. Done (b + 256 * v)

-- a test that lets the reading go on
abbrev pub guard : {A : Type 0} → Bool → Tree A → Tree A
guard b t = if b then t else Fail

abbrev pub IsByte : ℕ → Type 0
IsByte b = b < 256

abbrev pub IsBytes : List ℕ → Type 0
IsBytes bytes = AllByRecursion IsByte bytes
