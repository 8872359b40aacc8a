use Rattle.std.proofs.Common.{◌≡◌, ◌↔◌, ◌==◌, ◌∙◌, ℕ, Bool, false, true≢false, IsTrue, List, [], ◌∷◌, get_or, length, sym}
use Rattle.std.specs.Borrow.{Bor}
use Rattle.command_words.specs.Jobs.{StartsWith, texts}
use Rattle.command_words.proofs.words.starts_with.Goals as goal

-- the first of some words is the word at place 0
first_word : (r : Bool) (name : List ℕ) (words : List (Bor (List ℕ))) (d : Bor (List ℕ)) → (length words == 0) ≡ false
    → (IsTrue r ↔ ((get_or words 0 d).now ≡ name)) → (IsTrue r ↔ StartsWith name (texts words))
first_word r name [] d some is = absurd (true≢false some)
first_word r name (word ∷ words) d some is = is

pub returns-then-not-is_empty : goal.returns-then-not-is_empty
returns-then-not-is_empty c = first_word c.is_word.result c.args.name.now c.args.words.now _ (sym c.is_empty.ensures ∙ c.if-not-is_empty.true) c.is_word.ensures
