use Rattle.std.proofs.Common.{◌≡◌, ℕ, List, ◌++◌, ◌∙◌, ap, codes, append_assoc}
use Rattle.std.specs.Fmt.{decimal}
use Rattle.m386.specs.Refusals.{script_line}
use Rattle.m386.proofs.refusals.push_script.Goals as goal

regroup : (t a b d : List ℕ) → ((t ++ a) ++ b) ++ d ≡ t ++ ((a ++ b) ++ d)
regroup t a b d = simp append_assoc

-- three texts behind one another
three : (t one two now a b d : List ℕ) → one ≡ t ++ a → two ≡ one ++ b → now ≡ two ++ d → now ≡ t ++ ((a ++ b) ++ d)
three t one two now a b d p q r = r ∙ ap (λ (x : List ℕ). x ++ d) (q ∙ ap (λ (x : List ℕ). x ++ b) p) ∙ regroup t a b d

pub returns : goal.returns
unfolding script_line
returns c = three c.args.text.now.items c.push_text.new.text.items c.push_decimal.new.text.items c.push_text-2.new.text.items
    (codes "m386: script line ") (decimal c.args.n) (codes "\n")
    c.push_text.ensures.text (rw c.from.ensures at c.push_decimal.ensures.text) c.push_text-2.ensures.text
