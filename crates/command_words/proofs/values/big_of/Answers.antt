use Rattle.std.proofs.Common.{◌≡◌, ◌⊎◌, ◌∙◌, ℕ, false, inl, inr, refl, sym, ap, List, Option, Some, None, codes}
use Rattle.std.specs.Option.{option_map_or}
use Rattle.std.specs.Str.{bytes_eq}
use Rattle.clap.specs.Words.{found_of, one_of, one_text, rows_of}
use Rattle.clap.proofs.WalkLemmas.{one_text-rows}
use Rattle.command_words.specs.Jobs.{flag_at}
use Rattle.command_words.proofs.values.big_of.Goals as goal

pub returns : goal.returns
returns c = go (one_of (codes "big") (rows_of (found_of c.args.matches.now))) refl
  where
    read : one_text (found_of c.args.matches.now) (codes "big") ≡ one_of (codes "big") (rows_of (found_of c.args.matches.now))
    read = one_text-rows (found_of c.args.matches.now) (codes "big")

    by_text : (text : List ℕ) → one_of (codes "big") (rows_of (found_of c.args.matches.now)) ≡ Some text → (text ≡ codes "true") ⊎ (text ≡ codes "false")
        → option_map_or (λ text. bytes_eq text (codes "true")) (Some text) false ≡ c.get_flag.result
    by_text text e (inl is) = ap (λ (t : List ℕ). bytes_eq t (codes "true")) is ∙ sym (c.get_flag.ensures.value (read ∙ e ∙ ap Some is))
    by_text text e (inr is) = ap (λ (t : List ℕ). bytes_eq t (codes "true")) is ∙ sym (c.get_flag.ensures.other (read ∙ e ∙ ap Some is))

    go : (o : Option (List ℕ)) → one_of (codes "big") (rows_of (found_of c.args.matches.now)) ≡ o → flag_at (codes "big") (rows_of (found_of c.args.matches.now)) ≡ c.get_flag.result
    go None e = ap (λ (o : Option (List ℕ)). option_map_or (λ text. bytes_eq text (codes "true")) o false) e ∙ sym (c.get_flag.ensures.none (read ∙ e))
    go (Some text) e = ap (λ (o : Option (List ℕ)). option_map_or (λ text. bytes_eq text (codes "true")) o false) e ∙ by_text text e (c.requires text e)
