-- That the values of a command's arguments are there, and their numbers within their ranges.
use Rattle.std.proofs.Common.{◌≡◌, ◌∙◌, ◌⊎◌, ◌<◌, ◌||◌, ℕ, Bool, true, false, codes, refl, sym, ap, subst, inl, inr, List, length, is_some, Option, Some, None, pos}
use Rattle.std.specs.List.{slice_index_or}
use Rattle.std.specs.Str.{bytes_eq}
use Rattle.std.proofs.lemmas.Slice.Eq.{bytes_eq-Decides}
use Rattle.clap.specs.Built.{IsParsedFrom}
use Rattle.clap.specs.Matches.{found_of, matched_of, one_text}
use Rattle.clap.specs.Simple.{App, app_of}
use Rattle.clap.specs.Walk.{Row, Rule, Text, first_of, one_of, rows_of}
use Rattle.clap.specs.declared.builder.action.ArgAction.TheVariants.{Set}
use Rattle.clap.specs.declared.builder.command.Command.{Command}
use Rattle.clap.specs.declared.builder.value_parser.ValueParser.TheVariants as parser
use Rattle.clap.specs.declared.parser.matches.ArgMatches.{ArgMatches}
use Rattle.clap.proofs.WalkLemmas.{first_value-rows, one_text-rows}
use Rattle.command_words.specs.Parses.{HasNumber, HasText, IsFlag}
use Rattle.command_words.proofs.Rules.{flat_command, is_flat, is_only, is_own}
use Rattle.command_words.proofs.Given.{Placed, default_entry, first_there, one_there, passes, placed, required_entry}
use Rattle.command_words.proofs.Numbers.{Writes, signed_writes, unsigned_writes}

-- an argument that has to be there, or has a default, and takes one value
pub record IsFilled (r : Rule) : Type 0 where
  pub there : (r.required ≡ true) ⊎ (0 < length r.defaults)
  pub set : r.action ≡ Some Set
  pub range : r.range ≡ None

-- the argument's place among the command's
pub record IsPlace (a : App) (k : ℕ) (r : Rule) : Type 0 where
  pub within : k < length a.top.rules
  pub at : (d : Rule) → slice_index_or a.top.rules k d ≡ r
  pub only : is_only r.id k a.top.rules ≡ true
  pub own : is_own r.id ≡ true

written : (least most : ℕ) (id : Text) (rows : List Row) (t : Text) → one_of id rows ≡ Some t → Writes least most t → HasNumber least most id rows
written least most id rows t is w = record { text = t; is = is; numeral = w.numeral; above = w.above; below = w.below }

module _ (c : Command) (m : ArgMatches) (p : IsParsedFrom c m) (a : App) (same : app_of c ≡ a) (flat : is_flat a ≡ true)
    (rows : List Row) (rows_are : rows_of (found_of m) ≡ rows) (k : ℕ) (r : Rule) (place : IsPlace a k r) where
  argument : Placed c r
  argument = placed c a same k r place.within place.at place.only place.own

  has_entry : IsFilled r → is_some (matched_of (found_of m) r.id) ≡ true
  has_entry filled = go filled.there
    where
      go : (r.required ≡ true) ⊎ (0 < length r.defaults) → is_some (matched_of (found_of m) r.id) ≡ true
      go (inl required) = required_entry c m p (flat_command c a same flat) r argument required
      go (inr some) = default_entry c m p (flat_command c a same flat) r argument some

  pub text_given : IsFilled r → HasText r.id rows
  text_given filled = subst (λ (o : Option Text). is_some o ≡ true) (first_value-rows (found_of m) r.id ∙ ap (first_of r.id) rows_are)
      (first_there c m p (flat_command c a same flat) r argument filled.set filled.range (has_entry filled))

  one_is : (t : Text) → one_text (found_of m) r.id ≡ Some t → one_of r.id rows ≡ Some t
  one_is t is = sym (one_text-rows (found_of m) r.id ∙ ap (one_of r.id) rows_are) ∙ is

  pub signed_given : IsFilled r → (least most : ℕ) → r.parser ≡ Some (parser.Signed (pos least) (pos most)) → HasNumber least most r.id rows
  signed_given filled least most is =
      let one = one_there c m p (flat_command c a same flat) r argument filled.set filled.range (has_entry filled) in
      let passed = passes c m p (flat_command c a same flat) r argument (parser.Signed (pos least) (pos most)) is one.0 one.1 in
      written least most r.id rows one.0 (one_is one.0 one.1) (subst (Writes least most) (sym passed.1) (signed_writes least most passed.0 passed.2))

  pub unsigned_given : IsFilled r → (least most : ℕ) → r.parser ≡ Some (parser.Unsigned least most) → HasNumber least most r.id rows
  unsigned_given filled least most is =
      let one = one_there c m p (flat_command c a same flat) r argument filled.set filled.range (has_entry filled) in
      let passed = passes c m p (flat_command c a same flat) r argument (parser.Unsigned least most) is one.0 one.1 in
      written least most r.id rows one.0 (one_is one.0 one.1) (subst (Writes least most) (sym passed.1) (unsigned_writes least most passed.0 passed.2))

  pub flag_given : r.parser ≡ Some parser.Bool → IsFlag r.id rows
  flag_given is text read =
      let one : one_text (found_of m) r.id ≡ Some text = one_text-rows (found_of m) r.id ∙ ap (one_of r.id) rows_are ∙ read in
      let passed = passes c m p (flat_command c a same flat) r argument parser.Bool is text one in
      subst (λ (t : Text). (t ≡ codes "true") ⊎ (t ≡ codes "false")) (sym passed.1) (go passed.0 (bytes_eq passed.0 (codes "true")) refl passed.2)
    where
      go : (t : Text) (b : Bool) → bytes_eq t (codes "true") ≡ b → (b || bytes_eq t (codes "false")) ≡ true → (t ≡ codes "true") ⊎ (t ≡ codes "false")
      go t true e h = inl ((bytes_eq-Decides t (codes "true")).0 e)
      go t false e h = inr ((bytes_eq-Decides t (codes "false")).0 h)
