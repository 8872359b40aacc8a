-- What a parse that succeeds found for an argument, by the argument's rule.
use Rattle.std.proofs.Common.{◌≡◌, ◌∙◌, ◌⊎◌, ◌<◌, ◌≤◌, ℕ, zero, suc, Bool, true, false, refl, sym, ap, subst, inl, inr, arith, List, [], ◌∷◌, length, is_some, Option, Some, None}
use Rattle.std.specs.Prelude.{find, option_map, slice_get, unwrap_or}
use Rattle.std.specs.List.{All, slice_index_or}
use Rattle.std.specs.Str.{bytes_eq}
use Rattle.std.specs.Borrow.{Bor}
use Rattle.std.proofs.lemmas.Slice.Eq.{bytes_eq-Decides}
use Rattle.clap.specs.Built.{IsParsedFrom, SameRules}
use Rattle.clap.specs.Facts.{AllowsNone, Entry, EntryPasses, EntryValuesPass, HasReading, IsCountArg, IsFilledEntry, IsGroupEntry, IsKnownGroup, IsParsed, PassesArg, ReadsByParser, args_of, groups_of, least_values, parser_of, parser_of_value, unwrap_or_range}
use Rattle.clap.specs.Matches.{first_value, found_of, has_subcommand, matched_of, one_text}
use Rattle.clap.specs.Simple.{App, app_of}
use Rattle.clap.specs.Texts.{items_of}
use Rattle.clap.specs.Values.{Accepts, read_as, reading_of}
use Rattle.clap.specs.Walk.{Rule, Text, rule_of, texts}
use Rattle.clap.specs.declared.builder.action.ArgAction.TheVariants.{Count, Set}
use Rattle.clap.specs.declared.builder.arg.Arg.{Arg}
use Rattle.clap.specs.declared.builder.command.Command.{Command}
use Rattle.clap.specs.declared.builder.range.ValueRange.{ValueRange}
use Rattle.clap.specs.declared.builder.value_parser.Reading.{Reading}
use Rattle.clap.specs.declared.builder.value_parser.Reading.TheVariants.{AsWritten}
use Rattle.clap.specs.declared.builder.value_parser.ValueParser.{ValueParser}
use Rattle.clap.specs.declared.parser.matches.ArgMatches.{ArgMatches}
use Rattle.clap.specs.declared.parser.matches.MatchedArg.{MatchedArg}
use Rattle.clap.proofs.CallerLemmas.{default_present, entry_by_id, present_has_entry, required_present, same_rules_by_id}
use Rattle.command_words.proofs.Rules.{IsFlat, is_only, is_own, length_rules, no_condition, no_delimiter, not_auto, not_empty, only, rule_at, some_arg}

-- an argument of the command, at its place
pub record Placed (c : Command) (r : Rule) : Type 0 where
  pub place : ℕ
  pub fallback : Arg
  pub within : place < length (args_of c)
  pub is : rule_of (slice_index_or (args_of c) place fallback) ≡ r
  pub unique : (j : ℕ) (e : Arg) → j < length (args_of c)
      → bytes_eq (slice_index_or (args_of c) j e).id.now (slice_index_or (args_of c) place fallback).id.now ≡ true → j ≡ place
  pub own : is_own r.id ≡ true

-- the rule at a place of a command that is written out
pub placed : (c : Command) (a : App) → app_of c ≡ a → (k : ℕ) (r : Rule) → k < length a.top.rules → ((d : Rule) → slice_index_or a.top.rules k d ≡ r)
    → is_only r.id k a.top.rules ≡ true → is_own r.id ≡ true → Placed c r
placed c a same k r lt at one own =
    let rules = ap (λ (x : App). x.top.rules) same in
    let many : length (args_of c) ≡ length a.top.rules = sym (length_rules (args_of c)) ∙ ap length rules in
    let within : k < length (args_of c) = subst (λ (n : ℕ). k < n) (sym many) lt in
    let d = some_arg (args_of c) (omega arith) in
    let by_rule : (j : ℕ) (e : Arg) → rule_of (slice_index_or (args_of c) j e) ≡ slice_index_or a.top.rules j (rule_of e) =
    λ j e. rule_at (args_of c) j e ∙ ap (λ (l : List Rule). slice_index_or l j (rule_of e)) rules in
    let is : rule_of (slice_index_or (args_of c) k d) ≡ r = by_rule k d ∙ at (rule_of d) in
    record {
      place = k;
      fallback = d;
      within = within;
      is = is;
      unique = λ j e low equal. only r.id a.top.rules k one j (rule_of e) (subst (λ (n : ℕ). j < n) many low)
          (subst (λ (t : Text). bytes_eq t r.id ≡ true) (ap (λ (x : Rule). x.id) (by_rule j e))
          (subst (λ (t : Text). bytes_eq (slice_index_or (args_of c) j e).id.now t ≡ true) (ap (λ (x : Rule). x.id) is) equal));
      own = own;
    }

-- an entry of the id
has_entry : (xs : List Entry) (id : Text) (i : ℕ) → i < length xs → ((d : Entry) → bytes_eq (slice_index_or xs i d).0.now id ≡ true)
    → is_some (option_map (λ e. e.1) (find (λ e. bytes_eq e.0.now id) xs)) ≡ true
has_entry [] id i lt at = absurd (omega arith)
has_entry (x ∷ xs) id i lt at = go (bytes_eq x.0.now id) refl i lt at (has_entry xs id)
  where
    go : (b : Bool) → bytes_eq x.0.now id ≡ b → (i : ℕ) → i < length (x ∷ xs) → ((d : Entry) → bytes_eq (slice_index_or (x ∷ xs) i d).0.now id ≡ true)
        → ((j : ℕ) → j < length xs → ((d : Entry) → bytes_eq (slice_index_or xs j d).0.now id ≡ true) → is_some (option_map (λ e. e.1) (find (λ e. bytes_eq e.0.now id) xs)) ≡ true)
        → is_some (option_map (λ e. e.1) (find (λ e. bytes_eq e.0.now id) (x ∷ xs))) ≡ true
    go true e i lt at rest = rw e refl
    go false e zero lt at rest =
        let bad : false ≡ true = sym e ∙ at x in
        cc
    go false e (suc i) lt at rest = rw e (rest i (omega arith) at)

length_texts : (xs : List (Bor Text)) → length (texts xs) ≡ length xs
length_texts [] = refl
length_texts (x ∷ xs) = ap suc (length_texts xs)

-- the first value, as the typed getters read it
first_read : (how : Reading) (xs : List (Bor Text)) (t : Text) → option_map (λ s. read_as how s.now) (slice_get xs 0) ≡ Some t
    → (v : Bor Text) × (t ≡ read_as how v.now) × (0 < length xs) × ((d : Bor Text) → slice_index_or xs 0 d ≡ v)
first_read how [] t e = cc
first_read how (x ∷ xs) t e = (x, ap (λ (o : Option Text). unwrap_or o t) (sym e), omega arith, (λ d. refl))

first_of_some : (how : Reading) (xs : List (Bor Text)) → 0 < length xs → (t : Text) × (option_map (λ s. read_as how s.now) (slice_get xs 0) ≡ Some t)
first_of_some how [] lt = absurd (omega arith)
first_of_some how (x ∷ xs) lt = (read_as how x.now, refl)

-- the entry of an id that no group has
record FoundAt (c : Command) (id : Text) (x : MatchedArg) : Type 0 where
  pub values : All (λ v. PassesArg c id v.now) x.vals.items
  pub filled : (0 < length x.vals.items) ⊎ (((is_some x.count ≡ true) × IsCountArg c id) ⊎ AllowsNone c id)
  pub reading : HasReading c id x.reading

entry_found : (c : Command) (e : Entry) → (IsKnownGroup c e.0.now → ⊥) → EntryValuesPass c e → IsFilledEntry c e → IsGroupEntry c e → ReadsByParser c e → FoundAt c e.0.now e.1
entry_found c e none (inl g) filled group reading = absurd (none (group g))
entry_found c e none (inr values) (inl g) group reading = absurd (none g.1)
entry_found c e none (inr values) (inr filled) group (inl g) = absurd (none (group g))
entry_found c e none (inr values) (inr filled) group (inr reading) = record { values = values; filled = filled; reading = reading }

module _ (c : Command) (m : ArgMatches) (p : IsParsedFrom c m) (flat : IsFlat c) (r : Rule) (argument : Placed c r) where
  abbrev arg : Arg
  arg = slice_index_or (args_of c) argument.place argument.fallback

  has_id : arg.id.now ≡ r.id
  has_id = ap (λ (x : Rule). x.id) argument.is

  parsed : IsParsed p.built (found_of m) (has_subcommand m)
  parsed = p.parsed (p.from.globals ∙ flat.globals)

  same_rules : (id : Text) → id ≡ r.id → (j : ℕ) (x : Arg) → j < length (args_of p.built) → slice_index_or (args_of p.built) j x ≡ x → bytes_eq x.id.now id ≡ true → SameRules arg x
  same_rules id is j x lt at equal = same_rules_by_id c m p argument.place argument.fallback argument.within argument.unique
      (not_auto r.id argument.own arg has_id) j x lt at (subst (λ (t : Text). bytes_eq x.id.now t ≡ true) (is ∙ sym has_id) equal)

  no_groups : groups_of p.built ≡ []
  no_groups = (p.from.plain flat.plain).1

  known_group : (id : Text) → id ≡ r.id → IsKnownGroup p.built id → ⊥
  known_group id is (inl e) = not_empty r.id argument.own (sym is ∙ e)
  known_group id is (inr lt) =
      let bad : 0 < 0 = rw no_groups at lt in
      absurd (omega arith)

  -- an argument that has to be there, or has a default, has an entry
  pub required_entry : r.required ≡ true → is_some (matched_of (found_of m) r.id) ≡ true
  required_entry required = subst (λ (t : Text). is_some (matched_of (found_of m) t) ≡ true) has_id
      (present_has_entry (found_of m) arg.id.now (required_present c m p flat.plain flat.globals flat.negates argument.place argument.fallback argument.within
      (ap (λ (x : Rule). x.required) argument.is ∙ required)))

  pub default_entry : 0 < length r.defaults → is_some (matched_of (found_of m) r.id) ≡ true
  default_entry some =
      let own : 0 < length (texts (items_of arg.default_vals)) = subst (λ (l : List Text). 0 < length l) (sym (ap (λ (x : Rule). x.defaults) argument.is)) some in
      let wants : 0 < length (items_of arg.default_vals) = subst (λ (n : ℕ). 0 < n) (length_texts (items_of arg.default_vals)) own in
      let ifs : arg.default_vals_ifs.items ≡ [] = no_condition arg (flat.simple argument.place argument.fallback argument.within) in
      let there = default_present c m p flat.globals argument.place argument.fallback argument.within (ifs, wants) in
      subst (λ (t : Text). is_some (matched_of (found_of m) t) ≡ true) has_id (has_entry (found_of m).entries.items arg.id.now there.0 there.1 there.2)

  found_at : (x : MatchedArg) → matched_of (found_of m) r.id ≡ Some x → FoundAt p.built r.id x
  found_at x found =
      let got = entry_by_id (EntryPasses p.built) (found_of m).entries.items r.id x parsed.values found in
      let key : got.0.0.now ≡ r.id = (bytes_eq-Decides _ _).0 got.2 in
      let there = entry_found p.built got.0 (known_group got.0.0.now key) got.3.0 got.3.1 got.3.3 got.3.4 in
      subst (λ (y : MatchedArg). FoundAt p.built r.id y) got.1 (subst (λ (t : Text). FoundAt p.built t got.0.1) key there)

  -- what the typed getters read of the argument is a text that passed its parser
  pub passes : (q : ValueParser) → r.parser ≡ Some q → (t : Text) → one_text (found_of m) r.id ≡ Some t
      → (raw : Text) × (t ≡ read_as (reading_of q) raw) × Accepts r.ignore_case q raw
  passes q is_q t = go (matched_of (found_of m) r.id) refl
    where
      parser_is : (x : Arg) → SameRules arg x → parser_of x ≡ q
      parser_is x s = ap parser_of_value (s.parser q (ap (λ (w : Rule). w.parser) argument.is ∙ is_q))

      case_is : (x : Arg) → SameRules arg x → x.ignore_case ≡ r.ignore_case
      case_is x s = s.ignore_case ∙ ap (λ (w : Rule). w.ignore_case) argument.is

      step : (x : MatchedArg) → FoundAt p.built r.id x → option_map (λ s. read_as x.reading s.now) (slice_get x.vals.items 0) ≡ Some t
          → (raw : Text) × (t ≡ read_as (reading_of q) raw) × Accepts r.ignore_case q raw
      step x there read =
          let first = first_read x.reading x.vals.items t read in
          let how = there.reading in
          let as_q : x.reading ≡ reading_of q = sym how.4.1 ∙ ap reading_of (parser_is how.1 (same_rules r.id refl how.0 how.1 how.2 how.3 how.4.0)) in
          let passed : PassesArg p.built r.id first.0.now = subst (λ (v : Bor Text). PassesArg p.built r.id v.now) (first.3 first.0) (there.values 0 first.0 first.2) in
          let rules = same_rules r.id refl passed.0 passed.1 passed.2 passed.3 passed.4.0 in
          let accepted : Accepts passed.1.ignore_case q first.0.now = subst (λ (w : ValueParser). Accepts passed.1.ignore_case w first.0.now) (parser_is passed.1 rules) passed.4.1 in (
            first.0.now,
            first.1 ∙ ap (λ (w : Reading). read_as w first.0.now) as_q,
            subst (λ (b : Bool). Accepts b q first.0.now) (case_is passed.1 rules) accepted,
          )

      go : (o : Option MatchedArg) → matched_of (found_of m) r.id ≡ o → one_text (found_of m) r.id ≡ Some t
          → (raw : Text) × (t ≡ read_as (reading_of q) raw) × Accepts r.ignore_case q raw
      go None e read =
          let bad : None ≡ Some t = rw e at read in
          cc
      go (Some x) e read = step x (found_at x e) (rw e at read)

  -- an entry of an argument that takes one value has a value
  has_value : r.action ≡ Some Set → r.range ≡ None → (x : MatchedArg) → FoundAt p.built r.id x → 0 < length x.vals.items
  has_value set range x there = go there.filled
    where
      is_set : arg.action ≡ Some Set
      is_set = ap (λ (w : Rule). w.action) argument.is ∙ set

      one : 1 ≤ least_values arg
      one = subst (λ (o : Option ValueRange). 1 ≤ (unwrap_or_range o).start_inclusive) (sym (ap (λ (w : Rule). w.range) argument.is ∙ range)) (omega arith)

      go : (0 < length x.vals.items) ⊎ (((is_some x.count ≡ true) × IsCountArg p.built r.id) ⊎ AllowsNone p.built r.id) → 0 < length x.vals.items
      go (inl some) = some
      go (inr (inl counts)) =
          let by = counts.1 in
          let s = same_rules r.id refl by.0 by.1 by.2 by.3 by.4.0 in
          let by_set : by.1.action ≡ Some Set = s.action Set is_set in
          let bad : Set ≡ Count = rw by_set at by.4.1 in
          cc
      go (inr (inr none)) =
          let s = same_rules r.id refl none.0 none.1 none.2 none.3 none.4.0 in
          elim none.4.1 [
            | inl least ↦
                let more = s.least is_set one in
                absurd (omega arith)
            | inr split ↦
                let whole : is_some arg.val_delim ≡ false = no_delimiter arg (flat.simple argument.place argument.fallback argument.within) in
                let bad : false ≡ true = rw (s.val_delim, whole) at split in
                cc
          ]

  pub first_there : r.action ≡ Some Set → r.range ≡ None → is_some (matched_of (found_of m) r.id) ≡ true → is_some (first_value (found_of m) r.id) ≡ true
  first_there set range = go (matched_of (found_of m) r.id) refl
    where
      go : (o : Option MatchedArg) → matched_of (found_of m) r.id ≡ o → is_some (matched_of (found_of m) r.id) ≡ true → is_some (first_value (found_of m) r.id) ≡ true
      go None e some =
          let bad : false ≡ true = rw e at some in
          cc
      go (Some x) e some = rw e (ap is_some (first_of_some AsWritten x.vals.items (has_value set range x (found_at x e))).1)

  pub one_there : r.action ≡ Some Set → r.range ≡ None → is_some (matched_of (found_of m) r.id) ≡ true → (t : Text) × (one_text (found_of m) r.id ≡ Some t)
  one_there set range = go (matched_of (found_of m) r.id) refl
    where
      go : (o : Option MatchedArg) → matched_of (found_of m) r.id ≡ o → is_some (matched_of (found_of m) r.id) ≡ true → (t : Text) × (one_text (found_of m) r.id ≡ Some t)
      go None e some =
          let bad : false ≡ true = rw e at some in
          cc
      go (Some x) e some =
          let first = first_of_some x.reading x.vals.items (has_value set range x (found_at x e)) in
          (first.0, rw e first.1)
