-- What is known of a command and its arguments by what a parse reads of them.
use Rattle.std.proofs.Common.{◌≡◌, ◌∙◌, ◌<◌, ◌&&◌, ℕ, zero, suc, Bool, true, false, not, true≢false, refl, sym, ap, subst, inl, inr, arith, List, [], ◌∷◌, map, length, codes, is_some}
use Rattle.std.specs.List.{All, list_all, slice_index_or}
use Rattle.std.specs.Str.{bytes_eq}
use Rattle.std.proofs.lemmas.Slice.Eq.{bytes_eq-Decides}
use Rattle.clap.specs.Built.{IsAuto, IsPlain, IsPlainArg}
use Rattle.clap.specs.Facts.{args_of}
use Rattle.clap.specs.Simple.{App, app_of}
use Rattle.clap.specs.Walk.{Rule, Text, is_empty, is_free_arg, is_simple_arg, rule_of}
use Rattle.clap.specs.declared.builder.arg.Arg.{Arg}
use Rattle.clap.specs.declared.builder.command.Command.{Command}
use Rattle.clap.specs.declared.builder.command.Command.TheViews.{out-Command}
use Rattle.clap.proofs.SimpleLemmas.{HasPlainFields, is_false, is_nil, plain_fields}
use Rattle.clap.proofs.WalkLemmas.{both}

-- ---- lists of rules

-- no rule has the id
abbrev pub is_missing : Text → List Rule → Bool
is_missing id [] = true
is_missing id (r ∷ rs) = not (bytes_eq r.id id) && is_missing id rs

-- no rule but the one at a place has the id
abbrev pub is_only : Text → ℕ → List Rule → Bool
is_only id k [] = true
is_only id zero (r ∷ rs) = is_missing id rs
is_only id (suc k) (r ∷ rs) = not (bytes_eq r.id id) && is_only id k rs

-- the id is none of the flags that `clap` adds, and not empty
abbrev pub is_own : Text → Bool
is_own id = not (bytes_eq id (codes "help")) && (not (bytes_eq id (codes "version")) && not (is_empty id))

clash : (b : Bool) → not b ≡ true → b ≡ true → ⊥
clash b off on = true≢false (sym on ∙ is_false b off)

missing : (id : Text) (rs : List Rule) → is_missing id rs ≡ true → (j : ℕ) (d : Rule) → j < length rs → bytes_eq (slice_index_or rs j d).id id ≡ true → ⊥
missing id [] h j d lt same = absurd (omega arith)
missing id (r ∷ rs) h zero d lt same = clash _ (both _ _ h).0 same
missing id (r ∷ rs) h (suc j) d lt same = missing id rs (both _ _ h).1 j d (omega arith) same

pub only : (id : Text) (rs : List Rule) (k : ℕ) → is_only id k rs ≡ true → (j : ℕ) (d : Rule) → j < length rs
    → bytes_eq (slice_index_or rs j d).id id ≡ true → j ≡ k
only id [] k h j d lt same = absurd (omega arith)
only id (r ∷ rs) zero h zero d lt same = refl
only id (r ∷ rs) zero h (suc j) d lt same = absurd (missing id rs h j d (omega arith) same)
only id (r ∷ rs) (suc k) h zero d lt same = absurd (clash _ (both _ _ h).0 same)
only id (r ∷ rs) (suc k) h (suc j) d lt same = ap suc (only id rs k (both _ _ h).1 j d (omega arith) same)

passes_at : (p : Rule → Bool) (rs : List Rule) → list_all p rs ≡ true → (k : ℕ) (d : Rule) → k < length rs → p (slice_index_or rs k d) ≡ true
passes_at p [] h k d lt = absurd (omega arith)
passes_at p (r ∷ rs) h zero d lt = (both _ _ h).0
passes_at p (r ∷ rs) h (suc k) d lt = passes_at p rs (both _ _ h).1 k d (omega arith)

pub not_auto : (id : Text) → is_own id ≡ true → (a : Arg) → a.id.now ≡ id → IsAuto a → ⊥
not_auto id own a is (inl e) = clash _ (both _ _ own).0 ((bytes_eq-Decides id (codes "help")).1 (sym is ∙ e))
not_auto id own a is (inr e) = clash _ (both _ _ (both _ _ own).1).0 ((bytes_eq-Decides id (codes "version")).1 (sym is ∙ e))

pub not_empty : (id : Text) → is_own id ≡ true → id ≡ [] → ⊥
not_empty id own e = clash _ (both _ _ (both _ _ own).1).1 (subst (λ (t : Text). is_empty t ≡ true) (sym e) refl)

-- ---- arguments and their rules, place by place

pub rule_at : (xs : List Arg) (k : ℕ) (d : Arg) → rule_of (slice_index_or xs k d) ≡ slice_index_or (map rule_of xs) k (rule_of d)
rule_at [] k d = refl
rule_at (x ∷ xs) zero d = refl
rule_at (x ∷ xs) (suc k) d = rule_at xs k d

pub length_rules : (xs : List Arg) → length (map rule_of xs) ≡ length xs
length_rules [] = refl
length_rules (x ∷ xs) = ap suc (length_rules xs)

-- an argument of a list that is not empty
pub some_arg : (xs : List Arg) → 0 < length xs → Arg
some_arg [] lt = absurd (omega arith)
some_arg (x ∷ xs) lt = x

plain_arg : (a : Arg) → is_simple_arg a ≡ true → is_free_arg a ≡ true → IsPlainArg a
plain_arg a simple free =
    let overrides = both _ _ simple in
    let groups = both _ _ (both _ _ overrides.1).1 in
    let exclusive = both _ _ free in
    let conflicts = both _ _ exclusive.1 in
    (is_false _ exclusive.0, is_nil _ conflicts.0, is_nil _ overrides.0, is_nil _ groups.0)

pub no_condition : (a : Arg) → is_simple_arg a ≡ true → a.default_vals_ifs.items ≡ []
no_condition a simple = is_nil _ (both _ _ (both _ _ simple).1).0

pub no_delimiter : (a : Arg) → is_simple_arg a ≡ true → is_some a.val_delim ≡ false
no_delimiter a simple =
    let overrides = both (is_empty a.overrides.items) _ simple in
    let conditions = both (is_empty a.default_vals_ifs.items) _ overrides.1 in
    let groups = both (is_empty a.groups.items) _ conditions.1 in
    is_false (is_some a.val_delim) (both (not (is_some a.val_delim)) _ groups.1).0

-- ---- a command with plain arguments and nothing else

abbrev pub is_flat : App → Bool
is_flat a = a.top.is_plain && (not a.top.subcommand_negates_reqs && (list_all (λ r. r.is_simple) a.top.rules && list_all (λ r. r.is_free) a.top.rules))

pub record IsFlat (c : Command) : Type 0 where
  pub plain : IsPlain c
  pub globals : (out-Command c).has_globals ≡ false
  pub negates : (out-Command c).subcommand_negates_reqs ≡ false
  pub simple : All (λ a. is_simple_arg a ≡ true) (args_of c)

pub flat_command : (c : Command) (a : App) → app_of c ≡ a → is_flat a ≡ true → IsFlat c
flat_command c a same flat =
    let own : is_flat (app_of c) ≡ true = subst (λ (x : App). is_flat x ≡ true) (sym same) flat in
    let fields : HasPlainFields c = plain_fields c (both _ _ own).0 in
    let rest = both _ _ (both _ _ own).1 in
    let rules = both _ _ rest.1 in
    let each : (p : Rule → Bool) → list_all p (map rule_of (args_of c)) ≡ true → All (λ x. p (rule_of x) ≡ true) (args_of c) =
    λ p h k d lt. subst (λ (r : Rule). p r ≡ true) (sym (rule_at (args_of c) k d))
    (passes_at p (map rule_of (args_of c)) h k (rule_of d) (subst (λ (n : ℕ). k < n) (sym (length_rules (args_of c))) lt)) in
    let simple : All (λ x. is_simple_arg x ≡ true) (args_of c) = each (λ r. r.is_simple) rules.0 in
    let free : All (λ x. is_free_arg x ≡ true) (args_of c) = each (λ r. r.is_free) rules.1 in
    record {
      plain = ((λ k d lt. plain_arg (slice_index_or (args_of c) k d) (simple k d lt) (free k d lt)), fields.groups);
      globals = fields.globals;
      negates = is_false _ rest.0;
      simple = simple;
    }
