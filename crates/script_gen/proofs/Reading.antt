-- A script read line by line.
use Rattle.std.proofs.Common.{◌≡◌, ℕ, zero, suc, ◌+◌, ◌-◌, true, false, List, [], ◌∷◌, ◌++◌, take, drop, refl, sym, ap, ◌∙◌, subst, arith, add-one}
use Rattle.std.specs.Str.Lines.{lines}
use Rattle.std.proofs.lemmas.List.{append-nil, take-append-drop}
use Rattle.mdl_state.specs.declared.Event.{Event}
use Rattle.mdl_text.specs.Script.{AreScript, Script, IsFirstBad, is_skipped}
use Rattle.mdl_text.specs.ScriptLaws.{Follows, skipped_on, goes_on, stops}

-- so many lines were read, and state these events; the rest of the text has the other lines
pub record HasRead (bytes : List ℕ) (number : ℕ) (rest : List ℕ) (events : List Event) : Type 0 where
  pub behind : drop number (lines bytes) ≡ lines rest
  pub script : AreScript (take number (lines bytes)) events

pub begins : (bytes : List ℕ) → HasRead bytes 0 bytes []
begins bytes = record { behind = refl; script = record { stated = tt; rising = tt; few = omega arith } }

-- one more of a list
one_more : {A : Type 0} (n : ℕ) (xs : List A) (y : A) (ys : List A) → drop n xs ≡ y ∷ ys → (take (n + 1) xs ≡ take n xs ++ y ∷ []) × (drop (n + 1) xs ≡ ys)
one_more {A} n xs y ys e = rw (add-one n) (by_suc n xs e)
  where
    by_suc : (n : ℕ) (xs : List A) → drop n xs ≡ y ∷ ys → (take (suc n) xs ≡ take n xs ++ y ∷ []) × (drop (suc n) xs ≡ ys)
    by_suc zero [] e = absurd cc
    by_suc zero (x ∷ xs) e = (let same : x ≡ y = cc in ap (λ (a : A). a ∷ []) same, cc)
    by_suc (suc n) [] e = absurd cc
    by_suc (suc n) (x ∷ xs) e = let r = by_suc n xs e in (ap (λ (l : List A). x ∷ l) r.0, r.1)

next : (bytes rest line more : List ℕ) (n : ℕ) (events : List Event) → HasRead bytes n rest events → lines rest ≡ line ∷ lines more → (take (n + 1) (lines bytes) ≡ take n (lines bytes) ++ line ∷ []) × (drop (n + 1) (lines bytes) ≡ lines more)
next bytes rest line more n events h e = one_more n (lines bytes) line (lines more) (h.behind ∙ e)

pub skips : (bytes rest line more : List ℕ) (n : ℕ) (events : List Event) → HasRead bytes n rest events → lines rest ≡ line ∷ lines more → is_skipped line ≡ true → HasRead bytes (n + 1) more events
skips bytes rest line more n events h e skip =
    let m = next bytes rest line more n events h e in
    record { behind = m.1; script = subst (λ (ls : List (List ℕ)). AreScript ls events) (sym m.0) (skipped_on (take n (lines bytes)) events line h.script skip) }

pub takes : (bytes rest line more : List ℕ) (n : ℕ) (events : List Event) (event : Event) → HasRead bytes n rest events → lines rest ≡ line ∷ lines more → is_skipped line ≡ false → Follows events line event → HasRead bytes (n + 1) more (events ++ event ∷ [])
takes bytes rest line more n events event h e keep f =
    let m = next bytes rest line more n events h e in
    record { behind = m.1; script = subst (λ (ls : List (List ℕ)). AreScript ls (events ++ event ∷ [])) (sym m.0) (goes_on (take n (lines bytes)) events line event h.script keep f) }

pub ends : (bytes rest : List ℕ) (n : ℕ) (events : List Event) → HasRead bytes n rest events → rest ≡ [] → Script bytes events
ends bytes rest n events h e =
    let none : drop n (lines bytes) ≡ [] = h.behind ∙ ap lines e in
    let all : take n (lines bytes) ≡ lines bytes = sym (append-nil (take n (lines bytes))) ∙ (ap (λ (ls : List (List ℕ)). take n (lines bytes) ++ ls) (sym none) ∙ take-append-drop n (lines bytes)) in
    subst (λ (ls : List (List ℕ)). AreScript ls events) all h.script

pub refuses : (bytes rest line more : List ℕ) (n : ℕ) (events : List Event) → HasRead bytes n rest events → lines rest ≡ line ∷ lines more → is_skipped line ≡ false → ((event : Event) → ¬ (Follows events line event)) → IsFirstBad bytes (n + 1)
refuses bytes rest line more n events h e keep none =
    let m = next bytes rest line more n events h e in
    let back : n + 1 - 1 ≡ n = omega arith in
    record {
      events = events;
      before = subst (λ (k : ℕ). AreScript (take k (lines bytes)) events) (sym back) h.script;
      bad = λ others s. stops (take n (lines bytes)) events line h.script keep none others (subst (λ (ls : List (List ℕ)). AreScript ls others) m.0 s);
    }
