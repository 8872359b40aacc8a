use Rattle.std.proofs.Common.{rules, ◌≡◌, ℕ, ◌+◌, ◌≤◌, ◌++◌, List, length, take, drop, Option, sym, ap, ◌∙◌, arith, subst}
use Rattle.std.proofs.lemmas.List.{take-append-drop, drop-take, take-take}
use Rattle.std.proofs.lemmas.Grind.{common_steps}
use Rattle.std.proofs.KnownBytes.{Appends-trans}
use Rattle.std.specs.Io.KnownBytes.{Appends}
use Rattle.host_io.proofs.transfers.write_all.Goals as goal

take_sum : (xs : List ℕ) (i n : ℕ) → take i xs ++ take n (drop i xs) ≡ take (i + n) xs
take_sum xs i n = rw (← drop-take i n xs)
    (ap (λ (ys : List ℕ). ys ++ drop i (take (i + n) xs)) (sym (take-take i (i + n) xs (omega arith))) ∙ take-append-drop i (take (i + n) xs))

taken_more : (a b c : Option (List ℕ)) (xs : List ℕ) (i n k : ℕ) → n ≤ k → Appends a b (take i xs) → Appends b c (take n (take k (drop i xs))) → Appends a c (take (i + n) xs)
taken_more a b c xs i n k h p q = subst (λ (ys : List ℕ). Appends a c ys) (take_sum xs i n)
    (Appends-trans a b c (take i xs) (take n (drop i xs)) p (subst (λ (ys : List ℕ). Appends b c ys) (take-take n k (drop i xs) h) q))

pub loop-at-preserved : goal.loop-at-preserved
loop-at-preserved g c =
    let i = c.loop-at.invariant in
    let e = c.in_ok-at.ensures in
    let within : c.loop-at.at + c.in_ok-at.field-0 ≤ length c.args.bytes.now = grind (arith, common_steps, e.bound) in
    record {
      within = within;
      taken = taken_more _ _ _ c.args.bytes.now c.loop-at.at c.in_ok-at.field-0 _ (grind (arith, common_steps, e.bound)) i.taken e.bytes;
      tells = e.tells ∙ i.tells;
      outputs = λ other n. e.outputs other n ∙ i.outputs other n;
      left = λ slot. e.left slot ∙ i.left slot;
      paths = λ slot. e.paths slot ∙ i.paths slot;
      counts = search (rules);
      promise = e.promise ∙ i.promise;
    }
