use Rattle.std.proofs.Common.{rules, ◌≡◌, ℕ, ◌+◌, ◌++◌, List, take, drop, Option, Result, Ok, Err, OnErr, sym, ap, ◌∙◌, arith, subst}
use Rattle.std.proofs.lemmas.List.{take-append-drop, drop-take, take-take, take_all}
use Rattle.std.proofs.KnownBytes.{Appends-trans}
use Rattle.std.specs.Io.KnownBytes.{Appends}
use Rattle.host_io.specs.Prefixes.{prefix_first, prefix_then}
use Rattle.host_io.specs.Transfers.{AppendsPrefix}
use Rattle.m386.specs.Writing.{image_bytes}
use Rattle.m386.proofs.outputs.write_image.Goals as goal

take_sum : (xs : List ℕ) (i n : ℕ) → take i xs ++ take n (drop i xs) ≡ take (i + n) xs
take_sum xs i n = rw (← drop-take i n xs)
    (ap (λ (ys : List ℕ). ys ++ drop i (take (i + n) xs)) (sym (take-take i (i + n) xs (omega arith))) ∙ take-append-drop i (take (i + n) xs))

-- one more piece
piece_more : (a b c : Option (List ℕ)) (xs piece : List ℕ) (i n : ℕ) → Appends a b (take i xs) → Appends b c piece → piece ≡ take n (drop i xs) → Appends a c (take (i + n) xs)
piece_more a b c xs piece i n p q is = subst (λ (ys : List ℕ). Appends a c ys) (take_sum xs i n)
    (Appends-trans a b c (take i xs) (take n (drop i xs)) p (subst (λ (ys : List ℕ). Appends b c ys) is q))

-- some first bytes of one more piece
piece_cut : (a b c : Option (List ℕ)) (xs piece : List ℕ) (i n : ℕ) → Appends a b (take i xs) → AppendsPrefix b c piece → piece ≡ take n (drop i xs) → AppendsPrefix a c xs
piece_cut a b c xs piece i n p q is = subst (λ (ys : List ℕ). AppendsPrefix a c ys) (take-append-drop (i + n) xs)
    (prefix_first a c (take (i + n) xs) (drop (i + n) xs) (subst (λ (ys : List ℕ). AppendsPrefix a c ys) (take_sum xs i n)
    (prefix_then a b c (take i xs) (take n (drop i xs)) p (subst (λ (ys : List ℕ). AppendsPrefix b c ys) is q))))

-- what holds anyway holds at an error
on_err : {T E : Type 0} (r : Result T E) (P : Type 0) → P → OnErr r P
on_err (Ok x) P p = tt
on_err (Err e) P p = p

pub loop-at-preserved : goal.loop-at-preserved
loop-at-preserved g c =
    let i = c.loop-at.invariant in
    let e = c.in_ok-write_all.ensures in
    let p = c.piece_at-piece.ensures in
    record {
      within = omega (arith, p.inside);
      taken = piece_more _ _ _ (image_bytes c.args.image c.args.pc.now) c.piece_at-piece.result.items c.loop-at.at c.len.result i.taken (rw c.as_slice.ensures.value at e.ok)
          (subst (λ (n : ℕ). c.piece_at-piece.result.items ≡ take n (drop c.loop-at.at (image_bytes c.args.image c.args.pc.now))) (omega arith) p.piece);
      outputs = λ other n. e.outputs other n ∙ i.outputs other n;
      left = λ slot. e.left slot ∙ i.left slot;
      paths = λ slot. e.paths slot ∙ i.paths slot;
      counts = search rules;
      promise = e.promise ∙ i.promise;
    }

pub returns-in_err-write_all-clause-err : goal.returns-in_err-write_all-clause-err
returns-in_err-write_all-clause-err g c = on_err c.from_residual.result _
    (piece_cut _ _ _ (image_bytes c.args.image c.args.pc.now) c.piece_at-piece.result.items c.loop-at.at _ c.loop-at.invariant.taken (rw c.as_slice.ensures.value at c.in_err-write_all.ensures.err) c.piece_at-piece.ensures.piece)

pub returns-clause-ok : goal.returns-clause-ok
returns-clause-ok g c = rw (take_all c.loop-at.at (image_bytes c.args.image c.args.pc.now) (omega arith)) at c.loop-at.invariant.taken
