-- First bytes of texts written one after another, joined to the right: one ++ (two ++ three).
use Rattle.std.specs.Prelude.{ℕ, ◌+◌, ◌++◌, List, length, take, Option}
use Rattle.std.proofs.Common.{sym, subst, arith, length-append}
use Rattle.std.proofs.lemmas.List.{take-append-le}
use Rattle.std.proofs.Math.Seq.{take-append-add}
use Rattle.std.proofs.KnownBytes.{Appends-trans}
use Rattle.std.specs.Io.KnownBytes.{Appends}
use Rattle.host_io.specs.Transfers.{AppendsPrefix}

-- some first bytes of a text are some of a longer one
pub prefix_first : (a b : Option (List ℕ)) (xs ys : List ℕ) → AppendsPrefix a b xs → AppendsPrefix a b (xs ++ ys)
prefix_first a b xs ys p = record {
  count = p.count;
  within = omega (arith, p.within, length-append xs ys);
  appended = subst (λ (zs : List ℕ). Appends a b zs) (sym (take-append-le p.count xs ys p.within)) p.appended;
}

-- a whole text, and some first bytes of the next
pub prefix_then : (a b c : Option (List ℕ)) (xs ys : List ℕ) → Appends a b xs → AppendsPrefix b c ys → AppendsPrefix a c (xs ++ ys)
prefix_then a b c xs ys p q = record {
  count = length xs + q.count;
  within = omega (arith, q.within, length-append xs ys);
  appended = subst (λ (zs : List ℕ). Appends a c zs) (sym (take-append-add xs ys q.count)) (Appends-trans a b c xs (take q.count ys) p q.appended);
}

pub ruleset prefixes = (prefix_first, prefix_then)
