-- An overlap is a byte in common.
use Rattle.std.proofs.Common.{◌≡◌, ◌<◌, ◌≤◌, ◌+◌, ◌-◌, ◌%◌, ◌^◌, ℕ, Bool, true, false, refl, arith, ◌↔◌}
use Rattle.std.specs.Prelude.{◌||◌, nat_lt}
use Rattle.std.proofs.lemmas.Bool.Decides.{nat_tests}
use Rattle.mdl_state.specs.Watches.{ahead, overlaps}
use Rattle.debug_regs.specs.Overlapping.{HaveCommon}

forth_by : (a count b more : ℕ) (p q : Bool) → nat_lt (ahead a b) count ≡ p → nat_lt (ahead b a) more ≡ q → a < 2 ^ 32 → b < 2 ^ 32 → 1 ≤ count → 1 ≤ more → (p || q) ≡ true → HaveCommon a count b more
forth_by a count b more true q hp hq la lb sc sm h = record {
  i = ahead a b;
  j = 0;
  within = grind (arith, nat_tests);
  inside = omega (arith, sm);
  same = omega (arith, la, lb);
}
forth_by a count b more false true hp hq la lb sc sm h = record {
  i = 0;
  j = ahead b a;
  within = omega (arith, sc);
  inside = grind (arith, nat_tests);
  same = omega (arith, la, lb);
}
forth_by a count b more false false hp hq la lb sc sm h = absurd cc

first : (x count : ℕ) (q : Bool) → x < count → (nat_lt x count || q) ≡ true
first x count q h = let t : nat_lt x count ≡ true = grind (arith, nat_tests) in rw t refl

second : (p : Bool) (x more : ℕ) → x < more → (p || nat_lt x more) ≡ true
second true x more h = refl
second false x more h = grind (arith, nat_tests)

back : (a count b more i j : ℕ) → a < 2 ^ 32 → b < 2 ^ 32 → count ≤ 2 ^ 32 → more ≤ 2 ^ 32 → i < count → j < more → (a + i) % 2 ^ 32 ≡ (b + j) % 2 ^ 32 → overlaps a count b more ≡ true
back a count b more i j la lb lc lm hi hj e = by (nat_lt i j) refl
  where
    by : (t : Bool) → nat_lt i j ≡ t → overlaps a count b more ≡ true
    by true t =
        let less : i < j = grind (arith, nat_tests) in
        let is : ahead b a ≡ j - i = omega (arith, la, lb, lm, hj, e, less) in
        second (nat_lt (ahead a b) count) (ahead b a) more (omega (arith, is, hj))
    by false t =
        let least : j ≤ i = grind (arith, nat_tests) in
        let is : ahead a b ≡ i - j = omega (arith, la, lb, lc, hi, e, least) in
        first (ahead a b) count (nat_lt (ahead b a) more) (omega (arith, is, hi))

pub overlap_common : (a count b more : ℕ) → a < 2 ^ 32 → b < 2 ^ 32 → count ≤ 2 ^ 32 → more ≤ 2 ^ 32 → 1 ≤ count → 1 ≤ more → (overlaps a count b more ≡ true) ↔ HaveCommon a count b more
overlap_common a count b more la lb lc lm sc sm = (
  λ h. forth_by a count b more _ _ refl refl la lb sc sm h,
  λ c. back a count b more c.i c.j la lb lc lm c.within c.inside c.same,
)
