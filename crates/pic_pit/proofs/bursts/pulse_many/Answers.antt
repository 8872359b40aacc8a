use Rattle.std.proofs.Common.{◌≡◌, ◌≤◌, ◌+◌, ◌-◌, ◌%◌, ◌||◌, ℕ, sym, ap, ◌∙◌, refl, arith}
use Rattle.std.proofs.lemmas.Nat.{div-add-mod'}
use Rattle.mdl_dev.specs.declared.pit.Counter.{Counter}
use Rattle.pic_pit.specs.Bursts.{counter_has_risen, counter_pulses}
use Rattle.pic_pit.proofs.Periods.{stretch_pulses, stretch_risen, stretch_since, stretch_told, no_pulses, none_risen, rest_pulses, rest_risen}
use Rattle.pic_pit.proofs.bursts.pulse_many.Goals as goal

pub loop-left-init : goal.loop-left-init
loop-left-init c = record {
  new = refl;
  rose = refl;
  here = no_pulses c.args.gate c.args.counter.now;
  told = none_risen c.args.gate _ c.args.counter.now;
  fits = omega arith;
  range = c.requires;
}

mod_le : (a b : ℕ) → a % b ≤ a
mod_le a b = omega (arith, div-add-mod' a b)

left_fits : (since left k p n : ℕ) → k ≤ left → since + left ≤ n → 1 ≤ k → p ≡ since + k → p + (left - k) % p ≤ n
left_fits since left k p n h fits some is = omega (arith, mod_le (left - k) p)

pub loop-left-preserved-then-is_same : goal.loop-left-preserved-then-is_same
loop-left-preserved-then-is_same c =
    let i = c.loop-left.invariant in
    let e = c.run_on-made.ensures in
    let same : c.run_on-made.new.counter ≡ c.loop-left.earlier = c.is_same.ensures c.if-is_same.true in
    let here = stretch_since c.args.gate c.loop-left.since c.run_on-made.result.pulses _ _ _ i.here e.new in
    let told = stretch_told c.args.gate c.loop-left.rose c.run_on-made.result.rose c.loop-left.since c.run_on-made.result.pulses _ _ i.here i.told e.rose in
    let back = ap (counter_pulses c.args.gate (c.loop-left.since + c.run_on-made.result.pulses)) same ∙ sym here in
    let told_here = ap (λ (d : Counter). (c.loop-left.rose || c.run_on-made.result.rose) || counter_has_risen c.args.gate (c.loop-left.since + c.run_on-made.result.pulses) d) same ∙ told in
    record {
      new = sym (rest_pulses c.args.gate (c.loop-left.left - c.run_on-made.result.pulses) _ _ back)
          ∙ stretch_pulses c.args.gate c.loop-left.left c.run_on-made.result.pulses _ _ e.most e.new ∙ i.new;
      rose = sym (rest_risen c.args.gate _ (c.loop-left.left - c.run_on-made.result.pulses) _ _ back told_here)
          ∙ stretch_risen c.args.gate c.loop-left.rose c.run_on-made.result.rose c.loop-left.left c.run_on-made.result.pulses _ _ e.most e.new e.rose ∙ i.rose;
      here = here;
      told = told;
      fits = left_fits _ _ _ _ _ e.most i.fits e.least refl;
      range = e.range;
    }

pub loop-left-preserved-then-since-span : goal.loop-left-preserved-then-since-span
loop-left-preserved-then-since-span c =
    let i = c.loop-left.invariant in
    let e = c.run_on-made.ensures in
    record {
      new = stretch_pulses c.args.gate c.loop-left.left c.run_on-made.result.pulses _ _ e.most e.new ∙ i.new;
      rose = stretch_risen c.args.gate c.loop-left.rose c.run_on-made.result.rose c.loop-left.left c.run_on-made.result.pulses _ _ e.most e.new e.rose ∙ i.rose;
      here = no_pulses c.args.gate c.run_on-made.new.counter;
      told = none_risen c.args.gate _ c.run_on-made.new.counter;
      fits = omega (arith, i.fits, e.most);
      range = e.range;
    }

pub loop-left-preserved : goal.loop-left-preserved
loop-left-preserved c =
    let i = c.loop-left.invariant in
    let e = c.run_on-made.ensures in
    record {
      new = stretch_pulses c.args.gate c.loop-left.left c.run_on-made.result.pulses _ _ e.most e.new ∙ i.new;
      rose = stretch_risen c.args.gate c.loop-left.rose c.run_on-made.result.rose c.loop-left.left c.run_on-made.result.pulses _ _ e.most e.new e.rose ∙ i.rose;
      here = stretch_since c.args.gate c.loop-left.since c.run_on-made.result.pulses _ _ _ i.here e.new;
      told = stretch_told c.args.gate c.loop-left.rose c.run_on-made.result.rose c.loop-left.since c.run_on-made.result.pulses _ _ i.here i.told e.rose;
      fits = omega (arith, i.fits, e.most);
      range = e.range;
    }

pub returns-clause-rose : goal.returns-clause-rose
returns-clause-rose c =
    let none : c.loop-left.left ≡ 0 = grind (arith, c.loop-left-test.false) in
    sym (none_risen c.args.gate c.loop-left.rose c.loop-left.counter)
    ∙ ap (λ (n : ℕ). c.loop-left.rose || counter_has_risen c.args.gate n c.loop-left.counter) (sym none)
    ∙ c.loop-left.invariant.rose

pub returns-clause-new : goal.returns-clause-new
returns-clause-new c =
    let none : c.loop-left.left ≡ 0 = grind (arith, c.loop-left-test.false) in
    no_pulses c.args.gate c.loop-left.counter
    ∙ ap (λ (n : ℕ). counter_pulses c.args.gate n c.loop-left.counter) (sym none)
    ∙ c.loop-left.invariant.new
