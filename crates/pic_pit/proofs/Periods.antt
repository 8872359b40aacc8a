-- Pulses of a counter alone, and of one that came back to where it was.
use Rattle.std.proofs.Common.{◌≡◌, ◌≤◌, ℕ, zero, suc, ◌+◌, ◌-◌, ◌*◌, ◌/◌, ◌%◌, ◌&&◌, ◌||◌, not, Bool, true, false, refl, sym, ap, ◌∙◌, arith}
use Rattle.std.proofs.lemmas.Nat.{div-add-mod'}
use native.Mathlib.Nat.{suc-mul, add_comm}
use Rattle.mdl_dev.specs.declared.pit.Counter.{Counter}
use Rattle.mdl_dev.specs.declared.pit.Timer.{Timer}
use Rattle.mdl_dev.specs.Modes.{pulsed}
use Rattle.mdl_dev.specs.Pit.{pulse, pulses, has_risen}
use Rattle.pic_pit.specs.Bursts.{counter_pulses, counter_has_risen, rises_next}

-- ---- the counters of a timer are apart

pub pulses_apart : (n : ℕ) (t : Timer) → pulses n t ≡ record t {
  counter0 = counter_pulses true n t.counter0;
  counter1 = counter_pulses true n t.counter1;
  counter2 = counter_pulses t.gate2 n t.counter2;
}
unfolding pulses counter_pulses
pulses_apart zero t = refl
pulses_apart (suc n) t = ap pulse (pulses_apart n t)

or_same : (a b c d e f : Bool) → a ≡ d → b ≡ e → c ≡ f → (a || not b && c) ≡ (d || not e && f)
or_same a b c d e f h i j = cc

pub risen_apart : (n : ℕ) (t : Timer) → has_risen n t ≡ counter_has_risen true n t.counter0
unfolding has_risen pulses counter_has_risen counter_pulses
risen_apart zero t = refl
risen_apart (suc n) t = or_same _ _ _ _ _ _ (risen_apart n t)
    (ap (λ (s : Timer). s.counter0.out) (pulses_apart n t))
    (ap (λ (s : Timer). s.counter0.out) (pulses_apart (suc n) t))

-- ---- pulses behind pulses

none_more : (n : ℕ) → zero + n ≡ n
none_more n = omega arith

one_more : (m n : ℕ) → suc m + n ≡ suc (m + n)
one_more m n = omega arith

pub pulses_sum : (gate : Bool) (m n : ℕ) (c : Counter) → counter_pulses gate (m + n) c ≡ counter_pulses gate m (counter_pulses gate n c)
unfolding counter_pulses
pulses_sum gate zero n c = ap (λ (k : ℕ). counter_pulses gate k c) (none_more n)
pulses_sum gate (suc m) n c =
    ap (λ (k : ℕ). counter_pulses gate k c) (one_more m n)
    ∙ ap (pulsed gate) (pulses_sum gate m n c)

or_false : (a : Bool) → a ≡ (a || false)
or_false true = refl
or_false false = refl

or_assoc : (a b c : Bool) → ((a || b) || c) ≡ (a || (b || c))
or_assoc true b c = refl
or_assoc false b c = refl

pub risen_sum : (gate : Bool) (m n : ℕ) (c : Counter) → counter_has_risen gate (m + n) c ≡ (counter_has_risen gate n c || counter_has_risen gate m (counter_pulses gate n c))
unfolding counter_has_risen
risen_sum gate zero n c = ap (λ (k : ℕ). counter_has_risen gate k c) (none_more n) ∙ or_false _
risen_sum gate (suc m) n c =
    ap (λ (k : ℕ). counter_has_risen gate k c) (one_more m n) ∙
    ap (λ (b : Bool). b || rises_next gate (counter_pulses gate (m + n) c)) (risen_sum gate m n c)
    ∙ ap (λ (d : Counter). (counter_has_risen gate n c || counter_has_risen gate m (counter_pulses gate n c)) || rises_next gate d) (pulses_sum gate m n c)
    ∙ or_assoc (counter_has_risen gate n c) (counter_has_risen gate m (counter_pulses gate n c)) (rises_next gate (counter_pulses gate m (counter_pulses gate n c)))

-- ---- a counter that comes back to where it was

no_period : (p : ℕ) → zero * p ≡ zero
no_period p = omega arith

period_more : (k p : ℕ) → suc k * p ≡ p + k * p
period_more k p = suc-mul k p ∙ add_comm (k * p) p

-- whole periods change nothing
periods : (gate : Bool) (k p : ℕ) (c : Counter) → counter_pulses gate p c ≡ c → counter_pulses gate (k * p) c ≡ c
unfolding counter_pulses
periods gate zero p c back = ap (λ (n : ℕ). counter_pulses gate n c) (no_period p)
periods gate (suc k) p c back = ap (λ (n : ℕ). counter_pulses gate n c) (period_more k p) ∙ pulses_sum gate p (k * p) c ∙ ap (counter_pulses gate p) (periods gate k p c back) ∙ back

or_twice : (rose a b : Bool) → (rose || a) ≡ rose → (rose || b) ≡ rose → (rose || (a || b)) ≡ rose
or_twice true a b h i = refl
or_twice false false b h i = i
or_twice false true b h i = h

-- and what rises in them rose in the first
periods_risen : (gate rose : Bool) (k p : ℕ) (c : Counter) → counter_pulses gate p c ≡ c → (rose || counter_has_risen gate p c) ≡ rose → (rose || counter_has_risen gate (k * p) c) ≡ rose
unfolding counter_has_risen
periods_risen gate rose zero p c back told =
    ap (λ (n : ℕ). rose || counter_has_risen gate n c) (no_period p) ∙ sym (or_false rose)
periods_risen gate rose (suc k) p c back told =
    ap (λ (n : ℕ). rose || counter_has_risen gate n c) (period_more k p)
    ∙ ap (λ (b : Bool). rose || b) (risen_sum gate p (k * p) c)
    ∙ or_twice rose (counter_has_risen gate (k * p) c) (counter_has_risen gate p (counter_pulses gate (k * p) c)) (periods_risen gate rose k p c back told)
    (ap (λ (d : Counter). rose || counter_has_risen gate p d) (periods gate k p c back) ∙ told)

split : (n p : ℕ) → n ≡ n % p + n / p * p
split n p = omega (arith, div-add-mod' n p)

-- so the pulses that are left count modulo the period
pub rest_pulses : (gate : Bool) (n p : ℕ) (c : Counter) → counter_pulses gate p c ≡ c → counter_pulses gate n c ≡ counter_pulses gate (n % p) c
rest_pulses gate n p c back =
    ap (λ (m : ℕ). counter_pulses gate m c) (split n p)
    ∙ pulses_sum gate (n % p) (n / p * p) c
    ∙ ap (counter_pulses gate (n % p)) (periods gate (n / p) p c back)

or_dropped : (rose a b : Bool) → (rose || a) ≡ rose → (rose || (a || b)) ≡ (rose || b)
or_dropped true a b h = refl
or_dropped false a b h = ap (λ (x : Bool). x || b) h

pub rest_risen : (gate rose : Bool) (n p : ℕ) (c : Counter) → counter_pulses gate p c ≡ c → (rose || counter_has_risen gate p c) ≡ rose → (rose || counter_has_risen gate n c) ≡ (rose || counter_has_risen gate (n % p) c)
rest_risen gate rose n p c back told =
    ap (λ (m : ℕ). rose || counter_has_risen gate m c) (split n p)
    ∙ ap (λ (b : Bool). rose || b) (risen_sum gate (n % p) (n / p * p) c)
    ∙ or_dropped rose (counter_has_risen gate (n / p * p) c) (counter_has_risen gate (n % p) (counter_pulses gate (n / p * p) c)) (periods_risen gate rose (n / p) p c back told)
    ∙ ap (λ (d : Counter). rose || counter_has_risen gate (n % p) d) (periods gate (n / p) p c back)

-- ---- a stretch of a burst

whole : (k n : ℕ) → k ≤ n → n ≡ (n - k) + k
whole k n h = omega arith

turned : (m n : ℕ) → m + n ≡ n + m
turned m n = omega arith

pub stretch_pulses : (gate : Bool) (left k : ℕ) (c d : Counter) → k ≤ left → d ≡ counter_pulses gate k c → counter_pulses gate (left - k) d ≡ counter_pulses gate left c
stretch_pulses gate left k c d h is =
    ap (counter_pulses gate (left - k)) is
    ∙ sym (ap (λ (n : ℕ). counter_pulses gate n c) (whole k left h) ∙ pulses_sum gate (left - k) k c)

pub stretch_risen : (gate rose told : Bool) (left k : ℕ) (c d : Counter) → k ≤ left → d ≡ counter_pulses gate k c → told ≡ counter_has_risen gate k c → ((rose || told) || counter_has_risen gate (left - k) d) ≡ (rose || counter_has_risen gate left c)
stretch_risen gate rose told left k c d h is says =
    or_assoc rose told (counter_has_risen gate (left - k) d)
    ∙ ap (λ (b : Bool). rose || (b || counter_has_risen gate (left - k) d)) says
    ∙ ap (λ (e : Counter). rose || (counter_has_risen gate k c || counter_has_risen gate (left - k) e)) is
    ∙ ap (λ (b : Bool). rose || b) (sym (ap (λ (n : ℕ). counter_has_risen gate n c) (whole k left h) ∙ risen_sum gate (left - k) k c))

pub stretch_since : (gate : Bool) (since k : ℕ) (c d e : Counter) → c ≡ counter_pulses gate since e → d ≡ counter_pulses gate k c → d ≡ counter_pulses gate (since + k) e
stretch_since gate since k c d e here is =
    is ∙ ap (counter_pulses gate k) here
    ∙ sym (ap (λ (n : ℕ). counter_pulses gate n e) (turned since k) ∙ pulses_sum gate k since e)

or_kept : (rose told a : Bool) → (rose || a) ≡ rose → ((rose || told) || (a || told)) ≡ (rose || told)
or_kept true told a h = refl
or_kept false true a h = refl
or_kept false false true h = h
or_kept false false false h = refl

pub stretch_told : (gate rose told : Bool) (since k : ℕ) (c e : Counter) → c ≡ counter_pulses gate since e → (rose || counter_has_risen gate since e) ≡ rose → told ≡ counter_has_risen gate k c → ((rose || told) || counter_has_risen gate (since + k) e) ≡ (rose || told)
stretch_told gate rose told since k c e here before says =
    ap (λ (b : Bool). (rose || told) || b)
    (ap (λ (n : ℕ). counter_has_risen gate n e) (turned since k) ∙ risen_sum gate k since e
    ∙ ap (λ (d : Counter). counter_has_risen gate since e || counter_has_risen gate k d) (sym here)
    ∙ ap (λ (b : Bool). counter_has_risen gate since e || b) (sym says))
    ∙ or_kept rose told (counter_has_risen gate since e) before

-- ---- no pulses

pub no_pulses : (gate : Bool) (c : Counter) → c ≡ counter_pulses gate 0 c
unfolding counter_pulses
no_pulses gate c = refl

pub none_risen : (gate rose : Bool) (c : Counter) → (rose || counter_has_risen gate 0 c) ≡ rose
unfolding counter_has_risen
none_risen gate rose c = sym (or_false rose)
