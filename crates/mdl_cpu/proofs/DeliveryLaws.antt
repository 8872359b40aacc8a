-- Deliveries: why four are enough, and what serves one by a rule.
use Rattle.std.proofs.Common.{◌≡◌, ◌<◌, ◌≤◌, ℕ, zero, suc, ◌+◌, Bool, true, false, not, refl, ap, sym, ◌∙◌, arith, [], Option, Some, None}
use Rattle.std.specs.Prelude.{◌==◌, ◌&&◌, ◌-◌, ◌%◌, if◌then◌else◌, IfSome}
use Rattle.mdl_state.specs.declared.Regs.{Regs}
use Rattle.mdl_state.specs.declared.Fault.{Fault}
use Rattle.mdl_state.specs.State.{Mem}
use Rattle.mdl_state.specs.Serving.{Serve, Pick, Policy, Outcome, Passed, Failed, NoStep, handled, by_pick, by_list}
use Rattle.mdl_state.specs.Accesses.{committed, discarded}
use Rattle.mdl_state.specs.Attempt.{tried, finished}
use Rattle.mdl_state.specs.Restart.{bare, OnlyMarks, Leaves, IsFailed, tried_bare}
use Rattle.mdl_state.specs.Choices.{Meets, Follows, page_follows, tried_follows, handled_follows, stays_follow}
use Rattle.mdl_cpu.specs.declared.Cause.{Cause}
use Rattle.mdl_cpu.specs.declared.Class.{Class}
use Rattle.mdl_cpu.specs.declared.Class.TheVariants.{Benign, Contributory, PageFault, DoubleFault}
use Rattle.mdl_cpu.specs.Faults.{extended}
use Rattle.mdl_cpu.specs.Steady.{Steady}
use Rattle.mdl_cpu.specs.Causes.{fault_cause, with_address}
use Rattle.mdl_cpu.specs.Gates.{gate_plan, with_ext}
use Rattle.mdl_cpu.specs.DoubleFault.{class_of, class_of_fault, by_class, combine}
use Rattle.mdl_cpu.specs.Delivery.{Arrival, running, shut_down, delivered_once, followed_by, deliveries, deliver}
use Rattle.mdl_cpu.specs.Deliveries.{IsSerious, Serious, IfFailed, IsStep, RaisesPageFaults, ServesAll, KeepsWatch}
use Rattle.mdl_cpu.proofs.GateLaws.{gate_ends}
use Rattle.mdl_cpu.proofs.ServingLaws.{tried_serious, tried_steps, tried_keeps, then_kept}

-- ---- one delivery

extended_if : (b : Bool) (f g : Fault) → Serious f → Serious g → Serious (if b then f else g)
extended_if true f g x y = x
extended_if false f g x y = y

pub extended_serious : (ext : Bool) (fault : Fault) → Serious fault → Serious (extended ext fault)
extended_serious ext fault h = extended_if (ext && not (fault.vector == 14) && not (fault.vector == 8)) (record fault { code = fault.code - fault.code % 2 + 1 }) fault h h

finished_serious : (ext : Bool) (w : Outcome Regs × Mem) → IfFailed Serious w.0 → IfFailed Serious (finished (with_ext ext w)).0
finished_serious ext (Passed x, m) h = tt
finished_serious ext (Failed fault, m) h = extended_serious ext fault h
finished_serious ext (NoStep, m) h = tt

-- each fault that a delivery raises is a serious one
pub once_serious : (serve : Serve) → RaisesPageFaults serve → (cause : Cause) (r : Regs) (m : Mem) → IfFailed Serious (delivered_once serve cause r m).0
unfolding delivered_once
once_serious serve raises cause r m = finished_serious cause.ext (tried serve 0 (gate_plan cause r) m) (tried_serious serve raises (Steady r) 0 (gate_plan cause r) m (gate_ends cause r))

finished_steps : (ext : Bool) (w : Outcome Regs × Mem) → IsStep w.0 → IsStep (finished (with_ext ext w)).0
finished_steps ext (Passed x, m) h = tt
finished_steps ext (Failed fault, m) h = tt
finished_steps ext (NoStep, m) h = absurd h

once_steps : (serve : Serve) → ServesAll serve → (cause : Cause) (r : Regs) (m : Mem) → IsStep (delivered_once serve cause r m).0
unfolding delivered_once
once_steps serve serves cause r m = finished_steps cause.ext (tried serve 0 (gate_plan cause r) m) (tried_steps serve serves 0 (gate_plan cause r) m)

-- ---- what follows a fault has a lower rank

-- how many deliveries may follow that of a cause: a contributory fault, a page fault after that, a double fault after
-- either
abbrev pub rank_of : Class → ℕ
rank_of Benign = 3
rank_of Contributory = 2
rank_of PageFault = 1
rank_of DoubleFault = 0

falls : (a b : Class) (fault : Fault) → class_of_fault fault.vector ≡ b → IsSerious b → IfSome (by_class a b fault) (λ next. rank_of (class_of_fault next.vector) < rank_of a)
falls Benign Benign fault e s = absurd s
falls Benign Contributory fault e s = rw e (omega arith)
falls Benign PageFault fault e s = rw e (omega arith)
falls Benign DoubleFault fault e s = rw e (omega arith)
falls Contributory Benign fault e s = absurd s
falls Contributory Contributory fault e s = omega arith
falls Contributory PageFault fault e s = rw e (omega arith)
falls Contributory DoubleFault fault e s = rw e (omega arith)
falls PageFault Benign fault e s = absurd s
falls PageFault Contributory fault e s = omega arith
falls PageFault PageFault fault e s = omega arith
falls PageFault DoubleFault fault e s = rw e (omega arith)
falls DoubleFault b fault e s = tt

pub combine_falls : (cause : Cause) (fault : Fault) → Serious fault → IfSome (combine cause fault) (λ next. rank_of (class_of_fault next.vector) < rank_of (class_of cause))
unfolding combine
combine_falls cause fault s = falls (class_of cause) (class_of_fault fault.vector) fault refl s

-- ---- more deliveries than the rank are not made

pub followed_same : (n a : ℕ) (o : Option Fault) (r : Regs) (m : Mem) (x y : Cause → Regs → Mem → Outcome Arrival × Mem)
    → IfSome o (λ next. rank_of (class_of_fault next.vector) < a) → a ≤ n → ((c : Cause) (q : Regs) (k : Mem) → rank_of (class_of c) < n → x c q k ≡ y c q k)
    → followed_by o r m x ≡ followed_by o r m y
followed_same n a None r m x y h l e = refl
followed_same n a (Some fault) r m x y h l e = e (fault_cause r fault) (with_address r fault) m (omega (arith, h, l))

handled_same : (w : Outcome Regs × Mem) (k : Regs → Mem → Outcome Arrival × Mem) (x y : Fault → Mem → Outcome Arrival × Mem) → IfFailed Serious w.0
    → ((fault : Fault) (n : Mem) → Serious fault → x fault n ≡ y fault n) → handled w k x ≡ handled w k y
handled_same (Passed q, m) k x y h e = refl
handled_same (Failed fault, m) k x y h e = e fault m h
handled_same (NoStep, m) k x y h e = refl

module _ (serve : Serve) (raises : RaisesPageFaults serve) where
  one_more : (n : ℕ) (cause : Cause) (r : Regs) (m : Mem) → rank_of (class_of cause) < n → deliveries (suc n) serve cause r m ≡ deliveries n serve cause r m
  unfolding deliveries
  one_more zero cause r m h = absurd (omega (arith, h))
  one_more (suc n) cause r m h = handled_same (delivered_once serve cause r m) _ _ _ (once_serious serve raises cause r m) (λ fault k s.
      followed_same n (rank_of (class_of cause)) (combine cause fault) r k (deliveries (suc n) serve) (deliveries n serve) (combine_falls cause fault s) (omega (arith, h)) (λ c q j l. one_more n c q j l))

rank_below : (a : Class) → rank_of a < 4
rank_below Benign = omega arith
rank_below Contributory = omega arith
rank_below PageFault = omega arith
rank_below DoubleFault = omega arith

pub more_below : (a : Class) (n : ℕ) → rank_of a < 4 + n
more_below a n = let h = rank_below a in omega (arith, h)

-- NO FIFTH: with more deliveries allowed than four none more is made.
pub no_fifth : (serve : Serve) → RaisesPageFaults serve → (n : ℕ) (cause : Cause) (r : Regs) (m : Mem) → deliveries (4 + n) serve cause r m ≡ deliver serve cause r m
unfolding deliver
no_fifth serve raises zero cause r m = refl
no_fifth serve raises (suc n) cause r m = let e : 4 + suc n ≡ suc (4 + n) = omega arith in rw e (one_more serve raises (4 + n) cause r m (more_below (class_of cause) n) ∙ no_fifth serve raises n cause r m)

-- AGAIN: so a delivery is one delivery, and behind the fault of that a delivery.
pub again : (serve : Serve) → RaisesPageFaults serve → (cause : Cause) (r : Regs) (m : Mem)
    → deliver serve cause r m ≡ handled (delivered_once serve cause r m) (λ q n. (Passed (running q), n)) (λ fault n. followed_by (combine cause fault) r n (deliver serve))
unfolding deliver deliveries
again serve raises cause r m = sym (no_fifth serve raises 1 cause r m)

-- ---- there is a delivery

followed_steps : (n a : ℕ) (o : Option Fault) (r : Regs) (m : Mem) (x : Cause → Regs → Mem → Outcome Arrival × Mem)
    → IfSome o (λ next. rank_of (class_of_fault next.vector) < a) → a ≤ n → ((c : Cause) (q : Regs) (k : Mem) → rank_of (class_of c) < n → IsStep (x c q k).0)
    → IsStep (followed_by o r m x).0
followed_steps n a None r m x h l e = tt
followed_steps n a (Some fault) r m x h l e = e (fault_cause r fault) (with_address r fault) m (omega (arith, h, l))

handled_steps : (w : Outcome Regs × Mem) (k : Regs → Mem → Outcome Arrival × Mem) (x : Fault → Mem → Outcome Arrival × Mem) → IsStep w.0 → IfFailed Serious w.0
    → ((q : Regs) (n : Mem) → IsStep (k q n).0) → ((fault : Fault) (n : Mem) → Serious fault → IsStep (x fault n).0) → IsStep (handled w k x).0
handled_steps (Passed q, m) k x p s h e = h q m
handled_steps (Failed fault, m) k x p s h e = e fault m s
handled_steps (NoStep, m) k x p s h e = absurd p

module _ (serve : Serve) (raises : RaisesPageFaults serve) (serves : ServesAll serve) where
  deliveries_step : (n : ℕ) (cause : Cause) (r : Regs) (m : Mem) → rank_of (class_of cause) < n → IsStep (deliveries n serve cause r m).0
  unfolding deliveries
  deliveries_step zero cause r m h = absurd (omega (arith, h))
  deliveries_step (suc n) cause r m h = handled_steps (delivered_once serve cause r m) _ _ (once_steps serve serves cause r m) (once_serious serve raises cause r m) (λ q k. tt) (λ fault k s.
      followed_steps n (rank_of (class_of cause)) (combine cause fault) r k (deliveries n serve) (combine_falls cause fault s) (omega (arith, h)) (λ c q j l. deliveries_step n c q j l))

  -- ALWAYS: a delivery comes to a handler or to shutdown, where each page is served or faults.
  pub always_arrives : (cause : Cause) (r : Regs) (m : Mem) → IsStep (deliver serve cause r m).0
  unfolding deliver
  always_arrives cause r m = deliveries_step 4 cause r m (rank_below (class_of cause))

-- ---- choices

module _ (pick : Pick) (policy : Policy) (meets : Meets pick policy) where
  ext_follows : (ext : Bool) (m : Mem) (w : Outcome Regs × Mem) (f : Mem → Outcome Regs × Mem) → Follows m w f → Follows m (finished (with_ext ext w)) (λ n. finished (with_ext ext (f n)))
  unfolding committed discarded
  ext_follows ext m (Passed x, n) f p = record { items = p.items; same = λ rest. ap (λ v. finished (with_ext ext v)) (p.same rest); walks = p.walks }
  ext_follows ext m (Failed fault, n) f p = record { items = p.items; same = λ rest. ap (λ v. finished (with_ext ext v)) (p.same rest); walks = p.walks }
  ext_follows ext m (NoStep, n) f p = record { items = p.items; same = λ rest. ap (λ v. finished (with_ext ext v)) (p.same rest); walks = p.walks }

  once_follows : (cause : Cause) (r : Regs) (m : Mem) → Follows m (delivered_once (by_pick pick) cause r m) (λ n. delivered_once (by_list policy) cause r n)
  unfolding delivered_once
  once_follows cause r m = ext_follows cause.ext m (tried (by_pick pick) 0 (gate_plan cause r) m) (λ n. tried (by_list policy) 0 (gate_plan cause r) n)
      (tried_follows pick (by_list policy) (page_follows pick policy meets) 0 (gate_plan cause r) m)

  pub followed_follows : (o : Option Fault) (r : Regs) (m : Mem) (x y : Cause → Regs → Mem → Outcome Arrival × Mem)
      → ((c : Cause) (q : Regs) (k : Mem) → Follows k (x c q k) (λ n. y c q n)) → Follows m (followed_by o r m x) (λ n. followed_by o r n y)
  followed_follows None r m x y e = stays_follow m (Passed (shut_down r))
  followed_follows (Some fault) r m x y e = e (fault_cause r fault) (with_address r fault) m

  deliveries_follow : (n : ℕ) (cause : Cause) (r : Regs) (m : Mem) → Follows m (deliveries n (by_pick pick) cause r m) (λ k. deliveries n (by_list policy) cause r k)
  unfolding deliveries
  deliveries_follow zero cause r m = stays_follow m NoStep
  deliveries_follow (suc n) cause r m = handled_follows m (delivered_once (by_pick pick) cause r m) _ _ (λ k. delivered_once (by_list policy) cause r k) _ _ (once_follows cause r m)
      (λ q k. stays_follow k (Passed (running q))) (λ fault k. followed_follows (combine cause fault) r k (deliveries n (by_pick pick)) (deliveries n (by_list policy)) (λ c q j. deliveries_follow n c q j))

  -- CHOICES: what a rule delivers is delivered by a list of items, and the walks are counted.
  pub deliver_follows : (cause : Cause) (r : Regs) (m : Mem) → Follows m (deliver (by_pick pick) cause r m) (λ n. deliver (by_list policy) cause r n)
  unfolding deliver
  deliver_follows cause r m = deliveries_follow 4 cause r m

-- ---- memory

finished_kept : (ext : Bool) (m : Mem) (w : Outcome Regs × Mem) → KeepsWatch m w.1 → KeepsWatch m (finished (with_ext ext w)).1
unfolding committed discarded
finished_kept ext m (Passed x, n) h = record { served = h.served; watch = h.watch; hits = h.hits }
finished_kept ext m (Failed fault, n) h = record { served = h.served; watch = h.watch; hits = h.hits }
finished_kept ext m (NoStep, n) h = record { served = h.served; watch = h.watch; hits = h.hits }

-- a delivery by a rule leaves what stands beside the contents of memory
pub once_keeps : (pick : Pick) (cause : Cause) (r : Regs) (m : Mem) → KeepsWatch m (delivered_once (by_pick pick) cause r m).1
unfolding delivered_once
once_keeps pick cause r m = finished_kept cause.ext m (tried (by_pick pick) 0 (gate_plan cause r) m) (tried_keeps pick 0 (gate_plan cause r) m)

handled_keeps : (m : Mem) (w : Outcome Regs × Mem) (k : Regs → Mem → Outcome Arrival × Mem) (x : Fault → Mem → Outcome Arrival × Mem) → KeepsWatch m w.1
    → ((q : Regs) (n : Mem) → KeepsWatch n (k q n).1) → ((fault : Fault) (n : Mem) → KeepsWatch n (x fault n).1) → KeepsWatch m (handled w k x).1
handled_keeps m (Passed q, n) k x h e f = then_kept h (e q n)
handled_keeps m (Failed fault, n) k x h e f = then_kept h (f fault n)
handled_keeps m (NoStep, n) k x h e f = h

kept : (m : Mem) → KeepsWatch m m
kept m = record { served = refl; watch = refl; hits = λ _. refl }

followed_keeps : (o : Option Fault) (r : Regs) (m : Mem) (x : Cause → Regs → Mem → Outcome Arrival × Mem)
    → ((c : Cause) (q : Regs) (k : Mem) → KeepsWatch k (x c q k).1) → KeepsWatch m (followed_by o r m x).1
followed_keeps None r m x e = kept m
followed_keeps (Some fault) r m x e = e (fault_cause r fault) (with_address r fault) m

deliveries_keep : (pick : Pick) (n : ℕ) (cause : Cause) (r : Regs) (m : Mem) → KeepsWatch m (deliveries n (by_pick pick) cause r m).1
unfolding deliveries
deliveries_keep pick zero cause r m = kept m
deliveries_keep pick (suc n) cause r m = handled_keeps m (delivered_once (by_pick pick) cause r m) _ _ (once_keeps pick cause r m) (λ q k. kept k)
    (λ fault k. followed_keeps (combine cause fault) r k (deliveries n (by_pick pick)) (λ c q j. deliveries_keep pick n c q j))

pub deliver_keeps : (pick : Pick) (cause : Cause) (r : Regs) (m : Mem) → KeepsWatch m (deliver (by_pick pick) cause r m).1
unfolding deliver
deliver_keeps pick cause r m = deliveries_keep pick 4 cause r m

-- RESTART: a delivery that raises a fault leaves memory as it was but for the cache and the marks of walks.
once_bare : (ext : Bool) (m : Mem) (w : Outcome Regs × Mem) → Leaves m w → IsFailed (finished (with_ext ext w)).0 → (bare (finished (with_ext ext w)).1 ≡ bare m) × ((finished (with_ext ext w)).1.held ≡ [])
unfolding discarded
once_bare ext m (Passed x, n) l f = absurd f
once_bare ext m (Failed fault, n) l f = (l.same, refl)
once_bare ext m (NoStep, n) l f = absurd f

pub once_restarts : (serve : Serve) → OnlyMarks serve → (cause : Cause) (r : Regs) (m : Mem) → IsFailed (delivered_once serve cause r m).0
    → (bare (delivered_once serve cause r m).1 ≡ bare m) × ((delivered_once serve cause r m).1.held ≡ [])
unfolding delivered_once
once_restarts serve marks cause r m f = once_bare cause.ext m (tried serve 0 (gate_plan cause r) m) (tried_bare serve marks 0 (gate_plan cause r) m) f
