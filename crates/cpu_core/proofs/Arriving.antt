-- The processor behind a delivery, a reset, or an instruction.
use Rattle.std.proofs.Common.{◌≡◌, ◌≢◌, ◌==◌, ℕ, Bool, true, false, refl, sym, ap, subst, ◌∙◌, arith}
use Rattle.std.specs.Prelude.{if◌then◌else◌, bit_or}
use Rattle.std.specs.FinMap.{empty}
use Rattle.std.proofs.lemmas.Bool.{false≢true}
use Rattle.mdl_state.specs.declared.Regs.{Regs}
use Rattle.mdl_state.specs.declared.Activity.{Activity}
use Rattle.mdl_state.specs.declared.Next.{Next}
use Rattle.mdl_state.specs.declared.Next.TheVariants as next
use Rattle.mdl_state.specs.State.{Mem, Core}
use Rattle.mdl_state.specs.Boot.{reset_regs}
use Rattle.mdl_state.specs.Bytes.{bit}
use Rattle.mdl_state.specs.Accesses.{with_a20}
use Rattle.mdl_num.specs.Flags.{with_bit}
use Rattle.mdl_num.proofs.Places.{bit_at-with_bit_other, with_bit-lt}
use Rattle.mdl_cpu.specs.SystemFlags.{RF}
use Rattle.mdl_cpu.specs.Steady.{Steady, IsSound, steady_sound, steady_agrees}
use Rattle.mdl_insn.specs.declared.mnemonics.Op.{Op}
use Rattle.mdl_step.specs.Delivering.{BT, arrived}
use Rattle.mdl_step.specs.Step.{keeps_resume, landed, resumed}
use Rattle.lazy_flags.specs.Keeper.{kept}
use Rattle.mdl_state.specs.declared.Size.TheVariants.{B4}
use Rattle.lazy_flags.specs.declared.operation.FlagOp.TheVariants.{Plain}
use Rattle.operands.specs.Whole.{whole}
use Rattle.fault_delivery.specs.declared.deliveries.Delivered.{Delivered}
use Rattle.fault_delivery.specs.declared.deliveries.Delivered.TheVariants.{Done, Shutdown}
use Rattle.fault_delivery.specs.Arrivals.{arrival}
use Rattle.cpu_core.specs.Plain.{IsPlain, IsQuiet, IsReady, IsSettled}
use Rattle.cpu_core.proofs.Families.{whole_unpacked}

-- ---- a delivery

pub arrived_as : (core : Core) (d : Delivered) (r q : Regs) (activity : Activity) (pending : ℕ) → q ≡ r → activity ≡ (arrival d r).activity
    → pending ≡ (if (arrival d r).trap then bit_or core.latches.pending BT else core.latches.pending)
    → arrived core (arrival d r) ≡ record core { regs = q; activity = activity; latches = record core.latches { pending = pending } }
arrived_as core (Done true) r q activity pending a b c = rw (a, b, c) refl
arrived_as core (Done false) r q activity pending a b c = rw (a, b, c) refl
arrived_as core Shutdown r q activity pending a b c = rw (a, b, c) refl

-- ---- a reset

-- registers of real mode with no flag set are sound
pub real_sound : (r : Regs) → r.cr0 ≡ 0 → r.eflags ≡ 2 → r.cpl ≡ 0 → IsSound r
real_sound r control flags level = record {
  real = λ _. level;
  virtual_level = λ e. absurd (false≢true (ap (λ (n : ℕ). bit n 17) (sym flags) ∙ e));
  virtual_mode = λ e. absurd (false≢true (ap (λ (n : ℕ). bit n 17) (sym flags) ∙ e));
  paged_mode = λ e. absurd (false≢true (ap (λ (n : ℕ). bit n 31) (sym control) ∙ e));
  level = omega (arith, level);
  flags = rw flags (record { one = refl; three = refl; five = refl; fifteen = refl; above = omega arith });
}

-- and those with RF 1
pub resumed_sound : (r : Regs) → r.cr0 ≡ 0 → r.eflags ≡ 0x10002 → r.cpl ≡ 0 → IsSound r
resumed_sound r control flags level = record {
  real = λ _. level;
  virtual_level = λ e. absurd (false≢true (ap (λ (n : ℕ). bit n 17) (sym flags) ∙ e));
  virtual_mode = λ e. absurd (false≢true (ap (λ (n : ℕ). bit n 17) (sym flags) ∙ e));
  paged_mode = λ e. absurd (false≢true (ap (λ (n : ℕ). bit n 31) (sym control) ∙ e));
  level = omega (arith, level);
  flags = rw flags (record { one = refl; three = refl; five = refl; fifteen = refl; above = omega arith });
}

-- and those of protected mode with paging, at level 0
pub paged_sound : (r : Regs) → r.cr0 ≡ 0x80000001 → r.eflags ≡ 2 → r.cpl ≡ 0 → IsSound r
paged_sound r control flags level = record {
  real = λ _. level;
  virtual_level = λ e. absurd (false≢true (ap (λ (n : ℕ). bit n 17) (sym flags) ∙ e));
  virtual_mode = λ e. absurd (false≢true (ap (λ (n : ℕ). bit n 17) (sym flags) ∙ e));
  paged_mode = λ _. ap (λ (n : ℕ). bit n 0) control;
  level = omega (arith, level);
  flags = rw flags (record { one = refl; three = refl; five = refl; fifteen = refl; above = omega arith });
}

-- over memory that pages as they say
pub unpaged_ready : (r : Regs) (m : Mem) → r.cr0 ≡ 0 → r.cr3 ≡ 0 → IsSound r → IsPlain m → IsReady r m
unpaged_ready r m control directory sound plain = record {
  sound = sound;
  tables = record { paging = plain.paging ∙ ap (λ (n : ℕ). bit n 31) (sym control); cr3 = plain.cr3 ∙ sym directory };
  quiet = plain.quiet;
}

pub paged_ready : (r : Regs) (m : Mem) → r.cr0 ≡ 0x80000001 → r.cr3 ≡ 0x5000 → IsSound r → m.paging ≡ true → m.cr3 ≡ 0x5000 → IsQuiet m → IsReady r m
paged_ready r m control directory sound paging tables quiet = record {
  sound = sound;
  tables = record { paging = paging ∙ ap (λ (n : ℕ). bit n 31) (sym control); cr3 = tables ∙ sym directory };
  quiet = quiet;
}

-- the registers after a reset, over plain memory
pub reset_plain : (r : Regs) (f : ℕ) (m : Mem) → r ≡ reset_regs → f ≡ kept Plain r.eflags 0 B4 → IsPlain m → IsReady (whole r f) m
reset_plain r f m is unpacked plain = subst (λ (q : Regs). IsReady q m) (sym (ap (whole r) unpacked ∙ whole_unpacked r ∙ is))
    (record { sound = real_sound reset_regs refl refl refl; tables = record { paging = plain.paging; cr3 = plain.cr3 }; quiet = plain.quiet })

pub reset_ready : (r q : Regs) (f : ℕ) (on : Bool) (m n : Mem) → r ≡ reset_regs → f ≡ kept Plain r.eflags 0 B4 → IsReady q m → n ≡ with_a20 on (record m { paging = false; cr3 = 0; cache = empty }) → IsReady (whole r f) n
reset_ready r q f on m n is unpacked ready same = reset_plain r f n is unpacked (record {
  paging = ap (λ (k : Mem). k.paging) same;
  cr3 = ap (λ (k : Mem). k.cr3) same;
  quiet = record {
    held = ap (λ (k : Mem). k.held) same ∙ ready.quiet.held;
    served = ap (λ (k : Mem). k.served) same ∙ ready.quiet.served;
    watch = ap (λ (k : Mem). k.watch) same ∙ ready.quiet.watch;
    hits = ap (λ (k : Mem). k.hits) same ∙ ready.quiet.hits;
  };
})

-- ---- an instruction

stays : (r : Regs) → Steady r r
stays r = record { cr0 = refl; cr3 = refl; cpl = refl; virtual = refl; flags = λ h. h }

landed_stays : (after : Next) (r : Regs) (back : ℕ) → Steady r (landed after r back)
landed_stays next.Landed r back = stays r
landed_stays next.Again r back = stays r
landed_stays (next.Soft vector) r back = stays r
landed_stays (next.Task trap) r back = stays r
landed_stays next.Follow r back = record { cr0 = refl; cr3 = refl; cpl = refl; virtual = refl; flags = λ h. h }
landed_stays next.Halt r back = record { cr0 = refl; cr3 = refl; cpl = refl; virtual = refl; flags = λ h. h }
landed_stays next.HoldAll r back = record { cr0 = refl; cr3 = refl; cpl = refl; virtual = refl; flags = λ h. h }
landed_stays next.HoldIntr r back = record { cr0 = refl; cr3 = refl; cpl = refl; virtual = refl; flags = λ h. h }

same_bit : (n j : ℕ) → j ≢ RF → bit (with_bit n RF 0) j ≡ bit n j
same_bit n j other = ap (λ v. v == 1) (bit_at-with_bit_other n RF 0 j (omega arith) other)

clear_stays : (r : Regs) → Steady r (record r { eflags = with_bit r.eflags RF 0 })
clear_stays r = record {
  cr0 = refl;
  cr3 = refl;
  cpl = refl;
  virtual = same_bit r.eflags 17 (omega arith);
  flags = λ h. record {
    one = same_bit r.eflags 1 (omega arith) ∙ h.one;
    three = same_bit r.eflags 3 (omega arith) ∙ h.three;
    five = same_bit r.eflags 5 (omega arith) ∙ h.five;
    fifteen = same_bit r.eflags 15 (omega arith) ∙ h.fifteen;
    above = with_bit-lt r.eflags RF 0 18 h.above (omega arith) (omega arith);
  };
}

either_stays : (keeps : Bool) (r : Regs) → Steady r (if keeps then r else record r { eflags = with_bit r.eflags RF 0 })
either_stays true r = stays r
either_stays false r = clear_stays r

steady_ready : (r q : Regs) (m : Mem) → Steady r q → IsReady r m → IsReady q m
steady_ready r q m kept ready = record { sound = steady_sound r q kept ready.sound; tables = steady_agrees r q m kept ready.tables; quiet = ready.quiet }

pub landed_ready : (op : Op) (after : Next) (r : Regs) (back : ℕ) (m : Mem) → IsReady r m → IsReady (resumed op after (landed after r back)) m
landed_ready op after r back m ready = steady_ready (landed after r back) _ m (either_stays (keeps_resume op after) (landed after r back)) (steady_ready r (landed after r back) m (landed_stays after r back) ready)

-- and settled, whatever breakpoints are looked for
steady_settled : (r q : Regs) (m : Mem) → Steady r q → IsSettled r m → IsSettled q m
steady_settled r q m kept settled = record { sound = steady_sound r q kept settled.sound; tables = steady_agrees r q m kept settled.tables; still = settled.still }

pub landed_settled : (op : Op) (after : Next) (r : Regs) (back : ℕ) (m : Mem) → IsSettled r m → IsSettled (resumed op after (landed after r back)) m
landed_settled op after r back m settled = steady_settled (landed after r back) _ m (either_stays (keeps_resume op after) (landed after r back)) (steady_settled r (landed after r back) m (landed_stays after r back) settled)
