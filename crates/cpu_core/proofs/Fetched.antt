-- What decoding says of the instruction at CS:EIP.
use Rattle.std.proofs.Common.{◌≡◌, ℕ, Bool, [], ◌∷◌, ◌++◌, length, refl, sym, subst, arith, inl, inr, length-append}
use Rattle.mdl_state.specs.declared.Regs.{Regs}
use Rattle.mdl_state.specs.declared.Fault.{Fault}
use Rattle.mdl_state.specs.declared.Seg.TheVariants.{Cs}
use Rattle.mdl_state.specs.Registers.{seg_of}
use Rattle.mdl_state.specs.Serving.{Pick, by_pick, Passed}
use Rattle.mdl_state.specs.Attempt.{tried}
use Rattle.mdl_cpu.specs.Segments.{who_of}
use Rattle.mdl_cpu.specs.SystemFlags.{VM}
use Rattle.mdl_cpu.specs.Faults.{undefined_opcode, general_protection}
use Rattle.mdl_insn.specs.declared.instruction.Insn.{Insn}
use Rattle.mdl_insn.specs.Spelling.{Spelt, Begun}
use Rattle.mdl_step.specs.Fetching.{fetched_from, fetch_plan, is_wide, Instruction, Refused, Fetches}
use Rattle.insn_decode.specs.declared.refusals.Undecoded.{Undecoded}
use Rattle.insn_decode.specs.declared.refusals.Undecoded.TheVariants as causes
use Rattle.insn_decode.specs.Decoded as decoded
use Rattle.operands.specs.Whole.{whole}
use Rattle.operands.proofs.Statuses.{other_bit}
use Rattle.cpu_core.specs.Window.{Window, IsAt, fault_of}
use Rattle.cpu_core.proofs.Windows.{by_window, came_fetched, came_at, cut_fetched}

-- a window that was put at CS:EIP
pub started : (r : Regs) (flags : ℕ) (w : Window) → w.base ≡ (seg_of r Cs).base → w.limit ≡ (seg_of r Cs).limit → w.who ≡ who_of r → w.offset ≡ r.eip → IsAt (whole r flags) 0 w
unfolding seg_of
started r flags w base limit who offset = record { base = base; limit = limit; who = who; offset = omega (arith, offset) }

-- the size of code is not of the status flags
pub whole_wide : (r : Regs) (flags : ℕ) → is_wide (whole r flags) ≡ is_wide r
unfolding seg_of
whole_wide r flags = rw (other_bit r.eflags flags VM (omega arith) (omega arith) (omega arith) (omega arith) (omega arith) (omega arith)) refl

module _ {S : Type 0} (pick : Pick) (window : S → Window) (r : Regs) (s e : S) (at : IsAt r 0 (window s)) (big : Bool) (wide : is_wide r ≡ big) where
  pub takes : (insn : Insn) (count : ℕ) → decoded.Takes (by_window pick window) big s insn count e → Fetches (by_pick pick) r (window s).mem (Instruction insn count) (window e).mem
  unfolding fetch_plan
  takes insn count t = record {
    bytes = t.bytes;
    within = t.within;
    fetched = subst (λ (k : ℕ). tried (by_pick pick) 0 (fetched_from r 0 k) (window s).mem ≡ (Passed t.bytes, (window e).mem)) t.len_is (came_fetched pick window r 0 s t.bytes e at t.came);
    spelt = subst (λ (b : Bool). Spelt t.bytes b insn) (sym wide) t.spelt;
  }

  undefined : decoded.IsUndefined (by_window pick window) big s e → Fetches (by_pick pick) r (window s).mem (Refused undefined_opcode) (window e).mem
  unfolding fetch_plan
  undefined u = inl (
    record {
      front = u.front;
      last = u.last;
      within = u.within;
      fetched = subst (λ (k : ℕ). tried (by_pick pick) 0 (fetched_from r 0 k) (window s).mem ≡ (Passed (u.front ++ u.last ∷ []), (window e).mem)) (length-append u.front (u.last ∷ []))
          (came_fetched pick window r 0 s (u.front ++ u.last ∷ []) e at u.came);
      begun = subst (λ (b : Bool). Begun u.front b) (sym wide) u.begun;
      not_begun = λ b. u.not_begun (subst (λ (b : Bool). Begun (u.front ++ u.last ∷ []) b) wide b);
      not_spelt = λ insn b. u.not_spelt insn (subst (λ (b : Bool). Spelt (u.front ++ u.last ∷ []) b insn) wide b);
    },
    refl,
  )

  too_long : decoded.IsLong (by_window pick window) big s e → Fetches (by_pick pick) r (window s).mem (Refused (general_protection 0)) (window e).mem
  unfolding fetch_plan
  too_long u = inr (inl (
    record {
      bytes = u.bytes;
      fetched = subst (λ (k : ℕ). tried (by_pick pick) 0 (fetched_from r 0 k) (window s).mem ≡ (Passed u.bytes, (window e).mem)) u.len_is (came_fetched pick window r 0 s u.bytes e at u.came);
      begun = subst (λ (b : Bool). Begun u.bytes b) (sym wide) u.begun;
    },
    refl,
  ))

  cut : (fault : Fault) → decoded.IsCut (by_window pick window) big s fault e → Fetches (by_pick pick) r (window s).mem (Refused fault) (window e).mem
  unfolding fetch_plan
  cut fault u = let there = came_at pick window r 0 s u.bytes u.mid at u.came in inr (inr (record {
    bytes = u.bytes;
    before = (window u.mid).mem;
    within = u.within;
    fetched = came_fetched pick window r 0 s u.bytes u.mid at u.came;
    begun = subst (λ (b : Bool). Begun u.bytes b) (sym wide) u.begun;
    failed = cut_fetched pick r (length u.bytes) (window u.mid) (window e) fault
        (record { base = there.base; limit = there.limit; who = there.who; offset = (let o = there.offset in omega arith) }) u.fails;
  }))

  -- why there is no instruction, as a fault
  pub refuses : (cause : Undecoded) → decoded.Refused (by_window pick window) big s cause e → Fetches (by_pick pick) r (window s).mem (Refused (fault_of cause)) (window e).mem
  refuses causes.Undefined u = undefined u
  refuses causes.TooLong u = too_long u
  refuses (causes.Fetch fault) u = cut fault u
