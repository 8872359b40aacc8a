-- What comes through a window on the code is what is fetched.
use Rattle.std.proofs.Common.{◌≡◌, ℕ, suc, ◌+◌, ◌%◌, ◌^◌, Bool, true, false, List, [], ◌∷◌, ◌++◌, length, refl, sym, ap, subst, ◌∙◌, arith, Result, Ok, Err}
use Rattle.std.specs.Prelude.{nat_le, if◌then◌else◌}
use Rattle.mdl_state.specs.declared.Size.TheVariants.{B1}
use Rattle.mdl_state.specs.declared.Seg.TheVariants.{Cs}
use Rattle.mdl_state.specs.declared.Regs.{Regs}
use Rattle.mdl_state.specs.declared.Fault.{Fault}
use Rattle.mdl_state.specs.Accesses.{Keeps}
use Rattle.mdl_state.specs.State.{Mem}
use Rattle.mdl_state.specs.Registers.{seg_of}
use Rattle.mdl_state.specs.Serving.{Pick, Outcome, Passed, Failed, by_pick, on}
use Rattle.mdl_state.specs.Attempt.{Plan, Done, Fail, Load, then_plan, tried}
use Rattle.mdl_state.specs.AttemptLaws.{tried-then_plan}
use Rattle.mdl_cpu.specs.Segments.{who_of}
use Rattle.mdl_cpu.specs.Faults.{general_protection}
use Rattle.mdl_step.specs.Fetching.{fetched_from}
use Rattle.mdl_cpu.specs.Deliveries.{KeepsWatch}
use Rattle.mdl_cpu.proofs.ServingLaws.{tried_keeps, then_kept}
use Rattle.mdl_insn.specs.declared.instruction.Insn.{Insn}
use Rattle.insn_decode.specs.declared.refusals.Undecoded.{Undecoded}
use Rattle.insn_decode.specs.declared.refusals.Undecoded.TheVariants as causes
use Rattle.insn_decode.specs.Decoded as decoded
use Rattle.insn_decode.specs.Decoded.{Came}
use Rattle.cpu_core.specs.Window.{Window, byte_plan, Gives, IsAt}

-- ---- one byte

-- the window's byte is byte n of the code
abbrev pub one_of : Regs → ℕ → Plan ℕ
one_of r n = if nat_le (r.eip + n) (seg_of r Cs).limit then Load (((seg_of r Cs).base + (r.eip + n)) % 2 ^ 32) B1 (who_of r) (λ byte. Done byte) else Fail (general_protection 0)

same_byte : (r : Regs) (n : ℕ) (w : Window) → IsAt r n w → byte_plan w ≡ one_of r n
same_byte r n w at = rw (at.base, at.limit, at.who, at.offset) refl

-- more bytes are one byte and then the others
abbrev pub others : Regs → ℕ → ℕ → ℕ → Plan (List ℕ)
others r n count byte = then_plan (fetched_from r (n + 1) count) (λ more. Done (byte ∷ more))

pub more_fetched : (r : Regs) (n count : ℕ) → fetched_from r n (suc count) ≡ then_plan (one_of r n) (others r n count)
unfolding then_plan
more_fetched r n count = by_limit (nat_le (r.eip + n) (seg_of r Cs).limit) refl
  where
    by_limit : (v : Bool) → nat_le (r.eip + n) (seg_of r Cs).limit ≡ v → fetched_from r n (suc count) ≡ then_plan (one_of r n) (others r n count)
    by_limit true e = rw e refl
    by_limit false e = rw e refl

next_at : (r : Regs) (n : ℕ) (pick : Pick) (w v : Window) (byte : ℕ) → IsAt r n w → Gives pick w (Ok byte) v → IsAt r (n + 1) v
next_at r n pick w v byte at g = record {
  base = g.base ∙ at.base;
  limit = g.limit ∙ at.limit;
  who = g.who ∙ at.who;
  offset = let o = at.offset in let p = g.next in omega arith;
}

-- ---- several bytes

abbrev pub by_window : {S : Type 0} → Pick → (S → Window) → S → Result ℕ Fault → S → Type 0
by_window pick window s r t = Gives pick (window s) r (window t)

-- one byte, and then others, of which it is known what they come to
one_and : (pick : Pick) (r : Regs) (n count : ℕ) (w : Window) → IsAt r n w
    → tried (by_pick pick) 0 (fetched_from r n (suc count)) w.mem ≡ on (tried (by_pick pick) 0 (byte_plan w) w.mem) (λ x m. tried (by_pick pick) 0 (others r n count x) m)
one_and pick r n count w at = let serve = by_pick pick in
    ap (λ (p : Plan (List ℕ)). tried serve 0 p w.mem) (more_fetched r n count)
    ∙ tried-then_plan serve 0 (one_of r n) (others r n count) w.mem
    ∙ ap (λ (p : Plan ℕ). on (tried serve 0 p w.mem) (λ x m. tried serve 0 (others r n count x) m)) (sym (same_byte r n w at))

-- what came through the window is fetched
pub came_fetched : {S : Type 0} (pick : Pick) (window : S → Window) (r : Regs) (n : ℕ) (s : S) (bytes : List ℕ) (e : S) → IsAt r n (window s)
    → Came (by_window pick window) s bytes e → tried (by_pick pick) 0 (fetched_from r n (length bytes)) (window s).mem ≡ (Passed bytes, (window e).mem)
came_fetched pick window r n s [] e at came = ap (λ (t : _). (Passed [], (window t).mem)) (sym came)
came_fetched pick window r n s (b ∷ bytes) e at came =
    let g = came.1 in
    let mid = came.0 in
    let more = came_fetched pick window r (n + 1) mid bytes e (next_at r n pick (window s) (window mid) b at g) came.2 in
    let serve = by_pick pick in
    one_and pick r n (length bytes) (window s) at
    ∙ ap (λ w. on w (λ x m. tried serve 0 (others r n (length bytes) x) m)) (sym g.byte)
    ∙ tried-then_plan serve 0 (fetched_from r (n + 1) (length bytes)) (λ more. Done (b ∷ more)) (window mid).mem
    ∙ ap (λ w. on w (λ x m. tried serve 0 (Done (b ∷ x)) m)) more

-- and the window then is behind it
pub came_at : {S : Type 0} (pick : Pick) (window : S → Window) (r : Regs) (n : ℕ) (s : S) (bytes : List ℕ) (e : S) → IsAt r n (window s)
    → Came (by_window pick window) s bytes e → IsAt r (n + length bytes) (window e)
came_at pick window r n s [] e at came =
    let there = subst (λ (t : _). IsAt r n (window t)) (sym came) at in
    record { base = there.base; limit = there.limit; who = there.who; offset = (let o = there.offset in omega arith) }
came_at pick window r n s (b ∷ bytes) e at came =
    let there = came_at pick window r (n + 1) came.0 bytes e (next_at r n pick (window s) (window came.0) b at came.1) came.2 in
    record { base = there.base; limit = there.limit; who = there.who; offset = (let o = there.offset in omega arith) }

-- a byte that is not given is not fetched
pub cut_fetched : (pick : Pick) (r : Regs) (n : ℕ) (w v : Window) (fault : Fault) → IsAt r n w → Gives pick w (Err fault) v
    → tried (by_pick pick) 0 (fetched_from r n 1) w.mem ≡ (Failed fault, v.mem)
cut_fetched pick r n w v fault at g = one_and pick r n 0 w at ∙ ap (λ t. on t (λ x m. tried (by_pick pick) 0 (others r n 0 x) m)) (sym g.byte)

-- ---- what a fetch leaves

-- what stays as bytes are fetched
pub record Stays (m n : Mem) : Type 0 where
  pub keeps : Keeps m n
  pub held : n.held ≡ m.held
  pub watch : KeepsWatch m n

pub keeps_all : (m : Mem) → Keeps m m
keeps_all m = record { paging = refl; cr3 = refl; physical = record { a20 = refl; rom = refl; ram = refl } }

stays : (m : Mem) → Stays m m
stays m = record {
  keeps = keeps_all m;
  held = refl;
  watch = record { served = refl; watch = refl; hits = λ _. refl };
}

then_stays : (l m n : Mem) → Stays l m → Stays m n → Stays l n
then_stays l m n a b = record {
  keeps = record {
    paging = b.keeps.paging ∙ a.keeps.paging;
    cr3 = b.keeps.cr3 ∙ a.keeps.cr3;
    physical = record {
      a20 = b.keeps.physical.a20 ∙ a.keeps.physical.a20;
      rom = b.keeps.physical.rom ∙ a.keeps.physical.rom;
      ram = b.keeps.physical.ram ∙ a.keeps.physical.ram;
    };
  };
  held = b.held ∙ a.held;
  watch = then_kept a.watch b.watch;
}

gives_stays : (pick : Pick) (w v : Window) (r : Result ℕ Fault) → Gives pick w r v → Stays w.mem v.mem
gives_stays pick w v r g = record {
  keeps = g.keeps;
  held = g.held;
  watch = subst (λ (x : Outcome ℕ × Mem). KeepsWatch w.mem x.1) (sym g.byte) (tried_keeps pick 0 (byte_plan w) w.mem);
}

came_stays : {S : Type 0} (pick : Pick) (window : S → Window) (s : S) (bytes : List ℕ) (e : S) → Came (by_window pick window) s bytes e → Stays (window s).mem (window e).mem
came_stays pick window s [] e came = subst (λ (t : _). Stays (window s).mem (window t).mem) (sym came) (stays (window s).mem)
came_stays pick window s (b ∷ bytes) e came = then_stays _ _ _ (gives_stays pick (window s) (window came.0) (Ok b) came.1) (came_stays pick window came.0 bytes e came.2)

module _ {S : Type 0} (pick : Pick) (window : S → Window) (big : Bool) (s e : S) where
  pub takes_stays : (insn : Insn) (count : ℕ) → decoded.Takes (by_window pick window) big s insn count e → Stays (window s).mem (window e).mem
  takes_stays insn count t = came_stays pick window s t.bytes e t.came

  pub refuses_stays : (cause : Undecoded) → decoded.Refused (by_window pick window) big s cause e → Stays (window s).mem (window e).mem
  refuses_stays causes.Undefined u = came_stays pick window s (u.front ++ u.last ∷ []) e u.came
  refuses_stays causes.TooLong u = came_stays pick window s u.bytes e u.came
  refuses_stays (causes.Fetch fault) u = then_stays _ _ _ (came_stays pick window s u.bytes u.mid u.came) (gives_stays pick (window u.mid) (window e) _ u.fails)
