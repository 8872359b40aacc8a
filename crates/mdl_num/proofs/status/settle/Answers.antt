use Rattle.std.proofs.Common.{◌≡◌, ◌≢◌, ℕ, ◌∙◌, ap, arith, refl}
use Rattle.mdl_num.specs.Flags.{put, flags_after}
use Rattle.mdl_num.specs.declared.status.TheConstants.{CF, PF, AF, ZF, SF, OF}
use Rattle.mdl_num.proofs.status.settle.Goals as goal

-- each step puts its own flag, and no later step touches it
pub returns : goal.returns
unfolding flags_after
returns c =
    let free = c.placed.result in
    let s = c.args.status in
    let kept6 = c.placed.ensures.rest in
    let kept5 = λ (k : ℕ) (e : k ≢ SF) (f : k ≢ OF). kept6 k f ∙ c.placed-flags-5.ensures.rest k e in
    let kept4 = λ (k : ℕ) (d : k ≢ ZF) (e : k ≢ SF) (f : k ≢ OF). kept5 k e f ∙ c.placed-flags-4.ensures.rest k d in
    let kept3 = λ (k : ℕ) (a : k ≢ AF) (d : k ≢ ZF) (e : k ≢ SF) (f : k ≢ OF). kept4 k d e f ∙ c.placed-flags-3.ensures.rest k a in
    let kept2 = λ (k : ℕ) (p : k ≢ PF) (a : k ≢ AF) (d : k ≢ ZF) (e : k ≢ SF) (f : k ≢ OF). kept3 k a d e f ∙ c.placed-flags-2.ensures.rest k p in
    let carry : c.placed-flags.result ≡ put CF s.carry free c.args.flags = c.placed-flags.ensures.own free (kept2 CF (omega arith) (omega arith) (omega arith) (omega arith) (omega arith)) in
    let parity : c.placed-flags-2.result ≡ put PF s.parity free c.placed-flags.result = c.placed-flags-2.ensures.own free (kept3 PF (omega arith) (omega arith) (omega arith) (omega arith)) in
    let adjust : c.placed-flags-3.result ≡ put AF s.adjust free c.placed-flags-2.result = c.placed-flags-3.ensures.own free (kept4 AF (omega arith) (omega arith) (omega arith)) in
    let zero : c.placed-flags-4.result ≡ put ZF s.zero free c.placed-flags-3.result = c.placed-flags-4.ensures.own free (kept5 ZF (omega arith) (omega arith)) in
    let sign : c.placed-flags-5.result ≡ put SF s.sign free c.placed-flags-4.result = c.placed-flags-5.ensures.own free (kept6 SF (omega arith)) in
    let overflow : free ≡ put OF s.overflow free c.placed-flags-5.result = c.placed.ensures.own free refl in
    overflow
    ∙ ap (put OF s.overflow free) (sign
    ∙ ap (put SF s.sign free) (zero
    ∙ ap (put ZF s.zero free) (adjust
    ∙ ap (put AF s.adjust free) (parity
    ∙ ap (put PF s.parity free) carry))))
