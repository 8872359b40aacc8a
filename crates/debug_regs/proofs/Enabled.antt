-- Which breakpoints are enabled, and what meets them.
use Rattle.std.proofs.Common.{◌≡◌, ℕ, ◌/◌, ◌%◌, ◌==◌, ◌&&◌, Bool, true, false, List, [], ◌∷◌, refl, sym, ap, arith, ◌∙◌}
use Rattle.std.specs.Prelude.{if◌then◌else◌, bit_or, not}
use Rattle.std.specs.Bool.{OnFalse}
use Rattle.std.proofs.lemmas.Bool.{eqb-true}
use Rattle.mdl_state.specs.declared.Regs.{Regs}
use Rattle.mdl_state.specs.declared.Size.{Size}
use Rattle.mdl_state.specs.declared.Who.TheVariants.{User, Supervisor}
use Rattle.mdl_state.specs.declared.Watch.{Watch}
use Rattle.mdl_state.specs.Watches.{meets, hits_after}
use Rattle.mdl_cpu.specs.Breakpoints.{is_enabled, kind_of, breakpoint, breakpoints_that, data_breakpoints, bits_at, execution_hits}
use Rattle.debug_regs.specs.Asked.{access_by}
use Rattle.debug_regs.specs.Enabled.{with_data, with_bits, with_execution}

-- ---- where none is enabled

clear : (n d : ℕ) → n / d % 2 ≡ 0 → (n / d % 2 == 1) ≡ false
clear n d e = rw e refl

enabled0 : (r : Regs) → r.dr7 % 0x100 ≡ 0 → is_enabled r 0 ≡ false
enabled0 r e = rw (clear r.dr7 1 (omega arith), clear r.dr7 2 (omega arith)) refl

enabled1 : (r : Regs) → r.dr7 % 0x100 ≡ 0 → is_enabled r 1 ≡ false
enabled1 r e = rw (clear r.dr7 4 (omega arith), clear r.dr7 8 (omega arith)) refl

enabled2 : (r : Regs) → r.dr7 % 0x100 ≡ 0 → is_enabled r 2 ≡ false
enabled2 r e = rw (clear r.dr7 16 (omega arith), clear r.dr7 32 (omega arith)) refl

enabled3 : (r : Regs) → r.dr7 % 0x100 ≡ 0 → is_enabled r 3 ≡ false
enabled3 r e = rw (clear r.dr7 64 (omega arith), clear r.dr7 128 (omega arith)) refl

pub no_data : (r : Regs) → r.dr7 % 0x100 ≡ 0 → data_breakpoints r ≡ []
unfolding data_breakpoints
no_data r e = rw (enabled0 r e, enabled1 r e, enabled2 r e, enabled3 r e) refl

pub no_hits : (r : Regs) (lin : ℕ) → r.dr7 % 0x100 ≡ 0 → execution_hits r lin ≡ 0
unfolding execution_hits
no_hits r lin e = rw (enabled0 r e, enabled1 r e, enabled2 r e, enabled3 r e) refl

pub unless : {P : Type 0} (b : Bool) → (b ≡ true → P) → OnFalse (not b) P
unless true h = h refl
unless false h = tt

pub none_enabled : {P : Type 0} (n : ℕ) → (n ≡ 0 → P) → OnFalse (not (n == 0)) P
none_enabled n h = unless (n == 0) (λ e. h (eqb-true n 0 e))

-- ---- execution

bits_where : (wanted : Bool) (w : Watch) (ws : List Watch) (lin : ℕ) → bits_at (if wanted then w ∷ ws else ws) lin ≡ (if wanted then with_bits w lin (bits_at ws lin) else bits_at ws lin)
bits_where true w ws lin = refl
bits_where false w ws lin = refl

pub execution_by : (r : Regs) (lin a b c d : ℕ) → a ≡ with_execution r 3 lin 0 → b ≡ with_execution r 2 lin a → c ≡ with_execution r 1 lin b → d ≡ with_execution r 0 lin c → d ≡ execution_hits r lin
unfolding execution_hits
execution_by r lin a b c d ea eb ec ed =
    let wanted : ℕ → Bool = λ n. is_enabled r n && kind_of r n == 0 in
    let third : a ≡ bits_at (breakpoints_that wanted r (3 ∷ [])) lin = ea ∙ sym (bits_where (wanted 3) (breakpoint r 3) [] lin) in
    let second : b ≡ bits_at (breakpoints_that wanted r (2 ∷ 3 ∷ [])) lin = eb ∙ ap (with_execution r 2 lin) third ∙ sym (bits_where (wanted 2) (breakpoint r 2) (breakpoints_that wanted r (3 ∷ [])) lin) in
    let first : c ≡ bits_at (breakpoints_that wanted r (1 ∷ 2 ∷ 3 ∷ [])) lin = ec ∙ ap (with_execution r 1 lin) second ∙ sym (bits_where (wanted 1) (breakpoint r 1) (breakpoints_that wanted r (2 ∷ 3 ∷ [])) lin) in
    ed ∙ ap (with_execution r 0 lin) first ∙ sym (bits_where (wanted 0) (breakpoint r 0) (breakpoints_that wanted r (1 ∷ 2 ∷ 3 ∷ [])) lin)

-- ---- data

pub data_by : (r : Regs) (o a b c d : List Watch) → o ≡ [] → a ≡ with_data r 3 o → b ≡ with_data r 2 a → c ≡ with_data r 1 b → d ≡ with_data r 0 c → d ≡ data_breakpoints r
unfolding data_breakpoints
data_by r o a b c d eo ea eb ec ed = ed ∙ ap (with_data r 0) (ec ∙ ap (with_data r 1) (eb ∙ ap (with_data r 2) (ea ∙ ap (with_data r 3) eo)))

-- whoever makes an access of a program, it meets the same
one_met : (write : Bool) (w : Watch) (lin : ℕ) (size : Size) → meets w lin size (access_by write User) ≡ meets w lin size (access_by write Supervisor)
unfolding meets
one_met true w lin size = refl
one_met false w lin size = refl

pub who_meets : (write : Bool) (ws : List Watch) (lin : ℕ) (size : Size) (hits : ℕ) → hits_after ws lin size (access_by write User) hits ≡ hits_after ws lin size (access_by write Supervisor) hits
who_meets write [] lin size hits = refl
who_meets write (w ∷ ws) lin size hits = ap (λ (b : Bool). hits_after ws lin size (access_by write User) (if b then bit_or hits w.bits else hits)) (one_met write w lin size) ∙ who_meets write ws lin size _
