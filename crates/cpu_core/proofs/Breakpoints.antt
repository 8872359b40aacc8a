-- Breakpoints, and registers whose status flags are kept apart.
use Rattle.std.proofs.Common.{◌≡◌, ℕ, Bool, true, false, refl, sym, ap, ◌∙◌}
use Rattle.std.specs.Prelude.{not}
use Rattle.mdl_state.specs.declared.Regs.{Regs}
use Rattle.mdl_state.specs.State.{Mem}
use Rattle.mdl_state.specs.Watches.{watching, unwatched}
use Rattle.mdl_cpu.specs.Breakpoints.{data_breakpoints, execution_hits}
use Rattle.operands.specs.Whole.{whole}
use Rattle.cpu_core.specs.Plain.{IsQuiet}

pub truth : (b : Bool) → not b ≡ true → b ≡ false
truth false e = refl
truth true e = absurd cc

-- they are not of the status flags
pub whole_data : (r : Regs) (flags : ℕ) → data_breakpoints (whole r flags) ≡ data_breakpoints r
unfolding data_breakpoints
whole_data r flags = refl

pub whole_hits : (r : Regs) (flags lin : ℕ) → execution_hits (whole r flags) lin ≡ execution_hits r lin
unfolding execution_hits
whole_hits r flags lin = refl

-- what is quiet looks for no breakpoint
pub unlooking : (m : Mem) → IsQuiet m → unwatched m ≡ m
unlooking m quiet = ap (λ w. watching m w 0) (sym quiet.watch) ∙ ap (λ (h : ℕ). watching m m.watch h) (sym quiet.hits)
