-- The row of the boundary, by what is told of it.
use Rattle.std.proofs.Common.{◌≡◌, ◌==◌, ◌&&◌, ℕ, Bool, true, false, refl, sym, ◌∙◌, ap}
use Rattle.std.specs.Prelude.{if◌then◌else◌}
use Rattle.std.proofs.lemmas.Bool.{false≢true}
use Rattle.mdl_state.specs.Bytes.{bit}
use Rattle.mdl_cpu.specs.SystemFlags.{IF}
use Rattle.mdl_cpu.specs.Breakpoints.{execution_hits}
use Rattle.mdl_state.specs.declared.Regs.{Regs}
use Rattle.mdl_state.specs.declared.Latches.{Latches}
use Rattle.mdl_state.specs.declared.Activity.{Activity}
use Rattle.mdl_state.specs.declared.Activity.TheVariants.{Running, Halted, Shutdown}
use Rattle.mdl_state.specs.Machine.{Rules, Machine}
use Rattle.mdl_step.specs.Boundary as rows
use Rattle.mdl_step.specs.Boundary.{Boundary, takes_trap, takes_break, takes_nmi, takes_line, hits_here, boundary_rows, boundary}
use Rattle.mdl_step.specs.Step.{row_of}

-- an instruction is executed where nothing else is taken
executes_where : (trap meets nmi line : Bool) (hits : ℕ) → trap ≡ false → meets ≡ false → nmi ≡ false → line ≡ false
    → (if trap then rows.Trap else if meets then rows.Break hits else if nmi then rows.Nmi else if line then rows.Line else rows.Execute) ≡ rows.Execute
executes_where trap meets nmi line hits a b c d = rw (a, b, c, d) refl

unasked : (wants lets held : Bool) → (lets ≡ true → wants ≡ false) → (wants && lets && held) ≡ false
unasked false lets held h = refl
unasked true false held h = refl
unasked true true held h = absurd (false≢true (sym (h refl)))

pub executes : (activity : Activity) (wants : Bool) (r : Regs) (latches : Latches) → activity ≡ Running → takes_trap latches ≡ false → takes_nmi latches ≡ false
    → (bit r.eflags IF ≡ true → wants ≡ false) → rows.Execute ≡ boundary_rows activity wants 0 r latches
executes activity wants r latches runs trap nmi line = sym (ap (λ (a : Activity). boundary_rows a wants 0 r latches) runs
    ∙ executes_where (takes_trap latches) (takes_break r latches 0) (takes_nmi latches) (takes_line wants r latches) 0 trap refl nmi (unasked wants (bit r.eflags IF) (latches.hold == 0) line))

-- an instruction is executed where the processor runs, nothing waits, no interrupt is wanted that IF lets in, and no breakpoint is met
pub usual_row : {B : Type 0} (rules : Rules B) (m : Machine B) → m.state.core.activity ≡ Running → takes_trap m.state.core.latches ≡ false → takes_nmi m.state.core.latches ≡ false
    → (bit m.state.core.regs.eflags IF ≡ true → rules.wants m.board ≡ false) → ((lin : ℕ) → execution_hits m.state.core.regs lin ≡ 0) → row_of rules m ≡ rows.Execute
unfolding boundary
usual_row rules m runs trap nmi line none = ap (λ (hits : ℕ). boundary_rows m.state.core.activity (rules.wants m.board) hits m.state.core.regs m.state.core.latches) (none _)
    ∙ sym (executes m.state.core.activity (rules.wants m.board) m.state.core.regs m.state.core.latches runs trap nmi line)

unlined : (trap meets nmi : Bool) (hits : ℕ) (rest : Boundary) → (rest ≡ rows.Line → ⊥) → (if trap then rows.Trap else if meets then rows.Break hits else if nmi then rows.Nmi else rest) ≡ rows.Line → ⊥
unlined true meets nmi hits rest h e = cc
unlined false true nmi hits rest h e = cc
unlined false false true hits rest h e = cc
unlined false false false hits rest h e = h e

line_wanted : (activity : Activity) (wants : Bool) (hits : ℕ) (r : Regs) (latches : Latches) → boundary_rows activity wants hits r latches ≡ rows.Line → wants ≡ true
line_wanted activity true hits r latches e = refl
line_wanted Running false hits r latches e = absurd (unlined (takes_trap latches) (takes_break r latches hits) (takes_nmi latches) hits rows.Execute (λ q. cc) e)
line_wanted Halted false hits r latches e = absurd (unlined (takes_trap latches) false (takes_nmi latches) 0 rows.Idle (λ q. cc) e)
line_wanted Shutdown false hits r latches e = absurd (unlined false false (takes_nmi latches) 0 rows.Idle (λ q. cc) e)

-- an interrupt is taken where one is wanted
pub line_asked : {B : Type 0} (rules : Rules B) (m : Machine B) → row_of rules m ≡ rows.Line → rules.wants m.board ≡ true
unfolding boundary
line_asked rules m e = line_wanted m.state.core.activity (rules.wants m.board) (hits_here m.state.core.regs) m.state.core.regs m.state.core.latches e

-- the row that is told is that of the machine
pub row_told : {B : Type 0} (rules : Rules B) (m : Machine B) (row : Boundary) (wants : Bool) (hits : ℕ) → wants ≡ rules.wants m.board → hits ≡ hits_here m.state.core.regs
    → row ≡ boundary_rows m.state.core.activity wants hits m.state.core.regs m.state.core.latches → row ≡ row_of rules m
unfolding boundary
row_told rules m row wants hits a b e = e ∙ ap (λ (w : Bool). boundary_rows m.state.core.activity w hits m.state.core.regs m.state.core.latches) a
    ∙ ap (λ (h : ℕ). boundary_rows m.state.core.activity (rules.wants m.board) h m.state.core.regs m.state.core.latches) b
