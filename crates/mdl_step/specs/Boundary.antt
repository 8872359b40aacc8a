-- What a step is: the rows of the boundary between two instructions. Manual, chapters 9, 10 and 12.
use Rattle.std.specs.Prelude.{ℕ, ◌==◌, ◌&&◌, not, Bool, if◌then◌else◌}
use Rattle.mdl_state.specs.declared.Regs.{Regs}
use Rattle.mdl_state.specs.declared.Seg.TheVariants.{Cs}
use Rattle.mdl_state.specs.declared.Latches.{Latches}
use Rattle.mdl_state.specs.declared.Activity.{Activity}
use Rattle.mdl_state.specs.declared.Activity.TheVariants.{Running, Halted, Shutdown}
use Rattle.mdl_state.specs.State.{Core}
use Rattle.mdl_state.specs.Bytes.{bit}
use Rattle.mdl_state.specs.Registers.{seg_of}
use Rattle.mdl_cpu.specs.Access.{linear_of}
use Rattle.mdl_cpu.specs.SystemFlags.{IF, RF}
use Rattle.mdl_cpu.specs.Breakpoints.{execution_hits}

-- Nothing happens; a pending debug trap, an execution breakpoint with its bits of DR6, an NMI or the
-- interrupt line is delivered; or an instruction is executed.
pub data Boundary : Type 0 where
  Idle : Boundary
  Trap : Boundary
  Break : ℕ → Boundary
  Nmi : Boundary
  Line : Boundary
  Execute : Boundary

-- what is held back: 1 every interrupt and debug trap, 2 the interrupt line
abbrev pub holds_all : Latches → Bool
holds_all latches = latches.hold == 1

-- a debug trap is pending, and nothing holds it back
abbrev pub takes_trap : Latches → Bool
takes_trap latches = not (latches.pending == 0) && not (holds_all latches)

-- an execution breakpoint is met, RF lets it break, and nothing holds it back
abbrev pub takes_break : Regs → Latches → ℕ → Bool
takes_break r latches hits = not (hits == 0) && not (bit r.eflags RF) && not (holds_all latches)

-- an NMI waits, is not masked, and nothing holds it back
abbrev pub takes_nmi : Latches → Bool
takes_nmi latches = latches.nmi && not latches.masked && not (holds_all latches)

-- the board wants an interrupt, IF lets it in, and nothing holds it back
abbrev pub takes_line : Bool → Regs → Latches → Bool
takes_line wants r latches = wants && bit r.eflags IF && latches.hold == 0

-- The first row that holds decides.
abbrev pub boundary_rows : Activity → Bool → ℕ → Regs → Latches → Boundary
boundary_rows Shutdown wants hits r latches =
    if takes_nmi latches then Nmi
    else Idle
boundary_rows Halted wants hits r latches =
    if takes_trap latches then Trap
    else if takes_nmi latches then Nmi
    else if takes_line wants r latches then Line
    else Idle
boundary_rows Running wants hits r latches =
    if takes_trap latches then Trap
    else if takes_break r latches hits then Break hits
    else if takes_nmi latches then Nmi
    else if takes_line wants r latches then Line
    else Execute

-- the bits of the execution breakpoints at CS:EIP
abbrev pub hits_here : Regs → ℕ
hits_here r = execution_hits r (linear_of (seg_of r Cs) r.eip)

-- the row of a processor, by whether the board wants an interrupt
unfoldable pub boundary : Bool → Core → Boundary
boundary wants core = boundary_rows core.activity wants (hits_here core.regs) core.regs core.latches
