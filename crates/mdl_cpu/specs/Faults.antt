-- Faults, and rows of a condition and a fault. Manual, chapter 9.
use Rattle.std.specs.Prelude.{ℕ, ◌+◌, ◌-◌, ◌%◌, ◌==◌, ◌&&◌, not, Bool, if◌then◌else◌, List, [], ◌∷◌, Result, Ok, Err}
use Rattle.mdl_state.specs.declared.Fault.{Fault}

-- a fault with its error code; it names no linear address
abbrev pub coded_fault : ℕ → ℕ → Fault
coded_fault vector code = record { vector = vector; code = code; addr = 0 }

-- the instruction is not defined
abbrev pub undefined_opcode : Fault
undefined_opcode = coded_fault 6 0

abbrev pub general_protection : ℕ → Fault
general_protection code = coded_fault 13 code

-- a fault whose code is a selector: its two low bits are cleared
abbrev pub fault_at : ℕ → ℕ → Fault
fault_at vector selector = coded_fault vector (selector - selector % 4)

-- the bit EXT, which every code has but those of a page fault and of a double fault
abbrev pub extended : Bool → Fault → Fault
extended external fault = if external && not (fault.vector == 14) && not (fault.vector == 8) then record fault { code = fault.code - fault.code % 2 + 1 } else fault

-- a check: where it holds, it is the fault
pub record Row : Type 0 where
  pub holds : Bool
  pub fault : Fault

abbrev pub row : Bool → Fault → Row
row holds fault = record { holds = holds; fault = fault }

-- the fault of the first row that holds
abbrev pub first_of : List Row → Result (Unit {0}) Fault
first_of [] = Ok tt
first_of (r ∷ rs) = if r.holds then Err r.fault else first_of rs
