-- The fetch of an instruction, one byte at a time, and what it comes to. Manual, chapters 6, 9 and 17.
-- Own: Offsets are whole numbers.
-- Own: Instruction bytes are accesses of their own.
use Rattle.std.specs.Prelude.{◌≡◌, ◌<◌, ◌≤◌, ◌⊎◌, ℕ, zero, suc, ◌+◌, ◌&&◌, nat_le, Bool, if◌then◌else◌, List, [], ◌∷◌, ◌++◌, length, Result, Ok, Err}
use Rattle.mdl_state.specs.declared.Size.TheVariants.{B1}
use Rattle.mdl_state.specs.declared.Seg.TheVariants.{Cs}
use Rattle.mdl_state.specs.declared.Regs.{Regs}
use Rattle.mdl_state.specs.declared.Fault.{Fault}
use Rattle.mdl_state.specs.State.{Mem}
use Rattle.mdl_state.specs.Registers.{seg_of}
use Rattle.mdl_state.specs.Serving.{Serve, Passed, Failed}
use Rattle.mdl_state.specs.Attempt.{Plan, Done, Load, then_plan, checked, tried}
use Rattle.mdl_cpu.specs.Segments.{is_protected, is_big, who_of}
use Rattle.mdl_cpu.specs.Access.{linear_of}
use Rattle.mdl_cpu.specs.Faults.{undefined_opcode, general_protection}
use Rattle.mdl_insn.specs.declared.instruction.Insn.{Insn}
use Rattle.mdl_insn.specs.Spelling.{Spelt, Begun}

-- ---- bytes

-- the linear address of byte n of the code at CS:EIP, unless it lies past the limit of CS
abbrev pub code_at : Regs → ℕ → Result ℕ Fault
code_at r n = if nat_le (r.eip + n) (seg_of r Cs).limit then Ok (linear_of (seg_of r Cs) (r.eip + n)) else Err (general_protection 0)

-- so many bytes of the code, from byte n on
abbrev pub fetched_from : Regs → ℕ → ℕ → Plan (List ℕ)
fetched_from r n zero = Done []
fetched_from r n (suc count) = checked (code_at r n) (λ at. Load at B1 (who_of r) (λ byte.
    then_plan (fetched_from r (n + 1) count) (λ more. Done (byte ∷ more))))

-- the first so many bytes at CS:EIP
unfoldable pub fetch_plan : Regs → ℕ → Plan (List ℕ)
fetch_plan r count = fetched_from r 0 count

-- ---- what they come to

-- an instruction with its length, or a fault
pub data Code : Type 0 where
  Instruction : Insn → ℕ → Code
  Refused : Fault → Code

-- the code has 32 bits unless a prefix says otherwise: D of CS, in protected mode
abbrev pub is_wide : Regs → Bool
is_wide r = is_protected r && is_big (seg_of r Cs)

-- so many bytes, at most 15, are fetched, and they spell the instruction
pub record Takes (serve : Serve) (r : Regs) (m : Mem) (insn : Insn) (count : ℕ) (n : Mem) : Type 0 where
  pub bytes : List ℕ
  pub within : count ≤ 15
  pub fetched : tried serve 0 (fetch_plan r count) m ≡ (Passed bytes, n)
  pub spelt : Spelt bytes (is_wide r) insn

-- What is fetched before the last byte is begun, and with that byte nothing is spelt or begun any more.
pub record IsUndefined (serve : Serve) (r : Regs) (m n : Mem) : Type 0 where
  pub front : List ℕ
  pub last : ℕ
  pub within : length front < 15
  pub fetched : tried serve 0 (fetch_plan r (length front + 1)) m ≡ (Passed (front ++ last ∷ []), n)
  pub begun : Begun front (is_wide r)
  pub not_begun : Begun (front ++ last ∷ []) (is_wide r) → ⊥
  pub not_spelt : (insn : Insn) → Spelt (front ++ last ∷ []) (is_wide r) insn → ⊥

-- fifteen bytes are fetched, and more are needed
pub record IsTooLong (serve : Serve) (r : Regs) (m n : Mem) : Type 0 where
  pub bytes : List ℕ
  pub fetched : tried serve 0 (fetch_plan r 15) m ≡ (Passed bytes, n)
  pub begun : Begun bytes (is_wide r)

-- fewer are fetched, more are needed, and the next cannot be fetched
pub record IsCut (serve : Serve) (r : Regs) (m : Mem) (fault : Fault) (n : Mem) : Type 0 where
  pub bytes : List ℕ
  pub before : Mem
  pub within : length bytes < 15
  pub fetched : tried serve 0 (fetch_plan r (length bytes)) m ≡ (Passed bytes, before)
  pub begun : Begun bytes (is_wide r)
  pub failed : tried serve 0 (fetched_from r (length bytes) 1) before ≡ (Failed fault, n)

-- why there is no instruction: #UD, #GP(0), or the fault of a byte
abbrev pub Refuses : Serve → Regs → Mem → Fault → Mem → Type 0
Refuses serve r m fault n = (IsUndefined serve r m n × (fault ≡ undefined_opcode))
    ⊎ ((IsTooLong serve r m n × (fault ≡ general_protection 0)) ⊎ IsCut serve r m fault n)

-- what is at CS:EIP, and the memory that its fetch leaves
abbrev pub Fetches : Serve → Regs → Mem → Code → Mem → Type 0
Fetches serve r m (Instruction insn count) n = Takes serve r m insn count n
Fetches serve r m (Refused fault) n = Refuses serve r m fault n
