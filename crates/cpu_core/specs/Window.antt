-- Code as it is fetched from memory, one byte after the other. Manual, chapter 6.
use Rattle.std.specs.Prelude.{◌≡◌, ◌<◌, ◌≤◌, ℕ, ◌+◌, ◌/◌, ◌%◌, ◌^◌, nat_le, Bool, if◌then◌else◌, Result, Ok, OnOk}
use Rattle.mdl_state.specs.declared.Size.TheVariants.{B1}
use Rattle.mdl_state.specs.declared.Seg.TheVariants.{Cs}
use Rattle.mdl_state.specs.declared.Regs.{Regs}
use Rattle.mdl_state.specs.declared.Who.{Who}
use Rattle.mdl_state.specs.declared.Fault.{Fault}
use Rattle.mdl_state.specs.State.{Mem}
use Rattle.mdl_state.specs.Registers.{seg_of}
use Rattle.mdl_state.specs.Bytes.{little_bytes}
use Rattle.mdl_state.specs.Accesses.{Keeps, read_at}
use Rattle.mdl_state.specs.Serving.{Pick, Passed, by_pick, outcome}
use Rattle.mdl_state.specs.Attempt.{Plan, Done, Fail, Load, tried}
use Rattle.mdl_insn.specs.declared.instruction.Insn.{Insn}
use Rattle.mdl_insn.specs.Spelling.{Spelt}
use Rattle.mdl_cpu.specs.Segments.{who_of}
use Rattle.mdl_cpu.specs.Faults.{undefined_opcode, general_protection}
use Rattle.insn_decode.specs.declared.refusals.Undecoded.{Undecoded}
use Rattle.insn_decode.specs.declared.refusals.Undecoded.TheVariants.{Undefined, TooLong, Fetch}

-- the base and the limit of CS, for whom code is read, the offset of the next byte, and memory
pub record Window : Type 0 where
  pub base : ℕ
  pub limit : ℕ
  pub who : Who
  pub offset : ℕ
  pub mem : Mem

-- the next byte
abbrev pub byte_plan : Window → Plan ℕ
byte_plan w = if nat_le w.offset w.limit then Load ((w.base + w.offset) % 2 ^ 32) B1 w.who (λ byte. Done byte) else Fail (general_protection 0)

-- One byte is fetched, and the window then is at the next. What no access changes stays, and nothing is held by it.
pub record Gives (pick : Pick) (w : Window) (r : Result ℕ Fault) (v : Window) : Type 0 where
  pub byte : (outcome r, v.mem) ≡ tried (by_pick pick) 0 (byte_plan w) w.mem
  pub base : v.base ≡ w.base
  pub limit : v.limit ≡ w.limit
  pub who : v.who ≡ w.who
  pub next : OnOk r (v.offset ≡ w.offset + 1)
  pub keeps : Keeps w.mem v.mem
  pub held : v.mem.held ≡ w.mem.held

-- the window is at byte n of the code at CS:EIP
pub record IsAt (r : Regs) (n : ℕ) (w : Window) : Type 0 where
  pub base : w.base ≡ (seg_of r Cs).base
  pub limit : w.limit ≡ (seg_of r Cs).limit
  pub who : w.who ≡ who_of r
  pub offset : w.offset ≡ r.eip + n

-- the fault of code that is no instruction
abbrev pub fault_of : Undecoded → Fault
fault_of Undefined = undefined_opcode
fault_of TooLong = general_protection 0
fault_of (Fetch fault) = fault

-- ---- eight bytes at once

-- the lowest byte of a number, and the number without it
abbrev pub gives_low : ℕ → Result ℕ Fault → ℕ → Type 0
gives_low bytes r rest = (r ≡ Ok (bytes % 256)) × (rest ≡ bytes / 256)

-- the eight bytes at CS:EIP lie within the limit of CS, and reading each gives that of the number, and changes nothing
pub record HasEight (pick : Pick) (r : Regs) (m : Mem) (word : ℕ) : Type 0 where
  pub within : r.eip + 7 ≤ (seg_of r Cs).limit
  pub bytes : (i : ℕ) → i < 8 → (Passed (word / 256 ^ i % 256), m) ≡ read_at (by_pick pick) m (((seg_of r Cs).base + (r.eip + i)) % 2 ^ 32) B1 (who_of r)

-- so many bytes of a number, at most eight, spell the instruction, in code of 32 bits or of 16
pub record Spells (word : ℕ) (big : Bool) (insn : Insn) (count : ℕ) : Type 0 where
  pub within : count ≤ 8
  pub spelt : Spelt (little_bytes count word) big insn
