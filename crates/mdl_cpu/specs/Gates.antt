-- The way of an interrupt or exception to its handler: that of real mode, and by the mode. Manual, chapters 9 and 14.
use Rattle.std.specs.Prelude.{ℕ, ◌+◌, ◌*◌, ◌%◌, ◌^◌, nat_lt, Bool, if◌then◌else◌, List, [], ◌∷◌}
use Rattle.mdl_state.specs.declared.Size.TheVariants.{B2}
use Rattle.mdl_state.specs.declared.Seg.TheVariants.{Cs}
use Rattle.mdl_state.specs.declared.Who.TheVariants.{Tables}
use Rattle.mdl_state.specs.declared.Regs.{Regs}
use Rattle.mdl_state.specs.declared.Fault.{Fault}
use Rattle.mdl_state.specs.State.{Mem}
use Rattle.mdl_state.specs.Registers.{seg_of}
use Rattle.mdl_state.specs.Serving.{Outcome, Passed, Failed, NoStep}
use Rattle.mdl_state.specs.Attempt.{Plan, Done, Load, then_plan, checked}
use Rattle.mdl_num.specs.Flags.{with_bit}
use Rattle.mdl_cpu.specs.declared.Cause.{Cause}
use Rattle.mdl_cpu.specs.Faults.{coded_fault, extended, Row, row, first_of}
use Rattle.mdl_cpu.specs.SystemFlags.{TF, IF, RF}
use Rattle.mdl_cpu.specs.Loads.{with_selector}
use Rattle.mdl_cpu.specs.Stack.{push_plan}
use Rattle.mdl_cpu.specs.Causes.{saved_eip}
use Rattle.mdl_cpu.specs.Segments.{has_protection}
use Rattle.mdl_cpu.specs.Transfers.{Transfer, made}
use Rattle.mdl_cpu.specs.InterruptGates.{protected_gate_plan}

-- the double fault, whose code is 0
abbrev pub double_fault : Fault
double_fault = coded_fault 8 0

-- The table of real mode has an entry of four bytes for each vector: IP, and then CS. One that lies past the
-- limit of the table is a double fault. Manual, chapter 14, under Interrupt 8.
abbrev pub entry_rows : Regs → ℕ → List Row
entry_rows r vector = row (nat_lt r.idt_limit (4 * vector + 3)) double_fault ∷ []

-- where the IP and the CS of an entry lie, as linear addresses
abbrev pub entry_ip : Regs → ℕ → ℕ
entry_ip r vector = (r.idt_base + 4 * vector) % 2 ^ 32

abbrev pub entry_cs : Regs → ℕ → ℕ
entry_cs r vector = (r.idt_base + (4 * vector + 2)) % 2 ^ 32

-- The flags of the handler: TF and IF are 0, and behind a software interrupt RF, as behind any instruction.
-- Own: The flags of a handler in real mode.
abbrev pub handler_flags : Cause → ℕ → ℕ
handler_flags cause flags = with_bit (with_bit (if cause.soft then with_bit flags RF 0 else flags) IF 0) TF 0

-- the registers at the handler. Own: The IP of a handler in real mode is not tested.
abbrev pub at_handler : Cause → Regs → ℕ → ℕ → Regs
at_handler cause r ip cs = with_selector (record r { eip = ip; eflags = handler_flags cause r.eflags }) Cs cs

-- FLAGS, CS and IP pushed, each a word
unfoldable pub frame_plan : Cause → Regs → Plan Regs
frame_plan cause r =
    then_plan (push_plan r B2 (r.eflags % 2 ^ 16)) (λ a.
    then_plan (push_plan a B2 (seg_of r Cs).sel) (λ b.
    push_plan b B2 (saved_eip r cause % 2 ^ 16)))

-- the entry, the frame and the handler of real mode; no error code is pushed. Own: A vector's entry is read first.
unfoldable pub real_gate_plan : Cause → Regs → Plan Regs
real_gate_plan cause r =
    checked (first_of (entry_rows r cause.vector)) (λ _.
    Load (entry_ip r cause.vector) B2 Tables (λ ip.
    Load (entry_cs r cause.vector) B2 Tables (λ cs.
    then_plan (frame_plan cause r) (λ s.
    Done (at_handler cause s ip cs)))))

-- the registers at the handler of a cause, or the fault on the way
unfoldable pub gate_plan : Cause → Regs → Plan Regs
gate_plan cause r = real_gate_plan cause r

-- the same by the mode, with whether it leads to a handler or to another task; V86 has the gates of protected mode
unfoldable pub gate_way_plan : Cause → Regs → Plan Transfer
gate_way_plan cause r = if has_protection r then protected_gate_plan cause r else then_plan (real_gate_plan cause r) made

-- EXT in the code of a fault on the way
abbrev pub with_ext : {A : Type 0} → Bool → Outcome A × Mem → Outcome A × Mem
with_ext external (Passed x, m) = (Passed x, m)
with_ext external (Failed fault, m) = (Failed (extended external fault), m)
with_ext external (NoStep, m) = (NoStep, m)
