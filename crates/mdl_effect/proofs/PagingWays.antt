-- Paging and the tables behind an instruction of the system: only MOV to CR0 and to CR3 change them.
use Rattle.std.proofs.Common.{◌≡◌, ◌==◌, ℕ, Bool, true, false, cond, [], ◌∷◌, ◌++◌, refl, ap, ◌∙◌, arith}
use Rattle.std.specs.Prelude.{⊤, ◌||◌, ◌&&◌, if◌then◌else◌}
use Rattle.std.proofs.lemmas.Bool.Decides.{nat_tests}
use Rattle.mdl_state.specs.declared.Size.{Size}
use Rattle.mdl_state.specs.declared.Fault.{Fault}
use Rattle.mdl_state.specs.declared.Regs.{Regs}
use Rattle.mdl_state.specs.Bytes.{bit}
use Rattle.mdl_state.specs.Attempt.{Plan, Fail}
use Rattle.mdl_state.specs.Ends.{Ends, either_ends}
use Rattle.mdl_num.specs.Flags.{is_set}
use Rattle.mdl_num.specs.declared.status.TheConstants.{OF}
use Rattle.mdl_insn.specs.declared.instruction.Insn.{Insn}
use Rattle.mdl_insn.specs.declared.instruction.Operand.{Operand}
use Rattle.mdl_insn.specs.declared.instruction.Operand.TheVariants.{Gpr, Creg, Dreg}
use Rattle.mdl_insn.specs.declared.mnemonics.Op.{Op}
use Rattle.mdl_insn.specs.declared.mnemonics.Op.TheVariants as ops
use Rattle.mdl_cpu.specs.Faults.{undefined_opcode}
use Rattle.mdl_cpu.specs.Segments.{is_protected}
use Rattle.mdl_effect.specs.Operands.{After, follow, value_of}
use Rattle.mdl_effect.specs.Kinds.{is_control_number, is_place}
use Rattle.mdl_effect.specs.DataEffects.{is_special}
use Rattle.mdl_effect.specs.InterruptEffects.{interrupt_plan, numbered_interrupt_plan, overflow_plan}
use Rattle.mdl_effect.specs.ControlEffects.{with_bits_of, PE, MP, EM, TS, PG, with_control_register, set_control_plan, special_move_of, special_move_plan, with_status_word, load_status_word_plan, clear_task_switched_plan}
use Rattle.mdl_effect.specs.ProtectionEffects.{is_protected_only, protected_by}
use Rattle.mdl_effect.specs.SystemEffects.{is_system, is_mov, is_special_move, runs_system, system_by, system_effect}
use Rattle.mdl_effect.specs.Forms.{IsMove, IsFormedAs, IsFormed}
use Rattle.mdl_effect.specs.Ways.{IsDefined, Leaves, PagesBy, PagesAs}
use Rattle.mdl_effect.proofs.Registers.{stays, value_stays, same_bit}
use Rattle.mdl_effect.proofs.Operations.{Ways, passes, weaker, fails, follows, either_way, place_read, reads}
use Rattle.mdl_effect.proofs.LevelWays.{at_level_0}
use Rattle.mdl_effect.proofs.ProtectionWays.{protected_way}
use Rattle.mdl_effect.proofs.SystemWays.{by_sensitive, push_flags_way, pop_flags_way, clear_interrupts_way, set_interrupts_way, halt_way, in_way, out_way, load_gdt_way, load_idt_way, store_gdt_way, store_idt_way, debug_stays, store_status_word_way, loaded_paging, other_bit, wait_way, escape_way, without, by_mode}

-- both stay
abbrev Pages : Regs → After → Type 0
Pages r after = PagesBy false false r after.regs

-- they do where the mode stays
steady_pages : {r : Regs} {plan : Plan After} → Ways (Leaves r) plan → Ways (Pages r) plan
steady_pages {r} {plan} h = record { ends = weaker (Leaves r) (Pages r) IsDefined IsDefined plan (λ after l. (ap (λ (c : ℕ). bit c 31) l.0.cr0, l.0.cr3)) (λ fault d. d) h.ends }

-- ---- interrupts

interrupt_pages : (vector : ℕ) (r : Regs) → Ways (Pages r) (interrupt_plan vector r)
unfolding interrupt_plan
interrupt_pages vector r = passes (refl, refl)

numbered_pages : (vector : ℕ) (r : Regs) → Ways (Pages r) (numbered_interrupt_plan vector r)
unfolding numbered_interrupt_plan
numbered_pages vector r = by_sensitive r (interrupt_pages vector r)

overflow_pages : (r : Regs) → Ways (Pages r) (overflow_plan r)
unfolding overflow_plan
overflow_pages r = either_way (is_set r.eflags OF) (interrupt_pages 4 r) (steady_pages (follows (stays r)))

-- ---- the machine status word

status_word_pages : (r : Regs) (word : ℕ) (c : Bool) → bit (with_bits_of word r.cr0 ((if c then PE ∷ [] else []) ++ MP ∷ EM ∷ TS ∷ [])) 31 ≡ bit r.cr0 31
status_word_pages r word true = loaded_paging _ word ∙ other_bit r.cr0 word PE 31 refl
status_word_pages r word false = loaded_paging r.cr0 word

load_status_word_pages : (insn : Insn) (r : Regs) → is_place insn.a ≡ true → Ways (Pages r) (load_status_word_plan insn r)
unfolding load_status_word_plan
load_status_word_pages insn r a = at_level_0 r (λ zero. reads r insn.a (λ word. follow (with_status_word r word)) (place_read insn.a a) (λ word.
    passes (status_word_pages r word (bit word PE), refl)))

clear_pages : (r : Regs) → Ways (Pages r) (clear_task_switched_plan r)
unfolding clear_task_switched_plan
clear_pages r = at_level_0 r (λ zero. passes (same_bit r.cr0 TS 0 31 (omega arith) (omega arith), refl))

-- ---- MOV to a control register

-- CR2, where it is neither CR0 nor CR3
second : (n : ℕ) → is_control_number n ≡ true → (n == 0) ≡ false → (n == 3) ≡ false → (n == 2) ≡ true
second n e zero three = grind (arith, nat_tests, e, zero, three)

not_third : (n : ℕ) → (n == 2) ≡ true → (n == 3) ≡ true → ⊥
not_third n two three = grind (arith, nat_tests, two, three)

control_pages : (n value : ℕ) (r : Regs) → is_control_number n ≡ true → PagesBy (n == 0) (n == 3) r (with_control_register r n value)
control_pages n value r form = by_number (n == 0) (n == 2) (n == 3) refl refl refl
  where
    by_number : (a b c : Bool) → (n == 0) ≡ a → (n == 2) ≡ b → (n == 3) ≡ c
        → PagesBy a c r (cond a (record r { cr0 = with_bits_of value 0 (PE ∷ MP ∷ EM ∷ TS ∷ PG ∷ []) }) (cond b (record r { cr2 = value }) (record r { cr3 = value })))
    by_number true b c p q t = refl
    by_number false true true p q t = absurd (not_third n q t)
    by_number false true false p q t = (refl, refl)
    by_number false false true p q t = refl
    by_number false false false p q t = absurd (third (n == 2) (second n form p t) q)
      where
        third : (b : Bool) → b ≡ true → b ≡ false → ⊥
        third true x y = cc
        third false x y = cc

set_control_pages : (n value : ℕ) (r : Regs) → is_control_number n ≡ true → Ways (λ (after : After). PagesBy (n == 0) (n == 3) r after.regs) (set_control_plan n value r)
set_control_pages n value r form = either_way _ (fails (omega arith)) (passes (control_pages n value r form))

special_pages : (a b : Operand) (size : Size) (r : Regs) → (is_special a || is_special b) ≡ true → IsMove a b size → Ways (λ (after : After). PagesAs ops.Mov a r after.regs) (special_move_of a b r)
special_pages (Creg n) b size r e form = set_control_pages n (value_of r b) r form.0
special_pages (Dreg n) b size r e form = steady_pages (follows (debug_stays r n _))
special_pages (Gpr m own) (Creg n) size r e form = steady_pages (follows (value_stays r (Gpr m own) _))
special_pages (Gpr m own) (Dreg n) size r e form = steady_pages (follows (value_stays r (Gpr m own) _))
special_pages _ (Creg n) size r e form = steady_pages (follows (stays r))
special_pages _ (Dreg n) size r e form = steady_pages (follows (stays r))
special_pages _ _ size r e form = absurd cc

special_move_pages : (insn : Insn) (r : Regs) → (is_special insn.a || is_special insn.b) ≡ true → IsMove insn.a insn.b insn.size → Ways (λ (after : After). PagesAs ops.Mov insn.a r after.regs) (special_move_plan insn r)
unfolding special_move_plan
special_move_pages insn r e form = at_level_0 r (λ zero. special_pages insn.a insn.b insn.size r e form)

-- ---- by mnemonic

system_pages : (op : Op) (insn : Insn) (r : Regs) → IsFormedAs op insn → (is_system op || (is_mov op && (is_special insn.a || is_special insn.b))) ≡ true
    → Ways (λ (after : After). PagesAs op insn.a r after.regs) (system_by op insn r)
system_pages ops.Int insn r f e = numbered_pages _ r
system_pages ops.Int3 insn r f e = interrupt_pages 3 r
system_pages ops.Into insn r f e = overflow_pages r
system_pages ops.Pushf insn r f e = steady_pages (push_flags_way insn r)
system_pages ops.Popf insn r f e = steady_pages (pop_flags_way insn r)
system_pages ops.Cli insn r f e = steady_pages (clear_interrupts_way r)
system_pages ops.Sti insn r f e = steady_pages (set_interrupts_way r)
system_pages ops.Hlt insn r f e = steady_pages (halt_way r)
system_pages ops.InPort insn r f e = steady_pages (in_way insn r)
system_pages ops.OutPort insn r f e = steady_pages (out_way insn r)
system_pages ops.Lgdt insn r f e = steady_pages (load_gdt_way insn r f.1.0.0)
system_pages ops.Lidt insn r f e = steady_pages (load_idt_way insn r f.1.0.0)
system_pages ops.Sgdt insn r f e = steady_pages (store_gdt_way insn r f.1.0.0)
system_pages ops.Sidt insn r f e = steady_pages (store_idt_way insn r f.1.0.0)
system_pages ops.Smsw insn r f e = steady_pages (store_status_word_way insn r f.1.0.0)
system_pages ops.Lmsw insn r f e = load_status_word_pages insn r f.1.0.0
system_pages ops.Clts insn r f e = clear_pages r
system_pages ops.Wait insn r f e = steady_pages (wait_way r)
system_pages ops.Esc insn r f e = steady_pages (escape_way r)
system_pages ops.Mov insn r f e = special_move_pages insn r e f.0
system_pages _ insn r f e = absurd cc

protected_as : (op : Op) (a : Operand) (old new : Regs) → is_protected_only op ≡ true → PagesBy false false old new → PagesAs op a old new
protected_as ops.Mov a old new e h = absurd cc
protected_as _ a old new e h = h

protected_pages : (op : Op) (insn : Insn) (r : Regs) → IsFormedAs op insn → is_protected_only op ≡ true → Ends (λ (after : After). PagesAs op insn.a r after.regs) IsDefined (protected_by op insn r)
protected_pages op insn r f e = weaker (Pages r) (λ (after : After). PagesAs op insn.a r after.regs) IsDefined IsDefined (protected_by op insn r) (λ after h. protected_as op insn.a r after.regs e h) (λ fault d. d)
    (steady_pages (protected_way op insn r f e)).ends

-- only MOV to CR0 and to CR3 change them
pub paging_kept : (insn : Insn) (r : Regs) (back : ℕ) → IsFormed insn → runs_system insn ≡ true → Ends (λ (after : After). PagesAs insn.op insn.a r after.regs) (λ (_ : Fault). ⊤) (system_effect insn r back)
unfolding system_effect
paging_kept insn r back f e = elim (is_protected_only insn.op) as (λ v. is_protected_only insn.op ≡ v → Ends (λ (after : After). PagesAs insn.op insn.a r after.regs) (λ (_ : Fault). ⊤) (system_by insn.op insn r)) [
  | true ↦ λ only. rw (by_mode insn.op insn r only) (either_ends (λ (after : After). PagesAs insn.op insn.a r after.regs) (λ (_ : Fault). ⊤) (is_protected r) (protected_by insn.op insn r) (Fail undefined_opcode)
      (anyhow (protected_by insn.op insn r) (protected_pages insn.op insn r f only)) tt)
  | false ↦ λ other. anyhow (system_by insn.op insn r) (system_pages insn.op insn r f (without (is_system insn.op) (is_protected_only insn.op) (is_special_move insn) e other)).ends
] refl
  where
    anyhow : (plan : Plan After) → Ends (λ (after : After). PagesAs insn.op insn.a r after.regs) IsDefined plan → Ends (λ (after : After). PagesAs insn.op insn.a r after.regs) (λ (_ : Fault). ⊤) plan
    anyhow plan h = weaker (λ (after : After). PagesAs insn.op insn.a r after.regs) (λ (after : After). PagesAs insn.op insn.a r after.regs) IsDefined (λ (_ : Fault). ⊤) plan (λ after l. l) (λ fault d. tt) h
