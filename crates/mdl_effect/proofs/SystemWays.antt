-- Each way through the plan of an instruction of the system.
use Rattle.std.proofs.Common.{◌≡◌, ℕ, ◌==◌, ◌&&◌, Bool, true, false, cond, [], ◌∷◌, ◌++◌, refl, sym, ap, ◌∙◌, arith}
use Rattle.std.specs.Prelude.{⊤, ◌||◌, not, if◌then◌else◌, slice_set, bit_and}
use Rattle.std.specs.Int.{bit_at}
use Rattle.std.proofs.lemmas.Nat.Bits.{bit_at-lt}
use Rattle.std.proofs.lemmas.Bool.Decides.{nat_tests}
use Rattle.mdl_state.specs.declared.Size.TheVariants.{B2}
use Rattle.mdl_state.specs.declared.Fault.{Fault}
use Rattle.mdl_state.specs.declared.Next.{Next}
use Rattle.mdl_state.specs.declared.Next.TheVariants.{Soft, Task}
use Rattle.mdl_state.specs.declared.Regs.{Regs}
use Rattle.mdl_state.specs.Bytes.{bit}
use Rattle.mdl_state.specs.Attempt.{Plan, Fail}
use Rattle.mdl_state.specs.Ends.{Ends, either_ends}
use Rattle.mdl_num.specs.Flags.{is_set, with_bit}
use Rattle.mdl_num.specs.declared.status.TheConstants.{OF}
use Rattle.mdl_num.proofs.Places.{bit_at-with_bit}
use Rattle.mdl_insn.specs.declared.instruction.Insn.{Insn}
use Rattle.mdl_insn.specs.declared.instruction.Operand.{Operand}
use Rattle.mdl_insn.specs.declared.instruction.Operand.TheVariants.{Gpr, Creg, Dreg, At}
use Rattle.mdl_insn.specs.declared.mnemonics.Op.{Op}
use Rattle.mdl_insn.specs.declared.mnemonics.Op.TheVariants as ops
use Rattle.mdl_cpu.specs.Segments.{is_protected}
use Rattle.mdl_cpu.specs.Faults.{undefined_opcode}
use Rattle.mdl_cpu.specs.Virtual.{sensitive_rows}
use Rattle.mdl_cpu.specs.Steady.{IsSound, Steady, steady_sound}
use Rattle.mdl_effect.specs.Operands.{After, IsOrdinary, follow, value_of}
use Rattle.mdl_effect.specs.Kinds.{is_memory, is_place}
use Rattle.mdl_effect.specs.DataEffects.{is_special}
use Rattle.mdl_effect.specs.InterruptEffects.{io_rows, with_io_rights, sensitive, interrupt_plan, numbered_interrupt_plan, overflow_plan, push_flags_plan, pop_flags_plan, clear_interrupts_plan, set_interrupts_plan, halt_plan}
use Rattle.mdl_effect.specs.PortEffects.{in_plan, out_plan}
use Rattle.mdl_effect.specs.TableEffects.{table_read, table_write, load_gdt_plan, load_idt_plan, store_gdt_plan, store_idt_plan}
use Rattle.mdl_effect.specs.ControlEffects.{with_bits_of, PE, MP, EM, TS, PG, with_control_register, set_control_plan, with_debug_register, special_move_of, special_move_plan, store_status_word_plan, with_status_word, load_status_word_plan, clear_task_switched_plan, wait_plan, escape_plan}
use Rattle.mdl_effect.specs.ProtectionEffects.{is_protected_only, protected_by, protected_plan}
use Rattle.mdl_effect.specs.SystemEffects.{is_system, is_mov, is_special_move, runs_system, system_by, system_effect}
use Rattle.mdl_effect.specs.Forms.{IsFormedAs, IsFormed}
use Rattle.mdl_effect.specs.Ways.{IsDefined, Leaves, LeavesTo, LeavesSound, IsSystemComplete}
use Rattle.mdl_effect.proofs.Registers.{stays, reg_stays, value_stays, same_bit, interrupts_stay}
use Rattle.mdl_effect.proofs.ImageFlags.{image_stays}
use Rattle.mdl_effect.proofs.Operations.{follows, Ways, passes, weaker, fails, either_way, then_way, load_then, store_any, store_then, push_then, pop_then, place_read, reads}
use Rattle.mdl_effect.proofs.LoadWays.{rows_way}
use Rattle.mdl_effect.proofs.PortWays.{port_then}
use Rattle.mdl_effect.proofs.LevelWays.{if_false, at_level_0, stores_word}
use Rattle.mdl_effect.proofs.ProtectionWays.{protected_way}

-- ---- what leaves the mode leaves the registers sound

ordinary : (next : Next) (old new : Regs) → IsOrdinary next → LeavesTo next old new
ordinary (Soft vector) old new h = absurd h
ordinary (Task trap) old new h = absurd h
ordinary _ old new h = tt

-- an instruction that leaves the mode
steadily : {r : Regs} {plan : Plan After} → Ways (Leaves r) plan → Ways (LeavesSound r) plan
steadily {r} {plan} h = record { ends = weaker (Leaves r) (LeavesSound r) IsDefined IsDefined plan (λ after l. (steady_sound r after.regs l.0, ordinary after.next r after.regs l.1)) (λ fault d. d) h.ends }

-- ---- checks

by_io_rights : {P : After → Type 0} (r : Regs) {plan : Plan After} → Ways P plan → Ways P (with_io_rights r plan)
by_io_rights r h = rows_way (io_rows r) _ (omega arith, tt) h

pub by_sensitive : {P : After → Type 0} (r : Regs) {plan : Plan After} → Ways P plan → Ways P (sensitive r plan)
by_sensitive r h = rows_way (sensitive_rows r) _ (omega arith, tt) h

-- ---- interrupts and flags

interrupt_way : (vector : ℕ) (r : Regs) → Ways (LeavesSound r) (interrupt_plan vector r)
unfolding interrupt_plan
interrupt_way vector r = passes (λ sound. sound, refl)

numbered_interrupt_way : (vector : ℕ) (r : Regs) → Ways (LeavesSound r) (numbered_interrupt_plan vector r)
unfolding numbered_interrupt_plan
numbered_interrupt_way vector r = by_sensitive r (interrupt_way vector r)

overflow_way : (r : Regs) → Ways (LeavesSound r) (overflow_plan r)
unfolding overflow_plan
overflow_way r = either_way (is_set r.eflags OF) (interrupt_way 4 r) (steadily (follows (stays r)))

pub push_flags_way : (insn : Insn) (r : Regs) → Ways (Leaves r) (push_flags_plan insn r)
unfolding push_flags_plan
push_flags_way insn r = by_sensitive r (push_then r r _ _ _ (stays r) (λ _ h. follows h))

pub pop_flags_way : (insn : Insn) (r : Regs) → Ways (Leaves r) (pop_flags_plan insn r)
unfolding pop_flags_plan
pop_flags_way insn r = by_sensitive r (pop_then r r _ _ (stays r) (λ popped h. follows (image_stays r popped.1 popped.0 B2 h)))

pub clear_interrupts_way : (r : Regs) → Ways (Leaves r) (clear_interrupts_plan r)
unfolding clear_interrupts_plan
clear_interrupts_way r = by_io_rights r (follows (interrupts_stay r false))

pub set_interrupts_way : (r : Regs) → Ways (Leaves r) (set_interrupts_plan r)
unfolding set_interrupts_plan
set_interrupts_way r = by_io_rights r (passes (interrupts_stay r true, tt))

pub halt_way : (r : Regs) → Ways (Leaves r) (halt_plan r)
unfolding halt_plan
halt_way r = at_level_0 r (λ _. passes (stays r, tt))

-- ---- ports

pub in_way : (insn : Insn) (r : Regs) → Ways (Leaves r) (in_plan insn r)
unfolding in_plan
in_way insn r = port_then r _ _ _ (λ _. record { ends = λ value. (reg_stays r 0 insn.size value, tt) })

pub out_way : (insn : Insn) (r : Regs) → Ways (Leaves r) (out_plan insn r)
unfolding out_plan
out_way insn r = port_then r _ _ _ (λ _. passes (stays r, tt))

-- ---- the registers of the descriptor tables

reads_table : (r : Regs) (a : Operand) → is_memory a ≡ true → Ways (λ (_ : ℕ × ℕ). ⊤) (table_read r a)
unfolding table_read
reads_table r (At mem size) e = load_then _ _ _ _ _ (λ limit. load_then _ _ _ _ _ (λ base. passes tt))
reads_table r _ e = absurd cc

writes_table : (r : Regs) (a : Operand) (limit base : ℕ) → is_memory a ≡ true → Ways (λ (_ : Unit {0}). ⊤) (table_write r a limit base)
unfolding table_write
writes_table r (At mem size) limit base e = store_then _ _ _ _ _ _ (λ _. store_any _ _ _ _ _)
writes_table r _ limit base e = absurd cc

gdt_stays : (r : Regs) (limit base : ℕ) → Steady r (record r { gdt_limit = limit; gdt_base = base })
gdt_stays r limit base = record { cr0 = refl; cr3 = refl; cpl = refl; virtual = refl; flags = λ h. h }

idt_stays : (r : Regs) (limit base : ℕ) → Steady r (record r { idt_limit = limit; idt_base = base })
idt_stays r limit base = record { cr0 = refl; cr3 = refl; cpl = refl; virtual = refl; flags = λ h. h }

module _ (insn : Insn) (r : Regs) (a : is_memory insn.a ≡ true) where
  pub load_gdt_way : Ways (Leaves r) (load_gdt_plan insn r)
  unfolding load_gdt_plan
  load_gdt_way = at_level_0 r (λ _. then_way (reads_table r insn.a a) (λ table _. follows (gdt_stays r table.0 _)))

  pub load_idt_way : Ways (Leaves r) (load_idt_plan insn r)
  unfolding load_idt_plan
  load_idt_way = at_level_0 r (λ _. then_way (reads_table r insn.a a) (λ table _. follows (idt_stays r table.0 _)))

  pub store_gdt_way : Ways (Leaves r) (store_gdt_plan insn r)
  unfolding store_gdt_plan
  store_gdt_way = then_way (writes_table r insn.a _ _ a) (λ _ _. follows (stays r))

  pub store_idt_way : Ways (Leaves r) (store_idt_plan insn r)
  unfolding store_idt_plan
  store_idt_way = then_way (writes_table r insn.a _ _ a) (λ _ _. follows (stays r))

-- ---- control and debug registers

-- another CR0 at level 0, with paging only where there is protection
sound_control : (r : Regs) (c : ℕ) → r.cpl ≡ 0 → (IsSound r → bit c 31 ≡ true → bit c 0 ≡ true) → IsSound r → IsSound (record r { cr0 = c })
sound_control r c zero paged sound = record {
  real = λ _. zero;
  virtual_level = sound.virtual_level;
  virtual_mode = λ v. absurd (omega (arith, zero, sound.virtual_level v));
  paged_mode = paged sound;
  level = sound.level;
  flags = sound.flags;
}

cr2_stays : (r : Regs) (value : ℕ) → Steady r (record r { cr2 = value })
cr2_stays r value = record { cr0 = refl; cr3 = refl; cpl = refl; virtual = refl; flags = λ h. h }

sound_tables : (r : Regs) (value : ℕ) → IsSound r → IsSound (record r { cr3 = value })
sound_tables r value sound = record {
  real = sound.real;
  virtual_level = sound.virtual_level;
  virtual_mode = sound.virtual_mode;
  paged_mode = sound.paged_mode;
  level = sound.level;
  flags = sound.flags;
}

-- the bits that a number has where CR0 takes them from it
taken_bit : (n from k : ℕ) → bit (with_bit n k (bit_at from k)) k ≡ bit from k
taken_bit n from k = ap (λ v. v == 1) (bit_at-with_bit n k (bit_at from k) (bit_at-lt from k))

pub other_bit : (n from k j : ℕ) → (j == k) ≡ false → bit (with_bit n k (bit_at from k)) j ≡ bit n j
other_bit n from k j e = same_bit n k (bit_at from k) j (bit_at-lt from k) (grind (arith, nat_tests))

moved_protection : (value : ℕ) → bit (with_bits_of value 0 (PE ∷ MP ∷ EM ∷ TS ∷ PG ∷ [])) 0 ≡ bit value 0
moved_protection value = other_bit _ value PG 0 refl ∙ (other_bit _ value TS 0 refl ∙ (other_bit _ value EM 0 refl ∙ (other_bit _ value MP 0 refl ∙ taken_bit 0 value PE)))

pub moved_paging : (value : ℕ) → bit (with_bits_of value 0 (PE ∷ MP ∷ EM ∷ TS ∷ PG ∷ [])) 31 ≡ bit value 31
moved_paging value = taken_bit _ value PG

-- paging without protection was refused
paging_allowed : (n : ℕ) (paging protection : Bool) → (n == 0) ≡ true → (n == 0 && paging && not protection) ≡ false → paging ≡ true → protection ≡ true
paging_allowed n true true z e p = refl
paging_allowed n true false z e p = absurd cc
paging_allowed n false protection z e p = absurd cc

set_control_way : (n value : ℕ) (r : Regs) → r.cpl ≡ 0 → Ways (LeavesSound r) (set_control_plan n value r)
set_control_way n value r zero = if_false (n == 0 && bit value PG && not (bit value PE)) (fails (omega arith)) (λ e. record { ends = (sounds e, tt) }) where
  sounds : (n == 0 && bit value PG && not (bit value PE)) ≡ false → IsSound r → IsSound (with_control_register r n value)
  sounds e = elim (n == 0) as (λ v. (n == 0) ≡ v → IsSound r → IsSound (cond v (record r { cr0 = with_bits_of value 0 (PE ∷ MP ∷ EM ∷ TS ∷ PG ∷ []) }) (cond (n == 2) (record r { cr2 = value }) (record r { cr3 = value })))) [
    | true ↦ λ z. sound_control r _ zero (λ _ p. moved_protection value ∙ paging_allowed n (bit value 31) (bit value 0) z e (sym (moved_paging value) ∙ p))
    | false ↦ λ _. elim (n == 2) as (λ v. IsSound r → IsSound (cond v (record r { cr2 = value }) (record r { cr3 = value }))) [
      | true ↦ steady_sound r _ (cr2_stays r value)
      | false ↦ sound_tables r value
    ]
  ] refl

pub debug_stays : (r : Regs) (n value : ℕ) → Steady r (with_debug_register r n value)
debug_stays r n value = elim (n == 6) as (λ v. Steady r (cond v (record r { dr6 = bit_and value 0xE00F }) (cond (n == 7) (record r { dr7 = bit_and value 0xFFFF03FF }) (record r { dr = slice_set r.dr n value })))) [
  | true ↦ record { cr0 = refl; cr3 = refl; cpl = refl; virtual = refl; flags = λ h. h }
  | false ↦ elim (n == 7) as (λ v. Steady r (cond v (record r { dr7 = bit_and value 0xFFFF03FF }) (record r { dr = slice_set r.dr n value }))) [
    | true ↦ record { cr0 = refl; cr3 = refl; cpl = refl; virtual = refl; flags = λ h. h }
    | false ↦ record { cr0 = refl; cr3 = refl; cpl = refl; virtual = refl; flags = λ h. h }
  ]
]

special_way : (a b : Operand) (r : Regs) → (is_special a || is_special b) ≡ true → r.cpl ≡ 0 → Ways (LeavesSound r) (special_move_of a b r)
special_way (Creg n) b r e zero = set_control_way n (value_of r b) r zero
special_way (Dreg n) b r e zero = steadily (follows (debug_stays r n _))
special_way (Gpr m own) (Creg n) r e zero = steadily (follows (value_stays r (Gpr m own) _))
special_way (Gpr m own) (Dreg n) r e zero = steadily (follows (value_stays r (Gpr m own) _))
special_way _ (Creg n) r e zero = steadily (follows (stays r))
special_way _ (Dreg n) r e zero = steadily (follows (stays r))
special_way _ _ r e zero = absurd cc

special_move_way : (insn : Insn) (r : Regs) → (is_special insn.a || is_special insn.b) ≡ true → Ways (LeavesSound r) (special_move_plan insn r)
unfolding special_move_plan
special_move_way insn r e = at_level_0 r (λ zero. special_way insn.a insn.b r e zero)

-- ---- the machine status word and the coprocessor

pub store_status_word_way : (insn : Insn) (r : Regs) → is_place insn.a ≡ true → Ways (Leaves r) (store_status_word_plan insn r)
unfolding store_status_word_plan
store_status_word_way insn r a = stores_word insn r _ a

-- protection stays or begins, and paging stays
pub loaded_paging : (n word : ℕ) → bit (with_bits_of word n (MP ∷ EM ∷ TS ∷ [])) 31 ≡ bit n 31
loaded_paging n word = other_bit _ word TS 31 refl ∙ (other_bit _ word EM 31 refl ∙ other_bit n word MP 31 refl)

loaded_protection : (n word : ℕ) → bit (with_bits_of word n (MP ∷ EM ∷ TS ∷ [])) 0 ≡ bit n 0
loaded_protection n word = other_bit _ word TS 0 refl ∙ (other_bit _ word EM 0 refl ∙ other_bit n word MP 0 refl)

status_word_paging : (r : Regs) (word : ℕ) (c : Bool) → bit word PE ≡ c → IsSound r → bit (with_bits_of word r.cr0 ((if c then PE ∷ [] else []) ++ MP ∷ EM ∷ TS ∷ [])) 31 ≡ true
    → bit (with_bits_of word r.cr0 ((if c then PE ∷ [] else []) ++ MP ∷ EM ∷ TS ∷ [])) 0 ≡ true
status_word_paging r word true is sound p = loaded_protection _ word ∙ (taken_bit r.cr0 word PE ∙ is)
status_word_paging r word false is sound p = loaded_protection r.cr0 word ∙ sound.paged_mode (sym (loaded_paging r.cr0 word) ∙ p)

load_status_word_way : (insn : Insn) (r : Regs) → is_place insn.a ≡ true → Ways (LeavesSound r) (load_status_word_plan insn r)
unfolding load_status_word_plan
load_status_word_way insn r a = at_level_0 r (λ zero. reads r insn.a (λ word. follow (with_status_word r word)) (place_read insn.a a) (λ word.
    record { ends = (sound_control r _ zero (status_word_paging r word (bit word PE) refl), tt) }))

clear_task_switched_way : (r : Regs) → Ways (LeavesSound r) (clear_task_switched_plan r)
unfolding clear_task_switched_plan
clear_task_switched_way r = at_level_0 r (λ zero. record {
  ends = (
    sound_control r _ zero (λ sound p.
        same_bit r.cr0 TS 0 0 (omega arith) (omega arith) ∙ sound.paged_mode (sym (same_bit r.cr0 TS 0 31 (omega arith) (omega arith)) ∙ p)),
    tt,
  );
})

pub wait_way : (r : Regs) → Ways (Leaves r) (wait_plan r)
unfolding wait_plan
wait_way r = either_way _ (fails (omega arith)) (follows (stays r))

pub escape_way : (r : Regs) → Ways (Leaves r) (escape_plan r)
unfolding escape_plan
escape_way r = either_way _ (fails (omega arith)) (follows (stays r))

-- ---- by mnemonic

system_way : (op : Op) (insn : Insn) (r : Regs) → IsFormedAs op insn → (is_system op || (is_mov op && (is_special insn.a || is_special insn.b))) ≡ true
    → Ways (LeavesSound r) (system_by op insn r)
system_way ops.Int insn r f e = numbered_interrupt_way _ r
system_way ops.Int3 insn r f e = interrupt_way 3 r
system_way ops.Into insn r f e = overflow_way r
system_way ops.Pushf insn r f e = steadily (push_flags_way insn r)
system_way ops.Popf insn r f e = steadily (pop_flags_way insn r)
system_way ops.Cli insn r f e = steadily (clear_interrupts_way r)
system_way ops.Sti insn r f e = steadily (set_interrupts_way r)
system_way ops.Hlt insn r f e = steadily (halt_way r)
system_way ops.InPort insn r f e = steadily (in_way insn r)
system_way ops.OutPort insn r f e = steadily (out_way insn r)
system_way ops.Lgdt insn r f e = steadily (load_gdt_way insn r f.1.0.0)
system_way ops.Lidt insn r f e = steadily (load_idt_way insn r f.1.0.0)
system_way ops.Sgdt insn r f e = steadily (store_gdt_way insn r f.1.0.0)
system_way ops.Sidt insn r f e = steadily (store_idt_way insn r f.1.0.0)
system_way ops.Smsw insn r f e = steadily (store_status_word_way insn r f.1.0.0)
system_way ops.Lmsw insn r f e = load_status_word_way insn r f.1.0.0
system_way ops.Clts insn r f e = clear_task_switched_way r
system_way ops.Wait insn r f e = steadily (wait_way r)
system_way ops.Esc insn r f e = steadily (escape_way r)
system_way ops.Mov insn r f e = special_move_way insn r e
system_way _ insn r f e = absurd cc

pub without : (a b c : Bool) → (a || b || c) ≡ true → b ≡ false → (a || c) ≡ true
without true b c e h = refl
without false true c e h = absurd cc
without false false c e h = e

-- ---- those of protected mode

pub by_mode : (op : Op) (insn : Insn) (r : Regs) → is_protected_only op ≡ true → system_by op insn r ≡ protected_plan op insn r
by_mode ops.Arpl insn r e = refl
by_mode ops.Lar insn r e = refl
by_mode ops.Lsl insn r e = refl
by_mode ops.Verr insn r e = refl
by_mode ops.Verw insn r e = refl
by_mode ops.Sldt insn r e = refl
by_mode ops.Str insn r e = refl
by_mode ops.Lldt insn r e = refl
by_mode ops.Ltr insn r e = refl
by_mode _ insn r e = absurd cc

pub protected_effect : (insn : Insn) (r : Regs) (back : ℕ) → is_protected_only insn.op ≡ true → system_effect insn r back ≡ protected_plan insn.op insn r
unfolding system_effect
protected_effect insn r back e = by_mode insn.op insn r e

protected_sound : (op : Op) (insn : Insn) (r : Regs) → IsFormedAs op insn → is_protected_only op ≡ true → Ways (LeavesSound r) (protected_by op insn r)
protected_sound op insn r f e = steadily (protected_way op insn r f e)

in_protected_mode : {P : After → Type 0} (c : Bool) (p q : Plan After) → c ≡ true → Ways P p → Ways P (if c then p else q)
in_protected_mode true p q e h = h
in_protected_mode false p q e h = absurd cc

pub system_complete : (insn : Insn) (r : Regs) (back : ℕ) → IsFormed insn → runs_system insn ≡ true → (is_protected_only insn.op ≡ true → is_protected r ≡ true)
    → IsSystemComplete r (system_effect insn r back)
unfolding system_effect
system_complete insn r back f e h = elim (is_protected_only insn.op) as (λ v. is_protected_only insn.op ≡ v → IsSystemComplete r (system_by insn.op insn r)) [
  | true ↦ λ only. rw (by_mode insn.op insn r only) (in_protected_mode (is_protected r) (protected_by insn.op insn r) (Fail undefined_opcode) (h only) (protected_sound insn.op insn r f only)).ends
  | false ↦ λ other. (system_way insn.op insn r f (without (is_system insn.op) (is_protected_only insn.op) (is_special_move insn) e other)).ends
] refl

-- whatever the check that fails
pub system_sound : (insn : Insn) (r : Regs) (back : ℕ) → IsFormed insn → runs_system insn ≡ true → Ends (LeavesSound r) (λ (_ : Fault). ⊤) (system_effect insn r back)
unfolding system_effect
system_sound insn r back f e = elim (is_protected_only insn.op) as (λ v. is_protected_only insn.op ≡ v → Ends (LeavesSound r) (λ (_ : Fault). ⊤) (system_by insn.op insn r)) [
  | true ↦ λ only. rw (by_mode insn.op insn r only) (either_ends (LeavesSound r) (λ (_ : Fault). ⊤) (is_protected r) (protected_by insn.op insn r) (Fail undefined_opcode)
      (anyhow (protected_by insn.op insn r) (protected_sound insn.op insn r f only).ends) tt)
  | false ↦ λ other. anyhow (system_by insn.op insn r) (system_way insn.op insn r f (without (is_system insn.op) (is_protected_only insn.op) (is_special_move insn) e other)).ends
] refl
  where
    anyhow : (plan : Plan After) → IsSystemComplete r plan → Ends (LeavesSound r) (λ (_ : Fault). ⊤) plan
    anyhow plan h = weaker (LeavesSound r) (LeavesSound r) IsDefined (λ (_ : Fault). ⊤) plan (λ after l. l) (λ fault d. tt) h
