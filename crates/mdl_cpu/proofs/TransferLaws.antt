-- What far transfers, returns and the ways through gates leave: CR0, CR3, and registers that are sound. No benign fault comes on
-- them.
use Rattle.std.proofs.Common.{◌≡◌, ◌≢◌, ◌≤◌, ◌<◌, ℕ, zero, suc, ◌+◌, ◌-◌, ◌*◌, ◌%◌, ◌^◌, ◌==◌, Bool, true, false, cond, refl, ap, sym, ◌∙◌, arith, max, min, bit_and}
use Rattle.std.specs.Prelude.{⊤, List, [], ◌∷◌, Option, Some, None, Result, Ok, Err, if◌then◌else◌, not, nat_le, nat_lt}
use Rattle.std.specs.Int.{bit_at, bit_not, w32}
use Rattle.std.specs.Int.Bits.{and_le_l, and_le_r}
use Rattle.std.proofs.lemmas.Bool.{false≢true}
use Rattle.std.proofs.lemmas.Nat.{or_lt}
use Rattle.std.proofs.lemmas.Nat.Bits.{bit_at-lt, bit_at_or, bit_at_and, bit_at_not}
use Rattle.mdl_state.specs.declared.Size.{Size}
use Rattle.mdl_state.specs.declared.Size.TheVariants.{B1, B2, B4}
use Rattle.mdl_state.specs.declared.Seg.{Seg}
use Rattle.mdl_state.specs.declared.Seg.TheVariants.{Es, Cs, Ss, Ds, Fs, Gs}
use Rattle.mdl_state.specs.declared.Regs.{Regs}
use Rattle.mdl_state.specs.declared.Hidden.{Hidden}
use Rattle.mdl_state.specs.declared.Fault.{Fault}
use Rattle.mdl_state.specs.Bytes.{bit, bound_of}
use Rattle.mdl_state.specs.Registers.{seg_of, with_reg, with_seg}
use Rattle.mdl_state.specs.Attempt.{Plan, Done, Fail, Load, Store, Translate, Get, Hold, Input, then_plan, checked}
use Rattle.mdl_state.specs.Ends.{Ends}
use Rattle.mdl_num.specs.Flags.{with_bit}
use Rattle.mdl_num.proofs.Places.{bit_at-with_bit, bit_at-with_bit_other, with_bit-lt}
use Rattle.mdl_cpu.specs.declared.Cause.{Cause}
use Rattle.mdl_cpu.specs.declared.Desc.{Desc}
use Rattle.mdl_cpu.specs.declared.StackSegment.{StackSegment}
use Rattle.mdl_cpu.specs.Segments.{has_protection, is_virtual, who_of}
use Rattle.mdl_cpu.specs.SystemFlags.{IF, TF, NT, RF, VM, IOPL, AreFlags, io_level, common_flags, with_flags_from}
use Rattle.mdl_cpu.specs.Steady.{Steady, StaysSound, steady_stays_sound}
use Rattle.mdl_cpu.specs.Faults.{Row, row, first_of, fault_at, general_protection}
use Rattle.mdl_cpu.specs.Access.{legal, segment_fault, load_from, store_to}
use Rattle.mdl_cpu.specs.Stack.{push_plan, pop_plan}
use Rattle.mdl_cpu.specs.Descriptors.{is_outside, place_of, dpl, rpl, is_conforming, descriptor_at, descriptor_plan, mark_plan, accessed_plan}
use Rattle.mdl_cpu.specs.Loads.{with_selector, virtual_segment, known_plan, stack_rows, stack_plan}
use Rattle.mdl_cpu.specs.TaskSegments.{LevelStack, has_wide_tss, is_tss, level_rows, level_stack_plan}
use Rattle.mdl_cpu.specs.GateDescriptors.{is_call_gate, is_task_gate, is_interrupt_gate, gate_selector, gate_size, gate_offset, gate_count, gate_rows, target_rows, jump_target_rows, target_plan, level_of}
use Rattle.mdl_cpu.specs.InnerStacks.{InnerStack, on_stack, inner_stack_plan, push_stack_plan, parameter_plan, parameters_plan}
use Rattle.mdl_cpu.specs.Transfers.{Transfer, IfSwitch, made, switch_to, in_mode, land_plan, real_code_plan, virtual_code_plan, enter_plan, push_place_plan, plain_jump_plan, plain_call_plan, code_rows, jump_code_plan, call_code_plan, jump_gate_plan, same_call_plan, inner_call_plan, call_gate_plan, task_gate_plan, by_kind, protected_jump_plan, protected_call_plan, jump_far_plan, call_far_plan}
use Rattle.mdl_cpu.specs.Returns.{returned_flags, plain_return_plan, plain_interrupt_return_plan, virtual_interrupt_return_plan, return_selector_rows, return_code_rows, dropped, same_return_plan, with_level, lowered, at_level, outer_return_plan, return_to_plan, protected_return_plan, virtual_segments, at_virtual, virtual_rows, return_to_virtual_plan, gives_virtual, popped_return_plan, protected_interrupt_return_plan, return_far_plan, interrupt_return_plan}
use Rattle.mdl_cpu.specs.Virtual.{sensitive_rows}
use Rattle.mdl_cpu.specs.InterruptGates.{Frame, without_virtual, push_segments_plan, inner_frame_plan, begin_frame_plan, push_code_plan, end_frame_plan, keep_stack_plan, gate_flags, without_segments, at_gate, handler_rows, handler_plan, through_code_plan, table_rows, vector_rows, vector_plan, protected_gate_plan}
use Rattle.mdl_cpu.specs.Gates.{real_gate_plan, gate_plan, gate_way_plan}
use Rattle.mdl_cpu.specs.Deliveries.{IsSerious, Serious}
use Rattle.mdl_cpu.specs.DoubleFault.{class_of_fault}
use Rattle.mdl_cpu.proofs.GateLaws.{Ways, passes, then_way, stack_store, gate_ends}

-- ---- rules

fails : {A : Type 0} {P : A → Type 0} {fault : Fault} → Serious fault → Ways P (Fail fault)
fails h = record { ends = h }

abbrev AllSerious : List Row → Type 0
AllSerious [] = ⊤
AllSerious (r ∷ rs) = Serious r.fault × AllSerious rs

first_way : {A : Type 0} (P : A → Type 0) (holds : Bool) (fault : Fault) (rest : Result (Unit {0}) Fault) (k : Unit {0} → Plan A) → Serious fault → Ways P (checked rest k)
    → Ways P (checked (if holds then Err fault else rest) k)
first_way P true fault rest k s h = record { ends = s }
first_way P false fault rest k s h = h

rows_way : {A : Type 0} {P : A → Type 0} (rows : List Row) (k : Unit {0} → Plan A) → AllSerious rows → Ways P (k tt) → Ways P (checked (first_of rows) k)
rows_way [] k s h = h
rows_way {A} {P} (r ∷ rs) k s h = first_way P r.holds r.fault (first_of rs) k s.0 (rows_way rs k s.1 h)

either_way : {A : Type 0} {P : A → Type 0} (b : Bool) (p q : Plan A) → (b ≡ true → Ways P p) → (b ≡ false → Ways P q) → Ways P (if b then p else q)
either_way true p q h k = h refl
either_way false p q h k = k refl

abbrev Any : {A : Type 0} → A → Type 0
Any x = ⊤

weaker_ends : {A : Type 0} (P R : A → Type 0) (plan : Plan A) → ((x : A) → P x → R x) → Ends P Serious plan → Ends R Serious plan
weaker_ends P R (Done x) k h = k x h
weaker_ends P R (Fail fault) k h = h
weaker_ends P R (Load lin size who n) k h = λ value. weaker_ends P R (n value) k (h value)
weaker_ends P R (Store lin size value who n) k h = weaker_ends P R n k h
weaker_ends P R (Translate lin size access n) k h = λ place. weaker_ends P R (n place) k (h place)
weaker_ends P R (Get place size n) k h = λ value. weaker_ends P R (n value) k (h value)
weaker_ends P R (Hold place size value n) k h = weaker_ends P R n k h
weaker_ends P R (Input port size n) k h = λ value. weaker_ends P R (n value) k (h value)

-- ---- parts that change no register

store_any : (r : Regs) (offset : ℕ) (size : Size) (value : ℕ) → Ways Any (store_to r Ss offset size value)
unfolding legal
store_any r offset size value = stack_store _ _ r size value

stack_load : (allowed : Bool) (at : ℕ) (r : Regs) (size : Size)
    → Ways Any (checked (cond allowed (Ok at) (Err (segment_fault Ss))) (λ at. Load at size (who_of r) (λ value. Done value)))
stack_load true at r size = record { ends = λ value. tt }
stack_load false at r size = record { ends = tt }

load_any : (r : Regs) (offset : ℕ) (size : Size) → Ways Any (load_from r Ss offset size)
unfolding legal
load_any r offset size = stack_load _ _ r size

read_any : (at : ℕ) → Ways Any (descriptor_at at)
unfolding descriptor_at
read_any at = record { ends = λ low high. tt }

descriptor_any : (r : Regs) (sel wrong : ℕ) → IsSerious (class_of_fault wrong) → Ways Any (descriptor_plan r sel wrong)
unfolding descriptor_plan
descriptor_any r sel wrong s = rows_way (row (is_outside r sel) (fault_at wrong sel) ∷ []) _ (s, tt) (read_any (place_of r sel))

stack_any : (wrong level : ℕ) (r : Regs) (sel : ℕ) → IsSerious (class_of_fault wrong) → Ways Any (stack_plan wrong level r sel)
unfolding stack_plan
stack_any wrong level r sel s = rows_way (row (nat_lt sel 4) (fault_at wrong 0) ∷ []) _ (s, tt) (then_way (descriptor_any r sel wrong s) (λ d _.
    rows_way (stack_rows wrong level sel d) _ (s, (s, (s, (tt, tt)))) (passes tt)))

level_any : (r : Regs) (level : ℕ) → Ways Any (level_stack_plan r level)
unfolding level_stack_plan
level_any r level = rows_way (level_rows r level) _ (tt, tt) (either_way (has_wide_tss r) _ _ (λ _. record { ends = λ esp sel. tt }) (λ _. record { ends = λ sp sel. tt }))

target_any : (r : Regs) (g : Desc) (rows : Desc → List Row) → ((d : Desc) → AllSerious (rows d)) → Ways Any (target_plan r g rows)
unfolding target_plan
target_any r g rows s = rows_way (row (nat_lt (gate_selector g) 4) (general_protection 0) ∷ []) _ (tt, tt) (then_way (descriptor_any r (gate_selector g) 13 tt) (λ d _.
    rows_way (rows d) _ (s d) (passes tt)))

mark_any : (d : Desc) → Ways Any (accessed_plan d)
unfolding accessed_plan mark_plan
mark_any d = either_way (bit d.rights 0) _ _ (λ _. passes tt) (λ _. record { ends = λ place byte. tt })

-- ---- parts that change the stack pointer, a segment register or EIP

-- a fact on registers that these do not touch
record Kept (P : Regs → Type 0) : Type 0 where
  pub reg : (r : Regs) (n : ℕ) (size : Size) (value : ℕ) → P r → P (with_reg r n size value)
  pub seg : (r : Regs) (seg : Seg) (hidden : Hidden) → P r → P (with_seg r seg hidden)
  pub eip : (r : Regs) (eip : ℕ) → P r → P (record r { eip = eip })

module _ (P : Regs → Type 0) (c : Kept P) where
  push_way : (r : Regs) (size : Size) (value : ℕ) → P r → Ways P (push_plan r size value)
  unfolding push_plan
  push_way r size value h = then_way (store_any r _ size value) (λ _ _. passes (c.reg r 4 _ _ h))

  pop_way : (r : Regs) (size : Size) → P r → Ways (λ (p : ℕ × Regs). P p.1) (pop_plan r size)
  unfolding pop_plan
  pop_way r size h = then_way (load_any r _ size) (λ value _. passes (c.reg r 4 _ _ h))

  drop_kept : (r : Regs) (bytes : ℕ) → P r → P (dropped r bytes)
  drop_kept r bytes h = c.reg r 4 _ _ h

  known_way : (r : Regs) (seg : Seg) (sel : ℕ) (d : Desc) → P r → Ways P (known_plan r seg sel d)
  unfolding known_plan
  known_way r seg sel d h = then_way (mark_any d) (λ _ _. passes (c.seg r seg _ h))

  enter_way : (r : Regs) (sel : ℕ) (d : Desc) (eip : ℕ) → P r → Ways P (enter_plan r sel d eip)
  unfolding enter_plan
  enter_way r sel d eip h = rows_way (row (nat_lt d.limit eip) (general_protection 0) ∷ []) _ (tt, tt) (then_way (known_way r Cs sel d h) (λ q k. passes (c.eip q eip k)))

  land_way : (r : Regs) (eip : ℕ) → P r → Ways P (land_plan r eip)
  unfolding land_plan
  land_way r eip h = either_way (nat_le eip (seg_of r Cs).limit) _ _ (λ _. passes (c.eip r eip h)) (λ _. fails tt)

  real_way : (r : Regs) (sel eip : ℕ) → P r → Ways P (real_code_plan r sel eip)
  unfolding real_code_plan with_selector
  real_way r sel eip h = land_way (with_selector r Cs sel) eip (c.seg r Cs _ h)

  virtual_way : (r : Regs) (sel eip : ℕ) → P r → Ways P (virtual_code_plan r sel eip)
  unfolding virtual_code_plan
  virtual_way r sel eip h = land_way (with_seg r Cs (virtual_segment sel)) eip (c.seg r Cs _ h)

  place_way : (r : Regs) (size : Size) (back : ℕ) → P r → Ways P (push_place_plan r size back)
  unfolding push_place_plan
  place_way r size back h = then_way (push_way r size _ h) (λ q k. push_way q size _ k)

  old_stack_way : (old r : Regs) (size : Size) → P r → Ways P (push_stack_plan old r size)
  unfolding push_stack_plan
  old_stack_way old r size h = then_way (push_way r size _ h) (λ q k. push_way q size _ k)

  parameter_way : (n : ℕ) (old r : Regs) (size : Size) → P r → Ways P (parameter_plan n old r size)
  unfolding parameter_plan
  parameter_way n old r size h = then_way (load_any old _ size) (λ value _. push_way r size value h)

  parameters_way : (n : ℕ) (old r : Regs) (size : Size) → P r → Ways P (parameters_plan n old r size)
  unfolding parameters_plan
  parameters_way zero old r size h = passes h
  parameters_way (suc n) old r size h = then_way (parameter_way n old r size h) (λ q k. parameters_way n old q size k)

  level_kept : (r : Regs) (seg : Seg) (level : ℕ) → P r → P (with_level r seg level)
  level_kept r seg level h = c.seg r seg _ h

  lowered_kept : (r : Regs) (level : ℕ) → P r → P (lowered r level)
  unfolding lowered
  lowered_kept r level h = level_kept _ Gs level (level_kept _ Fs level (level_kept _ Ds level (level_kept _ Es level h)))

-- ---- what stays on the way

-- The level stays a level. It stays as it is in real mode, and where V86 stays.
record Stays (o r : Regs) : Type 0 where
  pub cr0 : r.cr0 ≡ o.cr0
  pub cr3 : r.cr3 ≡ o.cr3
  pub level : o.cpl ≤ 3 → r.cpl ≤ 3
  pub real : has_protection o ≡ false → r.cpl ≡ o.cpl
  pub virtual : is_virtual r ≡ true → (is_virtual o ≡ true) × (r.cpl ≡ o.cpl)
  pub flags : AreFlags o.eflags → AreFlags r.eflags

stays : (r : Regs) → Stays r r
stays r = record { cr0 = refl; cr3 = refl; level = λ h. h; real = λ _. refl; virtual = λ e. (e, refl); flags = λ h. h }

-- registers with the same CR0, CR3, level and flags
alike : (o r q : Regs) → q.cr0 ≡ r.cr0 → q.cr3 ≡ r.cr3 → q.cpl ≡ r.cpl → q.eflags ≡ r.eflags → Stays o r → Stays o q
alike o r q a b d e h = record {
  cr0 = a ∙ h.cr0;
  cr3 = b ∙ h.cr3;
  level = λ l. rw d (h.level l);
  real = λ p. d ∙ h.real p;
  virtual = λ v. let w = h.virtual (ap (λ n. bit n 17) (sym e) ∙ v) in (w.0, d ∙ w.1);
  flags = λ f. rw e (h.flags f);
}

either_alike : (o r : Regs) (c : Bool) (p q : Regs) → Stays o p → Stays o q → Stays o (if c then p else q)
either_alike o r true p q h k = h
either_alike o r false p q h k = k

reg_alike : (o r : Regs) (n : ℕ) (size : Size) (value : ℕ) → Stays o r → Stays o (with_reg r n size value)
unfolding with_reg
reg_alike o r n B1 value h = either_alike o r (nat_lt n 4) _ _ (alike o r _ refl refl refl refl h) (alike o r _ refl refl refl refl h)
reg_alike o r n B2 value h = alike o r _ refl refl refl refl h
reg_alike o r n B4 value h = alike o r _ refl refl refl refl h

seg_alike : (o r : Regs) (seg : Seg) (hidden : Hidden) → Stays o r → Stays o (with_seg r seg hidden)
unfolding with_seg
seg_alike o r seg hidden h = alike o r _ refl refl refl refl h

stays_kept : (o : Regs) → Kept (Stays o)
stays_kept o = record { reg = λ r n size value h. reg_alike o r n size value h; seg = λ r seg hidden h. seg_alike o r seg hidden h; eip = λ r eip h. alike o r _ refl refl refl refl h }

-- registers that were sound are sound again
stays_sound : (o r : Regs) → Stays o r → StaysSound o r
stays_sound o r h = record {
  cr0 = h.cr0;
  cr3 = h.cr3;
  sound = λ s. record {
    real = λ e. let p = ap (λ n. bit n 0) (sym h.cr0) ∙ e in h.real p ∙ s.real p;
    virtual_level = λ e. let w = h.virtual e in w.1 ∙ s.virtual_level w.0;
    virtual_mode = λ e. let w = h.virtual e in ap (λ n. bit n 0) h.cr0 ∙ s.virtual_mode w.0;
    paged_mode = λ e. ap (λ n. bit n 0) h.cr0 ∙ s.paged_mode (ap (λ n. bit n 31) (sym h.cr0) ∙ e);
    level = h.level s.level;
    flags = h.flags s.flags;
  };
}

-- ---- inner and outer levels, in protected mode

-- another level, where there is neither real mode nor V86
turned : (o r q : Regs) → q.cr0 ≡ r.cr0 → q.cr3 ≡ r.cr3 → q.eflags ≡ r.eflags → (o.cpl ≤ 3 → q.cpl ≤ 3) → has_protection o ≡ true → is_virtual r ≡ false → Stays o r → Stays o q
turned o r q a b e l p v h = record {
  cr0 = a ∙ h.cr0;
  cr3 = b ∙ h.cr3;
  level = l;
  real = λ n. absurd (false≢true (sym n ∙ p));
  virtual = λ w. absurd (false≢true (sym v ∙ (ap (λ n. bit n 17) (sym e) ∙ w)));
  flags = λ f. rw e (h.flags f);
}

on_stays : (o r : Regs) (level : ℕ) (s : LevelStack) (d : Desc) → (o.cpl ≤ 3 → level ≤ 3) → has_protection o ≡ true → is_virtual r ≡ false → Stays o r → Stays o (on_stack r level s d)
unfolding on_stack with_seg
on_stays o r level s d l p v h = turned o r _ refl refl refl l p v h

inner_way : (o r : Regs) (level : ℕ) → (o.cpl ≤ 3 → level ≤ 3) → has_protection o ≡ true → is_virtual r ≡ false → Stays o r → Ways (λ (s : InnerStack). Stays o s.regs) (inner_stack_plan r level)
unfolding inner_stack_plan
inner_way o r level l p v h = then_way (level_any r level) (λ s _. then_way (stack_any 10 level r s.selector tt) (λ d _. passes (on_stays o r level s d l p v h)))

dpl_level : (d : Desc) → dpl d ≤ 3
dpl_level d = omega arith

rpl_level : (sel : ℕ) → rpl sel ≤ 3
rpl_level sel = omega arith

either_level : (b : Bool) (m n : ℕ) → m ≤ 3 → n ≤ 3 → (if b then m else n) ≤ 3
either_level true m n h k = h
either_level false m n h k = k

-- ---- JMP and CALL in protected mode

record Moves (o : Regs) (t : Transfer) : Type 0 where
  pub stays : Stays o t.regs
  pub same : IfSwitch t.outcome (t.regs ≡ o)

makes : (o r : Regs) → Stays o r → Ways (Moves o) (made r)
makes o r h = passes (record { stays = h; same = tt })

switches : (o : Regs) (sel : ℕ) → Ways (Moves o) (switch_to o sel)
switches o sel = passes (record { stays = stays o; same = refl })

jump_code_way : (r : Regs) (sel : ℕ) (d : Desc) (eip : ℕ) → Ways (Moves r) (jump_code_plan r sel d eip)
unfolding jump_code_plan
jump_code_way r sel d eip = rows_way (code_rows r.cpl sel d) _ (tt, (tt, (tt, (tt, (tt, tt))))) (then_way (enter_way (Stays r) (stays_kept r) r _ d eip (stays r)) (makes r))

call_code_way : (r : Regs) (sel : ℕ) (d : Desc) (eip : ℕ) (size : Size) (back : ℕ) → Ways (Moves r) (call_code_plan r sel d eip size back)
unfolding call_code_plan
call_code_way r sel d eip size back = rows_way (code_rows r.cpl sel d) _ (tt, (tt, (tt, (tt, (tt, tt)))))
    (then_way (place_way (Stays r) (stays_kept r) r size back (stays r)) (λ q h. then_way (enter_way (Stays r) (stays_kept r) q _ d eip h) (makes r)))

jump_gate_way : (r : Regs) (sel : ℕ) (g : Desc) → Ways (Moves r) (jump_gate_plan r sel g)
unfolding jump_gate_plan
jump_gate_way r sel g = rows_way (gate_rows r.cpl sel g) _ (tt, (tt, tt)) (then_way (target_any r g (jump_target_rows r.cpl (gate_selector g)) (λ d. (tt, (tt, (tt, (tt, tt)))))) (λ d _.
    then_way (enter_way (Stays r) (stays_kept r) r _ d (gate_offset g) (stays r)) (makes r)))

same_call_way : (r : Regs) (g d : Desc) (back : ℕ) → Ways (Stays r) (same_call_plan r g d back)
unfolding same_call_plan
same_call_way r g d back = then_way (place_way (Stays r) (stays_kept r) r _ back (stays r)) (λ q h. enter_way (Stays r) (stays_kept r) q _ d (gate_offset g) h)

inner_call_way : (r : Regs) (g d : Desc) (back : ℕ) → has_protection r ≡ true → is_virtual r ≡ false → Ways (Stays r) (inner_call_plan r g d back)
unfolding inner_call_plan
inner_call_way r g d back p v =
    then_way (inner_way r r (dpl d) (λ _. dpl_level d) p v (stays r)) (λ s h.
    then_way (old_stack_way (Stays r) (stays_kept r) r s.regs _ h) (λ a h.
    then_way (parameters_way (Stays r) (stays_kept r) (gate_count g) r a _ h) (λ b h.
    then_way (place_way (Stays r) (stays_kept r) b _ back h) (λ c h.
    then_way (enter_way (Stays r) (stays_kept r) c _ d (gate_offset g) h) (λ e h.
    known_way (Stays r) (stays_kept r) e Ss _ _ h)))))

call_gate_way : (r : Regs) (sel : ℕ) (g : Desc) (back : ℕ) → has_protection r ≡ true → is_virtual r ≡ false → Ways (Moves r) (call_gate_plan r sel g back)
unfolding call_gate_plan
call_gate_way r sel g back p v = rows_way (gate_rows r.cpl sel g) _ (tt, (tt, tt)) (then_way (target_any r g (target_rows r.cpl (gate_selector g)) (λ d. (tt, (tt, (tt, tt))))) (λ d _.
    then_way (either_way (nat_lt (level_of r.cpl d) r.cpl) _ _ (λ _. inner_call_way r g d back p v) (λ _. same_call_way r g d back)) (makes r)))

task_gate_way : (r : Regs) (sel : ℕ) (g : Desc) → Ways (Moves r) (task_gate_plan r sel g)
unfolding task_gate_plan
task_gate_way r sel g = rows_way (gate_rows r.cpl sel g) _ (tt, (tt, tt)) (switches r (gate_selector g))

kind_way : (r : Regs) (sel : ℕ) (d : Desc) (gate code : Plan Transfer) → Ways (Moves r) gate → Ways (Moves r) code → Ways (Moves r) (by_kind r sel d gate code)
kind_way r sel d gate code g c = either_way (is_call_gate d) _ _ (λ _. g) (λ _. either_way (is_task_gate d) _ _ (λ _. task_gate_way r sel d)
    (λ _. either_way (is_tss d) _ _ (λ _. switches r sel) (λ _. c)))

protected_jump_way : (r : Regs) (sel eip : ℕ) → Ways (Moves r) (protected_jump_plan r sel eip)
unfolding protected_jump_plan
protected_jump_way r sel eip = rows_way (row (nat_lt sel 4) (general_protection 0) ∷ []) _ (tt, tt) (then_way (descriptor_any r sel 13 tt) (λ d _.
    kind_way r sel d _ _ (jump_gate_way r sel d) (jump_code_way r sel d eip)))

protected_call_way : (r : Regs) (sel eip : ℕ) (size : Size) (back : ℕ) → has_protection r ≡ true → is_virtual r ≡ false → Ways (Moves r) (protected_call_plan r sel eip size back)
unfolding protected_call_plan
protected_call_way r sel eip size back p v = rows_way (row (nat_lt sel 4) (general_protection 0) ∷ []) _ (tt, tt) (then_way (descriptor_any r sel 13 tt) (λ d _.
    kind_way r sel d _ _ (call_gate_way r sel d back p v) (call_code_way r sel d eip size back)))

-- ---- RETF in protected mode

at_stays : (o r : Regs) (level esp : ℕ) → level ≤ 3 → has_protection o ≡ true → is_virtual r ≡ false → Stays o r → Stays o (at_level r level esp)
at_stays o r level esp l p v h = turned o r _ refl refl refl (λ _. l) p v h

is_false : (b : Bool) → (b ≡ true → ⊥) → b ≡ false
is_false true h = absurd (h refl)
is_false false h = refl

-- not V86 where it was not
still : (o r : Regs) → Stays o r → is_virtual o ≡ false → is_virtual r ≡ false
still o r h v = is_false (is_virtual r) (λ e. false≢true (sym v ∙ (h.virtual e).0))

outer_way : (o r : Regs) (size : Size) (drop eip sel : ℕ) (d : Desc) → has_protection o ≡ true → is_virtual o ≡ false → Stays o r → Ways (Stays o) (outer_return_plan r size drop eip sel d)
unfolding outer_return_plan
outer_way o r size drop eip sel d p v h =
    then_way (pop_way (Stays o) (stays_kept o) (dropped r drop) size (drop_kept (Stays o) (stays_kept o) r drop h)) (λ esp h.
    then_way (pop_way (Stays o) (stays_kept o) esp.1 size h) (λ ss h.
    then_way (stack_any 13 (rpl sel) ss.1 (ss.0 % 2 ^ 16) tt) (λ e _.
    then_way (enter_way (Stays o) (stays_kept o) _ sel d eip (at_stays o ss.1 (rpl sel) esp.0 (rpl_level sel) p (still o ss.1 h v) h)) (λ a h.
    then_way (known_way (Stays o) (stays_kept o) a Ss _ e h) (λ b h.
    passes (lowered_kept (Stays o) (stays_kept o) _ (rpl sel) (drop_kept (Stays o) (stays_kept o) b drop h)))))))

return_to_way : (o r : Regs) (size : Size) (drop eip sel : ℕ) → has_protection o ≡ true → is_virtual o ≡ false → Stays o r → Ways (Stays o) (return_to_plan r size drop eip sel)
unfolding return_to_plan same_return_plan
return_to_way o r size drop eip sel p v h = rows_way (return_selector_rows r.cpl sel) _ (tt, (tt, tt)) (then_way (descriptor_any r sel 13 tt) (λ d _.
    rows_way (return_code_rows sel d) _ (tt, (tt, (tt, (tt, tt)))) (either_way (rpl sel == r.cpl) _ _
    (λ _. enter_way (Stays o) (stays_kept o) _ sel d eip (drop_kept (Stays o) (stays_kept o) r drop h))
    (λ _. outer_way o r size drop eip sel d p v h))))

protected_return_way : (r : Regs) (size : Size) (drop : ℕ) → has_protection r ≡ true → is_virtual r ≡ false → Ways (Stays r) (protected_return_plan r size drop)
unfolding protected_return_plan
protected_return_way r size drop p v =
    then_way (pop_way (Stays r) (stays_kept r) r size (stays r)) (λ eip h.
    then_way (pop_way (Stays r) (stays_kept r) eip.1 size h) (λ cs h.
    return_to_way r cs.1 size drop eip.0 _ p v h))

-- ---- EFLAGS from an image

least : (a b : ℕ) → b ≡ 0 → min a b ≡ 0
least a b e = omega (arith, e)

kept_there : (a b : ℕ) → a < 2 → b ≡ 0 → min a (1 - b) ≡ a
kept_there a b h e = omega (arith, h, e)

higher : (a b c d : ℕ) → a ≡ 0 → b ≡ c → max a b ≡ c
higher a b c d e f = omega (arith, e, f)

-- a bit that is not among those that are taken
other_stays : (image flags e j : ℕ) → flags < 2 ^ 32 → j < 32 → bit_at flags j ≡ 0 → bit_at (with_flags_from image flags e) j ≡ bit_at e j
other_stays image flags e j small below clear =
    bit_at_or (bit_and image flags) (bit_and e (bit_not w32 flags)) j
    ∙ higher _ _ _ 0 (bit_at_and image flags j ∙ least _ _ clear)
    (bit_at_and e (bit_not w32 flags) j ∙ ap (λ v. min (bit_at e j) v) (bit_at_not w32 flags j small below) ∙ kept_there _ _ (bit_at-lt e j) clear)

within : (image flags : ℕ) → flags < 2 ^ 18 → bit_and image flags < 2 ^ 18
within image flags h = omega (arith, and_le_r image flags, h)

and_below : (e other : ℕ) → e < 2 ^ 18 → bit_and e other < 2 ^ 18
and_below e other h = omega (arith, and_le_l e other, h)

same_bit : (image flags e j : ℕ) → flags < 2 ^ 18 → j < 32 → bit_at flags j ≡ 0 → bit (with_flags_from image flags e) j ≡ bit e j
same_bit image flags e j small below clear = ap (λ v. v == 1) (other_stays image flags e j (omega (arith, small)) below clear)

-- bits that are flags
record AreTaken (flags : ℕ) : Type 0 where
  pub one : bit_at flags 1 ≡ 0
  pub three : bit_at flags 3 ≡ 0
  pub five : bit_at flags 5 ≡ 0
  pub fifteen : bit_at flags 15 ≡ 0
  pub below : flags < 2 ^ 18

image_flags : (image flags e : ℕ) → AreTaken flags → AreFlags e → AreFlags (with_flags_from image flags e)
image_flags image flags e t h = record {
  one = same_bit image flags e 1 t.below (omega arith) t.one ∙ h.one;
  three = same_bit image flags e 3 t.below (omega arith) t.three ∙ h.three;
  five = same_bit image flags e 5 t.below (omega arith) t.five ∙ h.five;
  fifteen = same_bit image flags e 15 t.below (omega arith) t.fifteen ∙ h.fifteen;
  above = or_lt 18 (bit_and image flags) (bit_and e (bit_not w32 flags)) (within image flags t.below) (and_below e (bit_not w32 flags) h.above);
}

-- what a return takes, beside VM
record AreReturned (flags : ℕ) : Type 0 where
  pub taken : AreTaken flags
  pub entering : AreTaken (flags + 2 ^ VM)
  pub virtual : bit_at flags 17 ≡ 0

returned : (level guarded : Bool) → AreReturned (common_flags + cond level (3 * 2 ^ IOPL) 0 + cond guarded (2 ^ IF) 0)
returned true true = record { taken = record { one = refl; three = refl; five = refl; fifteen = refl; below = omega arith }; entering = record { one = refl; three = refl; five = refl; fifteen = refl; below = omega arith }; virtual = refl }
returned true false = record { taken = record { one = refl; three = refl; five = refl; fifteen = refl; below = omega arith }; entering = record { one = refl; three = refl; five = refl; fifteen = refl; below = omega arith }; virtual = refl }
returned false true = record { taken = record { one = refl; three = refl; five = refl; fifteen = refl; below = omega arith }; entering = record { one = refl; three = refl; five = refl; fifteen = refl; below = omega arith }; virtual = refl }
returned false false = record { taken = record { one = refl; three = refl; five = refl; fifteen = refl; below = omega arith }; entering = record { one = refl; three = refl; five = refl; fifteen = refl; below = omega arith }; virtual = refl }

returned_with_resume : (level guarded : Bool) → AreReturned (common_flags + cond level (3 * 2 ^ IOPL) 0 + cond guarded (2 ^ IF) 0 + 2 ^ RF)
returned_with_resume true true = record { taken = record { one = refl; three = refl; five = refl; fifteen = refl; below = omega arith }; entering = record { one = refl; three = refl; five = refl; fifteen = refl; below = omega arith }; virtual = refl }
returned_with_resume true false = record { taken = record { one = refl; three = refl; five = refl; fifteen = refl; below = omega arith }; entering = record { one = refl; three = refl; five = refl; fifteen = refl; below = omega arith }; virtual = refl }
returned_with_resume false true = record { taken = record { one = refl; three = refl; five = refl; fifteen = refl; below = omega arith }; entering = record { one = refl; three = refl; five = refl; fifteen = refl; below = omega arith }; virtual = refl }
returned_with_resume false false = record { taken = record { one = refl; three = refl; five = refl; fifteen = refl; below = omega arith }; entering = record { one = refl; three = refl; five = refl; fifteen = refl; below = omega arith }; virtual = refl }

are_returned : (r : Regs) (size : Size) → AreReturned (returned_flags r size)
are_returned r B4 = returned_with_resume (r.cpl == 0) (nat_le r.cpl (io_level r))
are_returned r B1 = returned (r.cpl == 0) (nat_le r.cpl (io_level r))
are_returned r B2 = returned (r.cpl == 0) (nat_le r.cpl (io_level r))

-- the flags of an image, with VM as it was
image_virtual : (o : Regs) (size : Size) (image : ℕ) → bit (with_flags_from image (returned_flags o size) o.eflags) 17 ≡ is_virtual o
image_virtual o size image = same_bit image (returned_flags o size) o.eflags 17 (are_returned o size).taken.below (omega arith) (are_returned o size).virtual

-- ---- IRET in protected mode

image_stays : (o q : Regs) (image : ℕ) (size : Size) → is_virtual o ≡ false → Stays o q → Stays o (record q { eflags = with_flags_from image (returned_flags o size) o.eflags })
image_stays o q image size v h = record {
  cr0 = h.cr0;
  cr3 = h.cr3;
  level = h.level;
  real = h.real;
  virtual = λ e. absurd (false≢true (sym v ∙ (sym (image_virtual o size image) ∙ e)));
  flags = image_flags image (returned_flags o size) o.eflags (are_returned o size).taken;
}

enters_virtual : (o q : Regs) (eip esp image es cs ss ds fs gs : ℕ) → has_protection o ≡ true → Stays o q
    → StaysSound o (virtual_segments (at_virtual q eip esp (with_flags_from image (returned_flags o B4 + 2 ^ VM) o.eflags)) es cs ss ds fs gs)
unfolding virtual_segments
enters_virtual o q eip esp image es cs ss ds fs gs p h = record {
  cr0 = h.cr0;
  cr3 = h.cr3;
  sound = λ s. record {
    real = λ e. absurd (false≢true (sym e ∙ (ap (λ n. bit n 0) h.cr0 ∙ p)));
    virtual_level = λ _. refl;
    virtual_mode = λ _. ap (λ n. bit n 0) h.cr0 ∙ p;
    paged_mode = λ _. ap (λ n. bit n 0) h.cr0 ∙ p;
    level = omega arith;
    flags = image_flags image (returned_flags o B4 + 2 ^ VM) o.eflags (are_returned o B4).entering s.flags;
  };
}

to_virtual_way : (o r : Regs) (eip cs image : ℕ) → has_protection o ≡ true → Stays o r → Ways (StaysSound o) (return_to_virtual_plan o r eip cs image)
unfolding return_to_virtual_plan
to_virtual_way o r eip cs image p h =
    then_way (pop_way (Stays o) (stays_kept o) r B4 h) (λ esp h.
    then_way (pop_way (Stays o) (stays_kept o) esp.1 B4 h) (λ ss h.
    then_way (pop_way (Stays o) (stays_kept o) ss.1 B4 h) (λ es h.
    then_way (pop_way (Stays o) (stays_kept o) es.1 B4 h) (λ ds h.
    then_way (pop_way (Stays o) (stays_kept o) ds.1 B4 h) (λ fs h.
    then_way (pop_way (Stays o) (stays_kept o) fs.1 B4 h) (λ gs h.
    rows_way (virtual_rows eip) _ (tt, tt) (passes (enters_virtual o gs.1 eip esp.0 image _ _ _ _ _ _ p h))))))))

to_code_way : (o r : Regs) (size : Size) (eip sel image : ℕ) → has_protection o ≡ true → is_virtual o ≡ false → Stays o r
    → Ways (StaysSound o) (then_plan (return_to_plan r size 0 eip sel) (λ q. Done (record q { eflags = with_flags_from image (returned_flags o size) o.eflags })))
to_code_way o r size eip sel image p v h = then_way (return_to_way o r size 0 eip sel p v h) (λ q k. passes (stays_sound o _ (image_stays o q image size v k)))

popped_way : (r : Regs) (size : Size) → has_protection r ≡ true → is_virtual r ≡ false → Ways (StaysSound r) (popped_return_plan r size)
unfolding popped_return_plan
popped_way r size p v =
    then_way (pop_way (Stays r) (stays_kept r) r size (stays r)) (λ eip h.
    then_way (pop_way (Stays r) (stays_kept r) eip.1 size h) (λ cs h.
    then_way (pop_way (Stays r) (stays_kept r) cs.1 size h) (λ image h.
    either_way (gives_virtual r size image.0) _ _ (λ _. to_virtual_way r image.1 eip.0 cs.0 image.0 p h) (λ _. to_code_way r image.1 size eip.0 _ image.0 p v h))))

-- ---- the way through a gate

vm_clear : (e : ℕ) → bit (with_bit e VM 0) 17 ≡ false
vm_clear e = ap (λ v. v == 1) (bit_at-with_bit e 17 0 (omega arith))

other_bit : (n k j : ℕ) → j ≢ k → bit (with_bit n k 0) j ≡ bit n j
other_bit n k j other = ap (λ v. v == 1) (bit_at-with_bit_other n k 0 j (omega arith) other)

cleared : (n k : ℕ) → 1 ≢ k → 3 ≢ k → 5 ≢ k → 15 ≢ k → k < 18 → AreFlags n → AreFlags (with_bit n k 0)
cleared n k one three five fifteen below h = record {
  one = other_bit n k 1 one ∙ h.one;
  three = other_bit n k 3 three ∙ h.three;
  five = other_bit n k 5 five ∙ h.five;
  fifteen = other_bit n k 15 fifteen ∙ h.fifteen;
  above = with_bit-lt n k 0 18 h.above below (omega arith);
}

either_flags : (b : Bool) (m n : ℕ) → AreFlags m → AreFlags n → AreFlags (if b then m else n)
either_flags true m n h k = h
either_flags false m n h k = k

gate_keeps : (g : Desc) (e : ℕ) → AreFlags e → AreFlags (gate_flags g e)
gate_keeps g e h =
    cleared _ VM (omega arith) (omega arith) (omega arith) (omega arith) (omega arith)
    (cleared _ RF (omega arith) (omega arith) (omega arith) (omega arith) (omega arith)
    (cleared _ NT (omega arith) (omega arith) (omega arith) (omega arith) (omega arith)
    (cleared _ TF (omega arith) (omega arith) (omega arith) (omega arith) (omega arith)
    (either_flags (is_interrupt_gate g) _ _ (cleared e IF (omega arith) (omega arith) (omega arith) (omega arith) (omega arith) h) h))))

left_virtual : (r : Regs) → Stays r (without_virtual r)
left_virtual r = record {
  cr0 = refl;
  cr3 = refl;
  level = λ h. h;
  real = λ _. refl;
  virtual = λ e. absurd (false≢true (sym (vm_clear r.eflags) ∙ e));
  flags = cleared r.eflags VM (omega arith) (omega arith) (omega arith) (omega arith) (omega arith);
}

segments_way : (o old r : Regs) → Stays o r → Ways (Stays o) (push_segments_plan old r)
unfolding push_segments_plan
segments_way o old r h = then_way (push_way (Stays o) (stays_kept o) r B4 _ h) (λ a h. then_way (push_way (Stays o) (stays_kept o) a B4 _ h) (λ b h.
    then_way (push_way (Stays o) (stays_kept o) b B4 _ h) (λ c h. push_way (Stays o) (stays_kept o) c B4 _ h)))

virtual_frame_way : (o q : Regs) → Stays o q → Ways (Stays o) (if is_virtual o then push_segments_plan o q else Done q)
virtual_frame_way o q h = either_way (is_virtual o) _ _ (λ _. segments_way o o q h) (λ _. passes h)

begin_way : (r : Regs) (level : ℕ) (size : Size) → (r.cpl ≤ 3 → level ≤ 3) → has_protection r ≡ true → Ways (λ (f : Frame). Stays r f.regs) (begin_frame_plan r level size)
unfolding begin_frame_plan inner_frame_plan
begin_way r level size l p = either_way (nat_lt level r.cpl) _ _
    (λ _. then_way (inner_way r (without_virtual r) level l p (vm_clear r.eflags) (left_virtual r)) (λ s h.
    then_way (virtual_frame_way r s.regs h) (λ a h.
    then_way (old_stack_way (Stays r) (stays_kept r) r a size h) (λ b h. passes h))))
    (λ _. passes (stays r))

code_way : (o r : Regs) (size : Size) (code : Option ℕ) → Stays o r → Ways (Stays o) (push_code_plan r size code)
unfolding push_code_plan
code_way o r size None h = passes h
code_way o r size (Some code) h = push_way (Stays o) (stays_kept o) r size code h

end_way : (o r : Regs) (cause : Cause) (size : Size) → Stays o r → Ways (Stays o) (end_frame_plan o r cause size)
unfolding end_frame_plan
end_way o r cause size h = then_way (push_way (Stays o) (stays_kept o) r size _ h) (λ a h. then_way (push_way (Stays o) (stays_kept o) a size _ h) (λ b h.
    then_way (push_way (Stays o) (stays_kept o) b size _ h) (λ c h. code_way o c size cause.code h)))

keep_way : (o r : Regs) (stack : Option StackSegment) → Stays o r → Ways (Stays o) (keep_stack_plan r stack)
unfolding keep_stack_plan
keep_way o r None h = passes h
keep_way o r (Some s) h = known_way (Stays o) (stays_kept o) r Ss s.selector s.desc h

nulls_alike : (o r : Regs) → Stays o r → Stays o (without_segments r)
unfolding without_segments
nulls_alike o r h = seg_alike o _ Gs _ (seg_alike o _ Fs _ (seg_alike o _ Ds _ (seg_alike o _ Es _ h)))

with_gate_flags : (o r : Regs) (g : Desc) → Stays o r → StaysSound o (record r { eflags = gate_flags g o.eflags })
with_gate_flags o r g h = record {
  cr0 = h.cr0;
  cr3 = h.cr3;
  sound = λ s. record {
    real = λ e. let p = ap (λ n. bit n 0) (sym h.cr0) ∙ e in h.real p ∙ s.real p;
    virtual_level = λ e. absurd (false≢true (sym (vm_clear _) ∙ e));
    virtual_mode = λ e. absurd (false≢true (sym (vm_clear _) ∙ e));
    paged_mode = λ e. ap (λ n. bit n 0) h.cr0 ∙ s.paged_mode (ap (λ n. bit n 31) (sym h.cr0) ∙ e);
    level = h.level s.level;
    flags = gate_keeps g o.eflags s.flags;
  };
}

gate_sound : (o r : Regs) (g : Desc) → Stays o r → StaysSound o (at_gate o r g)
unfolding at_gate
gate_sound o r g h = with_gate_flags o _ g (either_alike o r (is_virtual o) _ _ (nulls_alike o r h) h)

handler_way : (r : Regs) (cause : Cause) (g d : Desc) → has_protection r ≡ true → Ways (StaysSound r) (handler_plan r cause g d)
unfolding handler_plan
handler_way r cause g d p =
    then_way (begin_way r (level_of r.cpl d) (gate_size g) (λ l. either_level (is_conforming d) r.cpl (dpl d) l (dpl_level d)) p) (λ f h.
    then_way (end_way r f.regs cause _ h) (λ a h.
    then_way (enter_way (Stays r) (stays_kept r) a _ d (gate_offset g) h) (λ b h.
    then_way (keep_way r b f.stack h) (λ c h.
    passes (gate_sound r c g h)))))

through_way : (r : Regs) (cause : Cause) (g : Desc) → has_protection r ≡ true → Ways (StaysSound r) (through_code_plan r cause g)
unfolding through_code_plan
through_way r cause g p = then_way (target_any r g (target_rows r.cpl (gate_selector g)) (λ d. (tt, (tt, (tt, tt))))) (λ d _.
    rows_way (handler_rows r g d) _ (tt, (tt, tt)) (handler_way r cause g d p))

vector_any : (r : Regs) (cause : Cause) → Ways Any (vector_plan r cause)
unfolding vector_plan
vector_any r cause = rows_way (table_rows r cause.vector) _ (tt, tt) (then_way (read_any _) (λ g _.
    rows_way (vector_rows r cause g) _ (tt, (tt, (tt, tt))) (passes tt)))

-- ---- every mode

-- what a transfer leaves
pub record IsSoundTransfer (o : Regs) (t : Transfer) : Type 0 where
  pub stays : StaysSound o t.regs
  pub same : IfSwitch t.outcome (t.regs ≡ o)

sound_made : (o r : Regs) → StaysSound o r → Ways (IsSoundTransfer o) (made r)
sound_made o r h = passes (record { stays = h; same = tt })

sound_switch : (o : Regs) (sel : ℕ) → Ways (IsSoundTransfer o) (switch_to o sel)
sound_switch o sel = passes (record { stays = stays_sound o o (stays o); same = refl })

sound_moves : (o : Regs) (plan : Plan Transfer) → Ways (Moves o) plan → Ways (IsSoundTransfer o) plan
sound_moves o plan h = record { ends = weaker_ends (Moves o) (IsSoundTransfer o) plan (λ t m. record { stays = stays_sound o t.regs m.stays; same = m.same }) h.ends }

protected_iret_way : (r : Regs) (size : Size) → has_protection r ≡ true → is_virtual r ≡ false → Ways (IsSoundTransfer r) (protected_interrupt_return_plan r size)
unfolding protected_interrupt_return_plan
protected_iret_way r size p v = either_way (bit r.eflags NT) _ _ (λ _. record { ends = λ link. (sound_switch r link).ends }) (λ _. then_way (popped_way r size p v) (sound_made r))

-- real mode and V86 leave the mode and the level
steadily : (o r q : Regs) → q.cr0 ≡ r.cr0 → q.cr3 ≡ r.cr3 → q.cpl ≡ r.cpl → q.eflags ≡ r.eflags → Steady o r → Steady o q
steadily o r q a b d e h = record {
  cr0 = a ∙ h.cr0;
  cr3 = b ∙ h.cr3;
  cpl = d ∙ h.cpl;
  virtual = ap (λ n. bit n 17) e ∙ h.virtual;
  flags = λ f. rw e (h.flags f);
}

steady : (r : Regs) → Steady r r
steady r = record { cr0 = refl; cr3 = refl; cpl = refl; virtual = refl; flags = λ h. h }

either_steady : (o r : Regs) (c : Bool) (p q : Regs) → Steady o p → Steady o q → Steady o (if c then p else q)
either_steady o r true p q h k = h
either_steady o r false p q h k = k

reg_steady : (o r : Regs) (n : ℕ) (size : Size) (value : ℕ) → Steady o r → Steady o (with_reg r n size value)
unfolding with_reg
reg_steady o r n B1 value h = either_steady o r (nat_lt n 4) _ _ (steadily o r _ refl refl refl refl h) (steadily o r _ refl refl refl refl h)
reg_steady o r n B2 value h = steadily o r _ refl refl refl refl h
reg_steady o r n B4 value h = steadily o r _ refl refl refl refl h

seg_steady : (o r : Regs) (seg : Seg) (hidden : Hidden) → Steady o r → Steady o (with_seg r seg hidden)
unfolding with_seg
seg_steady o r seg hidden h = steadily o r _ refl refl refl refl h

steady_kept : (o : Regs) → Kept (Steady o)
steady_kept o = record { reg = λ r n size value h. reg_steady o r n size value h; seg = λ r seg hidden h. seg_steady o r seg hidden h; eip = λ r eip h. steadily o r _ refl refl refl refl h }

-- with the load of CS of either
abbrev Loads : (Regs → ℕ → ℕ → Plan Regs) → Type 0
Loads code = (o r : Regs) (sel eip : ℕ) → Steady o r → Ways (Steady o) (code r sel eip)

loads_real : Loads real_code_plan
loads_real o r sel eip h = real_way (Steady o) (steady_kept o) r sel eip h

loads_virtual : Loads virtual_code_plan
loads_virtual o r sel eip h = virtual_way (Steady o) (steady_kept o) r sel eip h

plain_jump : (code : Regs → ℕ → ℕ → Plan Regs) → Loads code → (r : Regs) (sel eip : ℕ) → Ways (IsSoundTransfer r) (plain_jump_plan code r sel eip)
plain_jump code l r sel eip = then_way (l r r sel eip (steady r)) (λ q h. sound_made r q (steady_stays_sound r q h))

plain_call : (code : Regs → ℕ → ℕ → Plan Regs) → Loads code → (r : Regs) (sel eip : ℕ) (size : Size) (back : ℕ) → Ways (IsSoundTransfer r) (plain_call_plan code r sel eip size back)
plain_call code l r sel eip size back = then_way (place_way (Steady r) (steady_kept r) r size back (steady r)) (λ q h. then_way (l r q sel eip h) (λ s k. sound_made r s (steady_stays_sound r s k)))

plain_return : (code : Regs → ℕ → ℕ → Plan Regs) → Loads code → (r : Regs) (size : Size) (drop : ℕ) → Ways (StaysSound r) (plain_return_plan code r size drop)
plain_return code l r size drop =
    then_way (pop_way (Steady r) (steady_kept r) r size (steady r)) (λ eip h.
    then_way (pop_way (Steady r) (steady_kept r) eip.1 size h) (λ cs h.
    then_way (l r cs.1 _ eip.0 h) (λ q h.
    passes (steady_stays_sound r _ (drop_kept (Steady r) (steady_kept r) q drop h)))))

image_steady : (o q : Regs) (image : ℕ) (size : Size) → Steady o q → Steady o (record q { eflags = with_flags_from image (returned_flags o size) o.eflags })
image_steady o q image size h = record {
  cr0 = h.cr0;
  cr3 = h.cr3;
  cpl = h.cpl;
  virtual = image_virtual o size image;
  flags = image_flags image (returned_flags o size) o.eflags (are_returned o size).taken;
}

plain_iret : (code : Regs → ℕ → ℕ → Plan Regs) → Loads code → (r : Regs) (size : Size) → Ways (IsSoundTransfer r) (plain_interrupt_return_plan code r size)
plain_iret code l r size =
    then_way (pop_way (Steady r) (steady_kept r) r size (steady r)) (λ eip h.
    then_way (pop_way (Steady r) (steady_kept r) eip.1 size h) (λ cs h.
    then_way (pop_way (Steady r) (steady_kept r) cs.1 size h) (λ image h.
    then_way (l r image.1 _ eip.0 h) (λ q h.
    sound_made r _ (steady_stays_sound r _ (image_steady r q image.0 size h))))))

virtual_iret : (r : Regs) (size : Size) → Ways (IsSoundTransfer r) (virtual_interrupt_return_plan r size)
unfolding virtual_interrupt_return_plan
virtual_iret r size = rows_way (sensitive_rows r) _ (tt, tt) (plain_iret virtual_code_plan loads_virtual r size)

not_false : (b : Bool) → not b ≡ false → b ≡ true
not_false true e = refl
not_false false e = absurd (false≢true (sym e))

mode_way : {A : Type 0} {P : A → Type 0} (r : Regs) (real virtual protected : Plan A) → Ways P real → Ways P virtual → (has_protection r ≡ true → is_virtual r ≡ false → Ways P protected)
    → Ways P (in_mode r real virtual protected)
mode_way r real virtual protected a b c = either_way (not (has_protection r)) _ _ (λ _. a) (λ p. either_way (is_virtual r) _ _ (λ _. b) (λ v. c (not_false (has_protection r) p) v))

pub jump_sound : (r : Regs) (sel off : ℕ) (size : Size) → Ends (IsSoundTransfer r) Serious (jump_far_plan r sel off size)
unfolding jump_far_plan
jump_sound r sel off size = (mode_way r _ _ _ (plain_jump real_code_plan loads_real r sel _) (plain_jump virtual_code_plan loads_virtual r sel _)
    (λ p v. sound_moves r _ (protected_jump_way r sel (off % bound_of size)))).ends

pub call_sound : (r : Regs) (sel off : ℕ) (size : Size) (back : ℕ) → Ends (IsSoundTransfer r) Serious (call_far_plan r sel off size back)
unfolding call_far_plan
call_sound r sel off size back = (mode_way r _ _ _ (plain_call real_code_plan loads_real r sel _ size back) (plain_call virtual_code_plan loads_virtual r sel _ size back)
    (λ p v. sound_moves r _ (protected_call_way r sel (off % bound_of size) size back p v))).ends

stays_sounds : (o : Regs) (plan : Plan Regs) → Ways (Stays o) plan → Ways (StaysSound o) plan
stays_sounds o plan h = record { ends = weaker_ends (Stays o) (StaysSound o) plan (stays_sound o) h.ends }

pub return_sound : (r : Regs) (size : Size) (drop : ℕ) → Ends (StaysSound r) Serious (return_far_plan r size drop)
unfolding return_far_plan
return_sound r size drop = (mode_way r _ _ _ (plain_return real_code_plan loads_real r size drop) (plain_return virtual_code_plan loads_virtual r size drop)
    (λ p v. stays_sounds r _ (protected_return_way r size drop p v))).ends

pub iret_sound : (r : Regs) (size : Size) → Ends (IsSoundTransfer r) Serious (interrupt_return_plan r size)
unfolding interrupt_return_plan
iret_sound r size = (mode_way r _ _ _ (plain_iret real_code_plan loads_real r size) (virtual_iret r size) (λ p v. protected_iret_way r size p v)).ends

protected_gate_way : (cause : Cause) (r : Regs) → has_protection r ≡ true → Ways (IsSoundTransfer r) (protected_gate_plan cause r)
unfolding protected_gate_plan
protected_gate_way cause r p = then_way (vector_any r cause) (λ g _. either_way (is_task_gate g) _ _ (λ _. sound_switch r (gate_selector g)) (λ _. then_way (through_way r cause g p) (sound_made r)))

real_gate_way : (cause : Cause) (r : Regs) → Ways (Steady r) (real_gate_plan cause r)
unfolding gate_plan
real_gate_way cause r = record { ends = gate_ends cause r }

pub way_sound : (cause : Cause) (r : Regs) → Ends (IsSoundTransfer r) Serious (gate_way_plan cause r)
unfolding gate_way_plan
way_sound cause r = (either_way (has_protection r) _ _ (λ p. protected_gate_way cause r p) (λ _. then_way (real_gate_way cause r) (λ q h. sound_made r q (steady_stays_sound r q h)))).ends
