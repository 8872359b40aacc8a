-- What an instruction does, by the family of its mnemonic.
use Rattle.std.proofs.Common.{◌≡◌, ℕ, ◌&&◌, ◌||◌, Bool, true, false, refl, sym, ◌∙◌}
use Rattle.std.specs.Prelude.{not}
use Rattle.std.proofs.lemmas.Bool.{false≢true}
use Rattle.mdl_state.specs.declared.Regs.{Regs}
use Rattle.mdl_state.specs.State.{Mem}
use Rattle.mdl_state.specs.Serving.{Serve}
use Rattle.mdl_state.specs.Attempt.{attempt}
use Rattle.mdl_insn.specs.declared.instruction.Insn.{Insn}
use Rattle.mdl_insn.specs.declared.instruction.Operand.{Operand}
use Rattle.mdl_insn.specs.declared.instruction.Operand.TheVariants.{Sreg}
use Rattle.mdl_insn.specs.declared.mnemonics.Op.{Op}
use Rattle.mdl_insn.specs.declared.mnemonics.Op.TheVariants as ops
use Rattle.mdl_effect.specs.Operands.{is_segment, no_such}
use Rattle.mdl_effect.specs.DataEffects.{is_data, is_address, is_special, is_segment_pop, runs_data, data_effect}
use Rattle.mdl_effect.specs.FlowEffects.{is_flow, is_pop, runs_flow, flow_effect}
use Rattle.mdl_effect.specs.StringEffects.{runs_string, string_plan}
use Rattle.mdl_effect.specs.FarEffects.{is_far, runs_far, far_run}
use Rattle.mdl_effect.specs.ProtectionEffects.{is_protected_only}
use Rattle.mdl_effect.specs.SystemEffects.{is_system, is_mov, runs_system, system_effect}
use Rattle.mdl_step.specs.Effects.{effect, in_own_task, run_whole}

-- what an instruction is of: none of the data mnemonics, none of the address ones, no POP of a segment register
abbrev IsNoData : Op → Operand → Type 0
IsNoData op a = (is_data op ≡ false) × (is_address op ≡ false) × (is_segment_pop op a ≡ false)

no_data : (insn : Insn) → IsNoData insn.op insn.a → runs_data insn ≡ false
no_data insn e = rw (e.0, e.1, e.2) refl

pop_no_data : (a : Operand) → not (is_segment a) ≡ true → IsNoData ops.Pop a
pop_no_data (Sreg seg) e = absurd (false≢true e)
pop_no_data _ e = (refl, refl, refl)

flow_no_data : (op : Op) (a : Operand) → (is_flow op && not (is_pop op && is_segment a)) ≡ true → IsNoData op a
flow_no_data ops.Jmp a e = (refl, refl, refl)
flow_no_data (ops.Jcc number) a e = (refl, refl, refl)
flow_no_data ops.Call a e = (refl, refl, refl)
flow_no_data ops.Ret a e = (refl, refl, refl)
flow_no_data ops.Loop a e = (refl, refl, refl)
flow_no_data ops.Loope a e = (refl, refl, refl)
flow_no_data ops.Loopne a e = (refl, refl, refl)
flow_no_data ops.Jcxz a e = (refl, refl, refl)
flow_no_data ops.Push a e = (refl, refl, refl)
flow_no_data ops.Pop a e = pop_no_data a e
flow_no_data ops.Pusha a e = (refl, refl, refl)
flow_no_data ops.Popa a e = (refl, refl, refl)
flow_no_data ops.Enter a e = (refl, refl, refl)
flow_no_data ops.Leave a e = (refl, refl, refl)
flow_no_data ops.Clc a e = (refl, refl, refl)
flow_no_data ops.Stc a e = (refl, refl, refl)
flow_no_data ops.Cmc a e = (refl, refl, refl)
flow_no_data ops.Cld a e = (refl, refl, refl)
flow_no_data ops.Std a e = (refl, refl, refl)
flow_no_data ops.Lahf a e = (refl, refl, refl)
flow_no_data ops.Sahf a e = (refl, refl, refl)
flow_no_data _ a e = absurd (false≢true e)

string_only : (op : Op) (a : Operand) → runs_string op ≡ true → IsNoData op a × (is_flow op ≡ false)
string_only ops.Movs a e = ((refl, refl, refl), refl)
string_only ops.Cmps a e = ((refl, refl, refl), refl)
string_only ops.Stos a e = ((refl, refl, refl), refl)
string_only ops.Lods a e = ((refl, refl, refl), refl)
string_only ops.Scas a e = ((refl, refl, refl), refl)
string_only ops.Ins a e = ((refl, refl, refl), refl)
string_only ops.Outs a e = ((refl, refl, refl), refl)
string_only _ a e = absurd (false≢true e)

-- an instruction of none of the other families
abbrev IsApart : Op → Operand → Operand → Type 0
IsApart op a b = ((is_data op && not (is_special a) && not (is_special b)) ≡ false) × (is_address op ≡ false) × (is_segment_pop op a ≡ false)
    × (is_flow op ≡ false) × (runs_string op ≡ false)

neither : (x y : Bool) → (x || y) ≡ true → (not x && not y) ≡ false
neither true y e = refl
neither false true e = refl
neither false false e = absurd (false≢true e)

system_apart : (op : Op) (a b : Operand) → (is_system op || is_protected_only op || (is_mov op && (is_special a || is_special b))) ≡ true → IsApart op a b
system_apart ops.Mov a b e = (neither (is_special a) (is_special b) e, refl, refl, refl, refl)
system_apart ops.Int a b e = (refl, refl, refl, refl, refl)
system_apart ops.Int3 a b e = (refl, refl, refl, refl, refl)
system_apart ops.Into a b e = (refl, refl, refl, refl, refl)
system_apart ops.Pushf a b e = (refl, refl, refl, refl, refl)
system_apart ops.Popf a b e = (refl, refl, refl, refl, refl)
system_apart ops.Cli a b e = (refl, refl, refl, refl, refl)
system_apart ops.Sti a b e = (refl, refl, refl, refl, refl)
system_apart ops.Hlt a b e = (refl, refl, refl, refl, refl)
system_apart ops.InPort a b e = (refl, refl, refl, refl, refl)
system_apart ops.OutPort a b e = (refl, refl, refl, refl, refl)
system_apart ops.Lgdt a b e = (refl, refl, refl, refl, refl)
system_apart ops.Lidt a b e = (refl, refl, refl, refl, refl)
system_apart ops.Sgdt a b e = (refl, refl, refl, refl, refl)
system_apart ops.Sidt a b e = (refl, refl, refl, refl, refl)
system_apart ops.Smsw a b e = (refl, refl, refl, refl, refl)
system_apart ops.Lmsw a b e = (refl, refl, refl, refl, refl)
system_apart ops.Clts a b e = (refl, refl, refl, refl, refl)
system_apart ops.Wait a b e = (refl, refl, refl, refl, refl)
system_apart ops.Esc a b e = (refl, refl, refl, refl, refl)
system_apart ops.Arpl a b e = (refl, refl, refl, refl, refl)
system_apart ops.Lar a b e = (refl, refl, refl, refl, refl)
system_apart ops.Lsl a b e = (refl, refl, refl, refl, refl)
system_apart ops.Verr a b e = (refl, refl, refl, refl, refl)
system_apart ops.Verw a b e = (refl, refl, refl, refl, refl)
system_apart ops.Sldt a b e = (refl, refl, refl, refl, refl)
system_apart ops.Str a b e = (refl, refl, refl, refl, refl)
system_apart ops.Lldt a b e = (refl, refl, refl, refl, refl)
system_apart ops.Ltr a b e = (refl, refl, refl, refl, refl)
system_apart _ a b e = absurd (false≢true e)

pub effect_data : (insn : Insn) (r : Regs) (back free : ℕ) → runs_data insn ≡ true → effect insn r back free ≡ data_effect insn r free
unfolding effect
effect_data insn r back free e = rw e refl

pub effect_flow : (insn : Insn) (r : Regs) (back free : ℕ) → runs_flow insn ≡ true → effect insn r back free ≡ flow_effect insn r back
unfolding effect
effect_flow insn r back free e = rw (no_data insn (flow_no_data insn.op insn.a e), e) refl

pub effect_string : (insn : Insn) (r : Regs) (back free : ℕ) → runs_string insn.op ≡ true → effect insn r back free ≡ string_plan insn r free
unfolding effect
effect_string insn r back free e = let only = string_only insn.op insn.a e in rw (no_data insn only.0, only.1, e) refl

pub effect_system : (insn : Insn) (r : Regs) (back free : ℕ) → runs_system insn ≡ true → effect insn r back free ≡ system_effect insn r back
unfolding effect
effect_system insn r back free e = let only = system_apart insn.op insn.a insn.b e in rw (only.0, only.1, only.2, only.3, only.4, e) refl

-- an instruction of no family
pub effect_none : (insn : Insn) (r : Regs) (back free : ℕ) → runs_data insn ≡ false → runs_flow insn ≡ false → runs_string insn.op ≡ false → runs_system insn ≡ false
    → effect insn r back free ≡ no_such
unfolding effect
effect_none insn r back free a b c d = rw (a, b, c, d) refl

pub ruleset effects = (effect_data, effect_flow, effect_string, effect_system)

-- ---- an instruction whole

pub whole_far : (serve : Serve) (insn : Insn) (r : Regs) (back given free : ℕ) (m : Mem) → runs_far insn ≡ true → run_whole serve insn r back given free m ≡ far_run serve insn r back m
whole_far serve insn r back given free m e = rw e refl

pub whole_own : (serve : Serve) (insn : Insn) (r : Regs) (back given free : ℕ) (m : Mem) → runs_far insn ≡ false
    → run_whole serve insn r back given free m ≡ in_own_task r (attempt serve given (effect insn r back free) m)
whole_own serve insn r back given free m e = rw e refl

-- no other family has a far instruction
far_apart : (op : Op) (a b : Operand) → is_far op ≡ true → ((is_data op && not (is_special a) && not (is_special b)) ≡ false) × (is_address op ≡ false) × (is_segment_pop op a ≡ false)
    × (is_flow op ≡ false) × (runs_string op ≡ false) × (is_system op ≡ false) × (is_protected_only op ≡ false) × (is_mov op ≡ false)
far_apart ops.Callf a b e = (refl, refl, refl, refl, refl, refl, refl, refl)
far_apart ops.Jmpf a b e = (refl, refl, refl, refl, refl, refl, refl, refl)
far_apart ops.Retf a b e = (refl, refl, refl, refl, refl, refl, refl, refl)
far_apart ops.Iret a b e = (refl, refl, refl, refl, refl, refl, refl, refl)
far_apart _ a b e = absurd (false≢true e)

apart : (far family : Bool) → (far ≡ true → family ≡ false) → family ≡ true → far ≡ false
apart true family h e = absurd (false≢true (sym (h refl) ∙ e))
apart false family h e = refl

pub data_own : (insn : Insn) → runs_data insn ≡ true → runs_far insn ≡ false
data_own insn e = apart (runs_far insn) (runs_data insn) (λ f. let o = far_apart insn.op insn.a insn.b f in rw (o.0, o.1, o.2) refl) e

pub flow_own : (insn : Insn) → runs_flow insn ≡ true → runs_far insn ≡ false
flow_own insn e = apart (runs_far insn) (runs_flow insn) (λ f. let o = far_apart insn.op insn.a insn.b f in rw o.3 refl) e

pub string_own : (insn : Insn) → runs_string insn.op ≡ true → runs_far insn ≡ false
string_own insn e = apart (runs_far insn) (runs_string insn.op) (λ f. let o = far_apart insn.op insn.a insn.b f in o.4) e

pub system_own : (insn : Insn) → runs_system insn ≡ true → runs_far insn ≡ false
system_own insn e = apart (runs_far insn) (runs_system insn) (λ f. let o = far_apart insn.op insn.a insn.b f in rw (o.5, o.6, o.7) refl) e

pub ruleset families = (data_own, flow_own, string_own, system_own)
