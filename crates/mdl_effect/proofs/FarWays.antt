-- Each way through the plan of a far transfer.
use Rattle.std.proofs.Common.{◌≡◌, ℕ, true, subst}
use Rattle.mdl_state.specs.declared.Size.{Size}
use Rattle.mdl_state.specs.declared.Regs.{Regs}
use Rattle.mdl_state.specs.declared.Fault.{Fault}
use Rattle.mdl_state.specs.Attempt.{Plan}
use Rattle.mdl_state.specs.Ends.{Ends}
use Rattle.mdl_insn.specs.declared.instruction.Insn.{Insn}
use Rattle.mdl_insn.specs.declared.instruction.Operand.{Operand}
use Rattle.mdl_insn.specs.declared.instruction.Operand.TheVariants.{At, Far}
use Rattle.mdl_insn.specs.declared.mnemonics.Op.{Op}
use Rattle.mdl_insn.specs.declared.mnemonics.Op.TheVariants as ops
use Rattle.mdl_cpu.specs.Steady.{StaysSound}
use Rattle.mdl_cpu.specs.Transfers.{Transfer, made}
use Rattle.mdl_cpu.specs.DoubleFault.{class_of_fault}
use Rattle.mdl_cpu.specs.Deliveries.{IsSerious, Serious}
use Rattle.mdl_cpu.proofs.TransferLaws.{IsSoundTransfer, jump_sound, call_sound, return_sound, iret_sound}
use Rattle.mdl_effect.specs.FarEffects.{is_far, runs_far, named, unnamed, far_target, far_jump_plan, far_call_plan, far_return_plan, iret_plan, far_by, far_transfer}
use Rattle.mdl_effect.specs.Kinds.{is_far_target}
use Rattle.mdl_effect.specs.Forms.{IsFormedAs, IsFormed}
use Rattle.mdl_effect.specs.Ways.{IsDefined, LeavesFar, IsFarComplete}
use Rattle.mdl_effect.proofs.Operations.{Ways, passes, weaker, then_way, load_then}

-- ---- the transfer

-- the fault of an instruction that is not defined is benign
serious_defined : (fault : Fault) → Serious fault → IsDefined fault
serious_defined fault h e = subst (λ n. IsSerious (class_of_fault n)) e h

seriously : {A : Type 0} {P : A → Type 0} {plan : Plan A} → Ends P Serious plan → Ways P plan
seriously {A} {P} {plan} h = record { ends = weaker P P Serious IsDefined plan (λ _ p. p) serious_defined h }

names : (r : Regs) (selector : ℕ) (t : Transfer) → IsSoundTransfer r t → Ways (LeavesFar r) (named selector t)
names r selector t h = passes (record { stays = h.stays; same = h.same })

names_none : (r : Regs) (t : Transfer) → IsSoundTransfer r t → Ways (LeavesFar r) (unnamed t)
names_none r t h = passes (record { stays = h.stays; same = h.same })

makes : (r q : Regs) → StaysSound r q → Ways (IsSoundTransfer r) (made q)
makes r q h = passes (record { stays = h; same = tt })

-- ---- the instructions

far_targets : {A : Type 0} {P : A → Type 0} (r : Regs) (a : Operand) (size : Size) (k : ℕ → ℕ → Plan A) → is_far_target a ≡ true
    → ((selector offset : ℕ) → Ways P (k selector offset)) → Ways P (far_target a size r k)
far_targets r (Far selector offset) size k e h = h selector offset
far_targets r (At mem own) size k e h = load_then _ _ _ _ _ (λ offset. load_then _ _ _ _ _ (λ selector. h selector offset))
far_targets r _ size k e h = absurd cc

far_jump_way : (insn : Insn) (r : Regs) → is_far_target insn.a ≡ true → Ways (LeavesFar r) (far_jump_plan insn r)
unfolding far_jump_plan
far_jump_way insn r a = far_targets r insn.a insn.size _ a (λ selector offset. then_way (seriously (jump_sound r selector offset insn.size)) (names r selector))

far_call_way : (insn : Insn) (r : Regs) (back : ℕ) → is_far_target insn.a ≡ true → Ways (LeavesFar r) (far_call_plan insn r back)
unfolding far_call_plan
far_call_way insn r back a = far_targets r insn.a insn.size _ a (λ selector offset. then_way (seriously (call_sound r selector offset insn.size back)) (names r selector))

far_return_way : (insn : Insn) (r : Regs) → Ways (LeavesFar r) (far_return_plan insn r)
unfolding far_return_plan
far_return_way insn r = then_way (seriously (return_sound r insn.size _)) (λ q h. then_way (makes r q h) (names_none r))

iret_way : (insn : Insn) (r : Regs) → Ways (LeavesFar r) (iret_plan insn r)
unfolding iret_plan
iret_way insn r = then_way (seriously (iret_sound r insn.size)) (names_none r)

far_way : (op : Op) (insn : Insn) (r : Regs) (back : ℕ) → IsFormedAs op insn → is_far op ≡ true → Ways (LeavesFar r) (far_by op insn r back)
far_way ops.Callf insn r back f e = far_call_way insn r back f.1.0.0
far_way ops.Jmpf insn r back f e = far_jump_way insn r f.1.0.0
far_way ops.Retf insn r back f e = far_return_way insn r
far_way ops.Iret insn r back f e = iret_way insn r
far_way _ insn r back f e = absurd cc

pub far_complete : (insn : Insn) (r : Regs) (back : ℕ) → IsFormed insn → runs_far insn ≡ true → IsFarComplete r (far_transfer insn r back)
unfolding far_transfer
far_complete insn r back f e = (far_way insn.op insn r back f e).ends
