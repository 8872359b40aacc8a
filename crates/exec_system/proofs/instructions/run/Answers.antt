use Rattle.std.proofs.Common.{◌∙◌, sym, ap, subst, refl}
use Rattle.mdl_state.specs.Serving.{by_pick, Outcome}
use Rattle.mdl_insn.specs.declared.mnemonics.Op.{Op}
use Rattle.mdl_cpu.proofs.AddressLaws.{spelt_addresses}
use Rattle.mdl_effect.specs.Operands.{After, NoPort}
use Rattle.mdl_effect.specs.PortEffects.{in_plan, out_plan}
use Rattle.mdl_effect.specs.ProtectionEffects.{protected_plan}
use Rattle.mdl_effect.specs.Forms.{IsFormedAs}
use Rattle.mdl_effect.proofs.Attempts.{system_leaves}
use Rattle.mdl_effect.proofs.FormLaws.{spelt_formed}
use Rattle.mdl_effect.proofs.SystemWays.{protected_effect}
use Rattle.operands.specs.Whole.{ran_at}
use Rattle.exec_system.proofs.Outcomes.{no_port, in_effect, out_effect, by_effect, sound_ran, follows_ran, regs_kept}
use Rattle.exec_system.proofs.instructions.run.Goals as goal

-- ---- those of protected mode

pub run_protected-requires-clause-formed : goal.run_protected-requires-clause-formed
run_protected-requires-clause-formed g c =
    let spelt = c.requires.spelt in
    spelt_formed spelt.0 spelt.1 c.args.insn.now spelt.2

pub run_protected-requires-clause-first : goal.run_protected-requires-clause-first
run_protected-requires-clause-first g c =
    let spelt = c.requires.spelt in
    (spelt_addresses spelt.0 spelt.1 c.args.insn.now spelt.2).0

pub run_protected-requires-clause-second : goal.run_protected-requires-clause-second
run_protected-requires-clause-second g c =
    let spelt = c.requires.spelt in
    (spelt_addresses spelt.0 spelt.1 c.args.insn.now spelt.2).1

pub returns-then-is_protected_only-clause-run : goal.returns-then-is_protected_only-clause-run
returns-then-is_protected_only-clause-run g c =
    let insn = c.args.insn.now in
    let old = c.args.regs.now in
    let now = c.run_protected in
    let m = g.L.Linear.seen c.args.lin.now in
    let n = g.L.Linear.seen now.new.lin in
    let only = sym c.is_protected_only.ensures ∙ c.if-is_protected_only.true in (
      0,
      NoPort,
      refl,
      by_effect insn old c.args.back (protected_plan insn.op insn old) (by_pick g.L.Linear.pick) 0 m n (ran_at now.result NoPort now.new.regs) (protected_effect insn old c.args.back only)
          (ap (λ (w : Outcome After). (w, n)) (no_port now.result now.new.regs) ∙ now.ensures.run),
    )

pub returns-then-is_protected_only-clause-sound : goal.returns-then-is_protected_only-clause-sound
returns-then-is_protected_only-clause-sound g c =
    let spelt = c.requires.spelt in
    let insn = c.args.insn.now in
    let old = c.args.regs.now in
    let now = c.run_protected in
    let ran = returns-then-is_protected_only-clause-run g c in
    sound_ran now.result ran.1 old now.new.regs
    (system_leaves spelt.0 spelt.1 insn old c.args.back (by_pick g.L.Linear.pick) ran.0 (g.L.Linear.seen c.args.lin.now) (g.L.Linear.seen now.new.lin) (ran_at now.result ran.1 now.new.regs) spelt.2 c.requires.runs ran.3)
    now.ensures.unchanged

pub returns-then-is_protected_only-clause-follows : goal.returns-then-is_protected_only-clause-follows
returns-then-is_protected_only-clause-follows g c =
    let spelt = c.requires.spelt in
    let insn = c.args.insn.now in
    let old = c.args.regs.now in
    let now = c.run_protected in
    let ran = returns-then-is_protected_only-clause-run g c in
    follows_ran now.result ran.1 old now.new.regs
    (system_leaves spelt.0 spelt.1 insn old c.args.back (by_pick g.L.Linear.pick) ran.0 (g.L.Linear.seen c.args.lin.now) (g.L.Linear.seen now.new.lin) (ran_at now.result ran.1 now.new.regs) spelt.2 c.requires.runs ran.3)

-- ---- IN and OUT

pub input-requires : goal.input-requires
input-requires g c =
    let spelt = c.requires.spelt in
    (subst (λ (op : Op). IsFormedAs op c.args.insn.now) c.in-InPort.is (spelt_formed spelt.0 spelt.1 c.args.insn.now spelt.2)).1

pub returns-in-InPort-clause-run : goal.returns-in-InPort-clause-run
returns-in-InPort-clause-run g c =
    let insn = c.args.insn.now in
    let old = c.args.regs.now in
    let now = c.input in
    let ran = now.ensures.run in (
      ran.0,
      ran.1,
      ran.2,
      by_effect insn old c.args.back (in_plan insn old) (by_pick g.L.Linear.pick) ran.0 (g.L.Linear.seen c.args.lin.now) (g.L.Linear.seen now.new.lin) (ran_at now.result ran.1 now.new.regs)
          (in_effect insn old c.args.back c.in-InPort.is) ran.3,
    )

pub returns-in-InPort-clause-sound : goal.returns-in-InPort-clause-sound
returns-in-InPort-clause-sound g c =
    let spelt = c.requires.spelt in
    let insn = c.args.insn.now in
    let old = c.args.regs.now in
    let now = c.input in
    let ran = returns-in-InPort-clause-run g c in
    sound_ran now.result ran.1 old now.new.regs
    (system_leaves spelt.0 spelt.1 insn old c.args.back (by_pick g.L.Linear.pick) ran.0 (g.L.Linear.seen c.args.lin.now) (g.L.Linear.seen now.new.lin) (ran_at now.result ran.1 now.new.regs) spelt.2 c.requires.runs ran.3)
    (regs_kept now.result _ _ now.ensures.unchanged)

pub returns-in-InPort-clause-follows : goal.returns-in-InPort-clause-follows
returns-in-InPort-clause-follows g c =
    let spelt = c.requires.spelt in
    let insn = c.args.insn.now in
    let old = c.args.regs.now in
    let now = c.input in
    let ran = returns-in-InPort-clause-run g c in
    follows_ran now.result ran.1 old now.new.regs
    (system_leaves spelt.0 spelt.1 insn old c.args.back (by_pick g.L.Linear.pick) ran.0 (g.L.Linear.seen c.args.lin.now) (g.L.Linear.seen now.new.lin) (ran_at now.result ran.1 now.new.regs) spelt.2 c.requires.runs ran.3)

pub output-requires : goal.output-requires
output-requires g c =
    let spelt = c.requires.spelt in
    (subst (λ (op : Op). IsFormedAs op c.args.insn.now) c.in-OutPort.is (spelt_formed spelt.0 spelt.1 c.args.insn.now spelt.2)).0

pub returns-in-OutPort-clause-run : goal.returns-in-OutPort-clause-run
returns-in-OutPort-clause-run g c =
    let insn = c.args.insn.now in
    let old = c.args.regs.now in
    let now = c.output in
    let ran = now.ensures.run in (
      ran.0,
      ran.1,
      ran.2,
      by_effect insn old c.args.back (out_plan insn old) (by_pick g.L.Linear.pick) ran.0 (g.L.Linear.seen c.args.lin.now) (g.L.Linear.seen now.new.lin) (ran_at now.result ran.1 old)
          (out_effect insn old c.args.back c.in-OutPort.is) ran.3,
    )

pub returns-in-OutPort-clause-follows : goal.returns-in-OutPort-clause-follows
returns-in-OutPort-clause-follows g c =
    let spelt = c.requires.spelt in
    let insn = c.args.insn.now in
    let old = c.args.regs.now in
    let now = c.output in
    let ran = returns-in-OutPort-clause-run g c in
    follows_ran now.result ran.1 old old
    (system_leaves spelt.0 spelt.1 insn old c.args.back (by_pick g.L.Linear.pick) ran.0 (g.L.Linear.seen c.args.lin.now) (g.L.Linear.seen now.new.lin) (ran_at now.result ran.1 old) spelt.2 c.requires.runs ran.3)

-- ---- the others

pub run_inside-requires-clause-formed : goal.run_inside-requires-clause-formed
run_inside-requires-clause-formed g c =
    let spelt = c.requires.spelt in
    spelt_formed spelt.0 spelt.1 c.args.insn.now spelt.2

pub run_inside-requires-clause-address : goal.run_inside-requires-clause-address
run_inside-requires-clause-address g c =
    let spelt = c.requires.spelt in
    (spelt_addresses spelt.0 spelt.1 c.args.insn.now spelt.2).0

pub returns-in_default-clause-run : goal.returns-in_default-clause-run
returns-in_default-clause-run g c =
    let now = c.run_inside in
    (0, NoPort, refl, ap (λ (w : Outcome After). (w, g.L.Linear.seen now.new.lin)) (no_port now.result now.new.regs) ∙ now.ensures.run c.args.back)

pub returns-in_default-clause-sound : goal.returns-in_default-clause-sound
returns-in_default-clause-sound g c =
    let spelt = c.requires.spelt in
    let insn = c.args.insn.now in
    let old = c.args.regs.now in
    let now = c.run_inside in
    let ran = returns-in_default-clause-run g c in
    sound_ran now.result ran.1 old now.new.regs
    (system_leaves spelt.0 spelt.1 insn old c.args.back (by_pick g.L.Linear.pick) ran.0 (g.L.Linear.seen c.args.lin.now) (g.L.Linear.seen now.new.lin) (ran_at now.result ran.1 now.new.regs) spelt.2 c.requires.runs ran.3)
    now.ensures.unchanged

pub returns-in_default-clause-follows : goal.returns-in_default-clause-follows
returns-in_default-clause-follows g c =
    let spelt = c.requires.spelt in
    let insn = c.args.insn.now in
    let old = c.args.regs.now in
    let now = c.run_inside in
    let ran = returns-in_default-clause-run g c in
    follows_ran now.result ran.1 old now.new.regs
    (system_leaves spelt.0 spelt.1 insn old c.args.back (by_pick g.L.Linear.pick) ran.0 (g.L.Linear.seen c.args.lin.now) (g.L.Linear.seen now.new.lin) (ran_at now.result ran.1 now.new.regs) spelt.2 c.requires.runs ran.3)
