-- What an exec crate answers, as what an instruction comes to.
use Rattle.std.proofs.Common.{◌≡◌, ℕ, ◌==◌, ◌&&◌, ◌||◌, Bool, true, false, [], refl, sym, ap, subst, ◌∙◌}
use Rattle.std.specs.Prelude.{⊤, not, Result, Ok, Err, IfOk, OnErr}
use Rattle.std.specs.Bool.{OnTrue}
use Rattle.std.proofs.lemmas.Bool.{false≢true}
use Rattle.mdl_state.specs.declared.Regs.{Regs}
use Rattle.mdl_state.specs.declared.Fault.{Fault}
use Rattle.mdl_state.specs.declared.Next.{Next}
use Rattle.mdl_state.specs.State.{Mem}
use Rattle.mdl_state.specs.Machine.{Rules}
use Rattle.mdl_state.specs.Accesses.{Keeps, KeepsPhysical, committed, discarded}
use Rattle.mdl_state.specs.Ends.{IfPassed, Ends, tried_ends, then_ends, either_ends}
use Rattle.mdl_state.specs.Serving.{Pick, Outcome, Failed, by_pick}
use Rattle.mdl_state.specs.Attempt.{Plan, Done, Fail, Load, Store, Translate, Get, Hold, Input, then_plan, tried, finished, attempt}
use Rattle.mdl_num.specs.Flags.{flags_after, untouched_status}
use Rattle.mdl_cpu.specs.Steady.{Agree, Steady, IsSound, steady_sound, steady_agrees}
use Rattle.mdl_cpu.specs.Switch.{left}
use Rattle.mdl_insn.specs.declared.instruction.Insn.{Insn}
use Rattle.mdl_insn.specs.declared.instruction.Operand.{Operand}
use Rattle.mdl_insn.specs.declared.instruction.Operand.TheVariants.{Creg}
use Rattle.mdl_insn.specs.declared.instruction.Rep.{Rep}
use Rattle.mdl_insn.specs.declared.instruction.Rep.TheVariants as rep
use Rattle.mdl_insn.specs.declared.mnemonics.Op.{Op}
use Rattle.mdl_insn.specs.declared.mnemonics.Op.TheVariants as ops
use Rattle.mdl_effect.specs.Operands.{After, PortUse, NoPort, follow, no_such, count_of}
use Rattle.mdl_effect.specs.Ports.{Accesses}
use Rattle.mdl_effect.specs.Ways.{PagesAs}
use Rattle.mdl_effect.specs.DataEffects.{is_data, is_address, is_special, is_segment_pop, runs_data}
use Rattle.mdl_effect.specs.FlowEffects.{is_flow, is_pop, runs_flow}
use Rattle.mdl_effect.specs.Operands.{is_segment}
use Rattle.mdl_effect.specs.StringEffects.{runs_string, iterate_by, iterate_plan, repeating, string_plan, counted_after, move_string_plan, compare_strings_plan, store_string_plan, load_string_plan, scan_string_plan}
use Rattle.mdl_effect.specs.FarEffects.{is_far, runs_far, far_run}
use Rattle.mdl_effect.specs.SystemEffects.{runs_system, system_effect}
use Rattle.mdl_cpu.specs.Faults.{undefined_opcode}
use Rattle.mdl_step.specs.Effects.{effect, in_own_task}
use Rattle.mdl_step.proofs.EffectLaws.{effect_none, string_own, whole_far, whole_own}
use Rattle.mdl_step.specs.Step.{remapped}
use Rattle.lazy_flags.specs.Keeper.{with_status, kept}
use Rattle.mdl_state.specs.declared.Size.TheVariants.{B4}
use Rattle.lazy_flags.specs.declared.operation.FlagOp.TheVariants.{Plain}
use Rattle.operands.specs.Whole.{whole, ran, ran_at}
use Rattle.operands.proofs.Statuses.{own_flags, unpacked}
use Rattle.cpu_core.specs.Families.{is_port_string}
use Rattle.cpu_core.specs.Plain.{IsSettled}
use Rattle.cpu_core.specs.Ran.{marked, outcome_of, ended, settled, IsAlone, Runs}
use Rattle.cpu_core.proofs.Settled.{placed_none, dropped_none, remapped_agrees, agrees_on, agrees_placed, agrees_dropped}
use Rattle.cpu_core.specs.declared.dispatch.Ran.{Ran}

-- ---- answers

-- what ends an attempt, by its answer
finished_at : (answer : Result Next Fault) (alone : Bool) (access : PortUse) (r : Regs) (n : Mem) → finished (ran_at answer access r, n) ≡ (outcome_of (marked answer alone) access r, ended (marked answer alone) n)
finished_at (Ok next) alone access r n = refl
finished_at (Err fault) alone access r n = refl

pub unmarked : (P : Type 0) (answer : Result Next Fault) → IfOk (marked answer false) (λ (ran : Ran). OnTrue ran.alone P)
unmarked P (Ok next) = tt
unmarked P (Err fault) = tt

-- ---- memory stays mapped

stays_mapped : (op : Op) (a b : Operand) (r : Regs) (m : Mem) → ((is_data op && not (is_special a) && not (is_special b)) || is_address op || is_segment_pop op a) ≡ true → remapped op a r m ≡ m
stays_mapped ops.Mov (Creg number) b r m e = absurd (false≢true e)
stays_mapped _ _ b r m e = refl

pub data_mapped : (insn : Insn) (r : Regs) (m : Mem) → runs_data insn ≡ true → remapped insn.op insn.a r m ≡ m
data_mapped insn r m e = stays_mapped insn.op insn.a insn.b r m e

flow_stays : (op : Op) (a : Operand) (r : Regs) (m : Mem) → (is_flow op && not (is_pop op && is_segment a)) ≡ true → remapped op a r m ≡ m
flow_stays ops.Mov a r m e = absurd (false≢true e)
flow_stays _ a r m e = refl

pub flow_mapped : (insn : Insn) (r : Regs) (m : Mem) → runs_flow insn ≡ true → remapped insn.op insn.a r m ≡ m
flow_mapped insn r m e = flow_stays insn.op insn.a r m e

string_stays : (op : Op) (a : Operand) (r : Regs) (m : Mem) → runs_string op ≡ true → remapped op a r m ≡ m
string_stays ops.Mov a r m e = absurd (false≢true e)
string_stays _ a r m e = refl

far_stays : (op : Op) (a : Operand) (r : Regs) (m : Mem) → is_far op ≡ true → remapped op a r m ≡ m
far_stays ops.Mov a r m e = absurd (false≢true e)
far_stays _ a r m e = refl

-- ---- string instructions without a port

-- no port is used
abbrev UsesNone : After → Type 0
UsesNone after = after.access ≡ NoPort

abbrev IsAny : {A : Type 0} → A → Type 0
IsAny x = ⊤

any_ends : {A : Type 0} (plan : Plan A) → Ends IsAny IsAny plan
any_ends (Done x) = tt
any_ends (Fail fault) = tt
any_ends (Load lin size who k) = λ value. any_ends (k value)
any_ends (Store lin size value who k) = any_ends k
any_ends (Translate lin size access k) = λ place. any_ends (k place)
any_ends (Get place size k) = λ value. any_ends (k value)
any_ends (Hold place size value k) = any_ends k
any_ends (Input port size k) = λ value. any_ends (k value)

goes_on : (plan : Plan Regs) → Ends UsesNone IsAny (then_plan plan follow)
goes_on plan = then_ends IsAny UsesNone IsAny plan follow (any_ends plan) (λ r _. refl)

iterates : (op : Op) (insn : Insn) (r : Regs) (free : ℕ) → is_port_string op ≡ false → Ends UsesNone IsAny (iterate_by op insn r free)
iterates ops.Movs insn r free e = goes_on (move_string_plan insn r)
iterates ops.Cmps insn r free e = goes_on (compare_strings_plan insn r free)
iterates ops.Stos insn r free e = goes_on (store_string_plan insn r)
iterates ops.Lods insn r free e = goes_on (load_string_plan insn r)
iterates ops.Scas insn r free e = goes_on (scan_string_plan insn r free)
iterates ops.Ins insn r free e = absurd cc
iterates ops.Outs insn r free e = absurd cc
iterates _ insn r free e = tt

one : (insn : Insn) (r : Regs) (free : ℕ) → is_port_string insn.op ≡ false → Ends UsesNone IsAny (iterate_plan insn r free)
unfolding iterate_plan
one insn r free e = iterates insn.op insn r free e

more : (insn : Insn) (r : Regs) (free : ℕ) → is_port_string insn.op ≡ false → Ends UsesNone IsAny (then_plan (iterate_plan insn r free) (λ after. Done (counted_after insn after)))
more insn r free e = then_ends UsesNone UsesNone IsAny (iterate_plan insn r free) _ (one insn r free e) (λ after h. h)

by_rep : (p : Rep) (insn : Insn) (r : Regs) (free : ℕ) → is_port_string insn.op ≡ false → Ends UsesNone IsAny (repeating p insn r free)
by_rep rep.Plain insn r free e = one insn r free e
by_rep rep.Equal insn r free e = either_ends UsesNone IsAny (count_of r insn.wide == 0) (follow r) (then_plan (iterate_plan insn r free) (λ after. Done (counted_after insn after))) refl (more insn r free e)
by_rep rep.NotEqual insn r free e = either_ends UsesNone IsAny (count_of r insn.wide == 0) (follow r) (then_plan (iterate_plan insn r free) (λ after. Done (counted_after insn after))) refl (more insn r free e)

uses_none : (insn : Insn) (r : Regs) (free : ℕ) → is_port_string insn.op ≡ false → Ends UsesNone IsAny (string_plan insn r free)
unfolding string_plan
uses_none insn r free e = by_rep insn.rep insn r free e

-- ---- families

module _ {B : Type 0} (rules : Rules B) (pick : Pick) (insn : Insn) (old : Regs) (back : ℕ) (m : Mem) (before : B) (new : Regs) (n : Mem) where
  -- an instruction that stays in its task, by the plan that its family has
  inside_runs : (after : B) (given : ℕ) (access : PortUse) (plan : Plan After) (answer : Result Next Fault) (alone : Bool) → Accesses rules access given before after → runs_far insn ≡ false
      → effect insn old back new.eflags ≡ plan → (ran_at answer access new, n) ≡ tried (by_pick pick) given plan m
      → OnErr answer ((new ≡ old) × (after ≡ before)) → IsSound new → Agree new (settled (marked answer alone) insn new n)
      → IfOk (marked answer alone) (λ (ran : Ran). OnTrue ran.alone (IsAlone insn before after)) → KeepsPhysical m.physical n.physical
      → Runs rules pick insn old back m before (marked answer alone) new n after
  inside_runs after given access plan answer alone moves near is tries kept sound tables stands keeps = record {
    given = given;
    access = access;
    rest = old;
    moves = moves;
    ran = whole_own (by_pick pick) insn old back given new.eflags m near ∙ ap (in_own_task old) (ap (λ (p : Plan After). attempt (by_pick pick) given p m) is ∙ ap (λ (w : Outcome After × Mem). finished w) (sym tries) ∙ finished_at answer alone access new n);
    task = own_task answer kept;
    sound = sound;
    tables = tables;
    alone = stands;
    keeps = keeps;
  }
    where
      own_task : (a : Result Next Fault) → OnErr a ((new ≡ old) × (after ≡ before)) → OnErr (marked a alone) ((old ≡ new) × (after ≡ before))
      own_task (Ok next) h = tt
      own_task (Err fault) h = (sym h.0, h.1)

  -- memory that stays mapped pages as the registers say
  still_agrees : (answer : Result Next Fault) (alone : Bool) → ((r : Regs) (k : Mem) → remapped insn.op insn.a r k ≡ k) → Agree new n → Agree new (settled (marked answer alone) insn new n)
  still_agrees (Ok next) alone mapped agrees = subst (λ (k : Mem). Agree new k) (sym (mapped new (committed n))) (agrees_placed new n agrees)
  still_agrees (Err fault) alone mapped agrees = agrees_dropped new n agrees

  -- one that leaves the mode, and uses no port
  pub alone_runs : (plan : Plan After) (answer : Result Next Fault) → IsSettled old m → runs_far insn ≡ false → effect insn old back new.eflags ≡ plan → (ran answer new, n) ≡ tried (by_pick pick) 0 plan m
      → OnErr answer (new ≡ old) → Steady old new → ((r : Regs) (k : Mem) → remapped insn.op insn.a r k ≡ k) → Keeps m n
      → Runs rules pick insn old back m before (marked answer true) new n before
  alone_runs plan answer ready near is tries kept steady mapped keeps = inside_runs before 0 NoPort plan answer true refl near is (ap (λ (o : Outcome After). (o, n)) (no_port answer) ∙ tries)
      (both_kept answer kept) (steady_sound old new steady ready.sound) (still_agrees answer true mapped (steady_agrees old new n steady (agrees_on old m n keeps ready.tables)))
      (is_alone answer mapped) keeps.physical
    where
      no_port : (a : Result Next Fault) → ran_at a NoPort new ≡ ran a new
      no_port (Ok next) = refl
      no_port (Err fault) = refl

      both_kept : (a : Result Next Fault) → OnErr a (new ≡ old) → OnErr a ((new ≡ old) × (before ≡ before))
      both_kept (Ok next) h = tt
      both_kept (Err fault) h = (h, refl)

      is_alone : (a : Result Next Fault) → ((r : Regs) (k : Mem) → remapped insn.op insn.a r k ≡ k) → IfOk (marked a true) (λ (ran : Ran). OnTrue ran.alone (IsAlone insn before before))
      is_alone (Ok next) h = record { board = refl; unmapped = h }
      is_alone (Err fault) h = tt

  -- a string instruction
  pub string_runs : (after : B) (given : ℕ) (access : PortUse) (answer : Result Next Fault) (alone : Bool) → IsSettled old m → runs_string insn.op ≡ true → Accesses rules access given before after
      → effect insn old back new.eflags ≡ string_plan insn old new.eflags → (ran_at answer access new, n) ≡ tried (by_pick pick) given (string_plan insn old new.eflags) m
      → OnErr answer ((new ≡ old) × (after ≡ before)) → Steady old new → IfOk (marked answer alone) (λ (ran : Ran). OnTrue ran.alone (IsAlone insn before after)) → Keeps m n
      → Runs rules pick insn old back m before (marked answer alone) new n after
  string_runs after given access answer alone ready runs moves is tries kept steady stands keeps = inside_runs after given access (string_plan insn old new.eflags) answer alone moves (string_own insn runs) is tries kept
      (steady_sound old new steady ready.sound) (still_agrees answer alone (λ r k. string_stays insn.op insn.a r k runs) (steady_agrees old new n steady (agrees_on old m n keeps ready.tables))) stands keeps.physical

  -- one of the system, which may load paging and the tables
  pub system_runs : (after : B) (given : ℕ) (access : PortUse) (answer : Result Next Fault) → IsSettled old m → runs_far insn ≡ false → Accesses rules access given before after
      → effect insn old back new.eflags ≡ system_effect insn old back → (ran_at answer access new, n) ≡ tried (by_pick pick) given (system_effect insn old back) m
      → OnErr answer ((new ≡ old) × (after ≡ before)) → IsSound new → IfPassed (λ (after : After). PagesAs insn.op insn.a old after.regs) (ran_at answer access new) → Keeps m n
      → Runs rules pick insn old back m before (marked answer false) new n after
  system_runs after given access answer ready near moves is tries kept sound pages keeps = inside_runs after given access (system_effect insn old back) answer false moves near is tries kept sound
      (pages_agree answer kept pages) (unmarked (IsAlone insn before after) answer) keeps.physical
    where
      there : Agree old n
      there = agrees_on old m n keeps ready.tables

      pages_agree : (a : Result Next Fault) → OnErr a ((new ≡ old) × (after ≡ before)) → IfPassed (λ (after : After). PagesAs insn.op insn.a old after.regs) (ran_at a access new) → Agree new (settled (marked a false) insn new n)
      pages_agree (Ok next) k p = remapped_agrees insn.op insn.a old new (committed n) p (agrees_placed old n there)
      pages_agree (Err fault) k p = subst (λ (r : Regs). Agree r (discarded n)) (sym k.0) (agrees_dropped old n there)

  -- a far one, which has placed or dropped all of it
  pub far_runs : (answer : Result Next Fault) → runs_far insn ≡ true → left (ran answer new) new n ≡ far_run (by_pick pick) insn old back m → IsSound new → Agree new n → KeepsPhysical m.physical n.physical → n.held ≡ []
      → Runs rules pick insn old back m before (marked answer true) new n before
  far_runs answer far runs sound agrees keeps none = record {
    given = 0;
    access = NoPort;
    rest = new;
    moves = refl;
    ran = whole_far (by_pick pick) insn old back 0 new.eflags m far ∙ sym runs ∙ ends answer;
    task = kept answer;
    sound = sound;
    tables = still_agrees answer true (λ r k. far_stays insn.op insn.a r k far) agrees;
    alone = is_alone answer;
    keeps = keeps;
  }
    where
      ends : (a : Result Next Fault) → left (ran a new) new n ≡ left (outcome_of (marked a true) NoPort new) new (ended (marked a true) n)
      ends (Ok next) = ap (λ (k : Mem). left (ran (Ok next) new) new k) (sym (placed_none n none))
      ends (Err fault) = ap (λ (k : Mem). left (ran (Err fault) new) new k) (sym (dropped_none n none))

      kept : (a : Result Next Fault) → OnErr (marked a true) ((new ≡ new) × (before ≡ before))
      kept (Ok next) = tt
      kept (Err fault) = (refl, refl)

      is_alone : (a : Result Next Fault) → IfOk (marked a true) (λ (ran : Ran). OnTrue ran.alone (IsAlone insn before before))
      is_alone (Ok next) = record { board = refl; unmapped = λ r k. far_stays insn.op insn.a r k far }
      is_alone (Err fault) = tt

  -- a string instruction stands alone where its mnemonic uses no port
  pub string_alone : (after : B) (given : ℕ) (access : PortUse) (answer : Result Next Fault) (uses : Bool) → is_port_string insn.op ≡ uses → runs_string insn.op ≡ true
      → Accesses rules access given before after → (ran_at answer access new, n) ≡ tried (by_pick pick) given (string_plan insn old new.eflags) m
      → IfOk (marked answer (not uses)) (λ (ran : Ran). OnTrue ran.alone (IsAlone insn before after))
  string_alone after given access (Err fault) uses is runs moves tries = tt
  string_alone after given access (Ok next) true is runs moves tries = tt
  string_alone after given access (Ok next) false is runs moves tries = record {
    board = subst (λ (port : PortUse). Accesses rules port given before after) none moves;
    unmapped = λ r k. string_stays insn.op insn.a r k runs;
  }
    where
      none : access ≡ NoPort
      none = subst (λ (w : Outcome After × Mem). IfPassed UsesNone w.0) (sym tries) (tried_ends UsesNone IsAny (by_pick pick) given (string_plan insn old new.eflags) m (uses_none insn old new.eflags is))

-- an instruction of no family
pub none_runs : {B : Type 0} (rules : Rules B) (pick : Pick) (insn : Insn) (r : Regs) (back : ℕ) (m : Mem) (before : B) (fault : Fault) → IsSettled r m → fault ≡ undefined_opcode
    → runs_data insn ≡ false → runs_flow insn ≡ false → runs_string insn.op ≡ false → runs_far insn ≡ false → runs_system insn ≡ false
    → Runs rules pick insn r back m before (Err fault) r m before
none_runs rules pick insn r back m before fault ready is a b c d e = inside_runs rules pick insn r back m before r m before 0 NoPort no_such (Err fault) true refl d (effect_none insn r back r.eflags a b c e)
    (ap (λ (f : Fault). (Failed f, m)) is) (refl, refl) ready.sound (agrees_dropped r m ready.tables) tt (record { a20 = refl; rom = refl; ram = refl })

-- ---- the status flags that stand apart

untouched : (e : ℕ) → e ≡ flags_after untouched_status (with_status e e) e
unfolding flags_after untouched_status
untouched e = sym (own_flags e)

-- flags that are taken apart and put together again
pub whole_unpacked : (r : Regs) → whole r (kept Plain r.eflags 0 B4) ≡ r
whole_unpacked r = ap (λ (e : ℕ). record r { eflags = e }) (unpacked untouched_status r.eflags r.eflags r.eflags (untouched r.eflags))

pub kept_whole : (answer : Result Next Fault) (r s : Regs) (f g : ℕ) → OnErr answer ((s ≡ r) × (g ≡ f)) → OnErr answer (whole s g ≡ whole r f)
kept_whole (Ok next) r s f g h = tt
kept_whole (Err fault) r s f g h = rw (h.0, h.1) refl

pub kept_ports : {B : Type 0} (answer : Result Next Fault) (r s : Regs) (f g : ℕ) (before after : B) → OnErr answer ((s ≡ r) × (g ≡ f) × (after ≡ before)) → OnErr answer ((whole s g ≡ whole r f) × (after ≡ before))
kept_ports (Ok next) r s f g before after h = tt
kept_ports (Err fault) r s f g before after h = (rw (h.0, h.1) refl, h.2)
