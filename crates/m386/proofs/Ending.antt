-- Lemmas on how a command ends.
use Rattle.std.proofs.Common.{◌≡◌, ◌≢◌, ◌⊎◌, inl, inr, ℕ, ◌≤◌, ◌+◌, ◌^◌, List, [], length, min, Option, None, Some, Result, Ok, Err, IfErr, OnOk, refl, ap, sym, subst, ◌∙◌, arith}
use Rattle.host_io.specs.declared.host.InSlot.{InSlot}
use Rattle.host_io.specs.declared.host.InSlot.TheVariants.{Rom, Disk, Script, Commands}
use Rattle.host_io.specs.declared.host.OutSlot.{OutSlot}
use Rattle.host_io.specs.declared.host.OutSlot.TheVariants.{Report, Mem, Save}
use Rattle.host_io.specs.declared.host.Slot.{Slot}
use Rattle.host_io.specs.declared.host.Slot.TheVariants.{In, Out}
use Rattle.host_io.specs.Causes.{Rose}
use Rattle.host_io.specs.Openings.{Openings}
use Rattle.host_io.specs.Slots.{Same, SameBut}
use Rattle.command_words.specs.Jobs.{Machine, RunJob, Job, Run, Dis, Demo, Monitor, IsRun, IsDemo, IsMonitor}
use Rattle.mdl_board.specs.Board.{BoardState}
use Rattle.mdl_state.specs.Machine as written
use Rattle.mdl_step.specs.Run.{walk_count}
use Rattle.m386.specs.declared.refusals.Refusal.{Refusal}
use Rattle.m386.specs.declared.refusals.Refusal.TheVariants as refusals
use Rattle.m386.specs.declared.status.Status.{Status}
use Rattle.m386.specs.declared.status.Status.TheVariants.{HostFault, Image}
use Rattle.m386.specs.Slots.{Left, Took, Paths, Counts, Gets, IsCutAt, OpenedAs, input_path, output_path, path_for}
use Rattle.m386.specs.Inputs.{Fed, IsFed}
use Rattle.m386.specs.Headline.{Ran, Headline, text_for}
use Rattle.m386.specs.Demonstrated.{Demonstrated}
use Rattle.m386.specs.Monitored.{Monitored}
use Rattle.monitor.specs.Session.{IsBegun, most_commands}
use Rattle.m386.specs.Refusals.{status_of, line_of, fault_line, length_line}
use Rattle.m386.specs.Causes.{OnlyRose, AreCounted, IsOpenedUpTo, IsRefused, IsJobUnheard, IsJobInterrupted}
use Rattle.m386.specs.Answers.{IsTold, IsDone, IsJobDone, IsEnded, IsFaulted, IsTextUpTo, IsImageWrong}
use Rattle.m386.specs.Running.{RanTo}
use Rattle.m386.specs.Writing.{IsWriteRefused}
use Rattle.m386.proofs.Slots.{opened_run, grown}
use Rattle.m386.proofs.Opening.{none_behind, behind_then}
use Rattle.m386.proofs.Writing.{cut_from}

same_then : (t0 t1 t2 : Took) → Same t0 t1 → Same t1 t2 → Same t0 t2
same_then t0 t1 t2 first second slot = second slot ∙ first slot

-- ---- a run

-- the texts of a run, by what its last state counts
texts_same : (job : RunJob) (fed : Fed) (last : written.Machine BoardState) (to : RanTo job.machine.ram fed job.steps last)
    → text_for job last last.state.mem.walks ≡ text_for job to.ran.last (walk_count to.ran.choices)
texts_same job fed last to = ap (λ w. text_for job last w) to.walks ∙ ap (λ m. text_for job m (walk_count to.ran.choices)) to.is_last

pub headline_of : (job : RunJob) (left : Left) (t0 t1 t2 : Took) (p0 p1 : Paths) (fed : Fed) (last : written.Machine BoardState)
    → IsFed job.machine left fed → RanTo job.machine.ram fed job.steps last → Same t0 t1
    → ((slot : OutSlot) → Gets (text_for job last last.state.mem.walks slot) (t1 slot) (t2 slot))
    → ((slot : Slot) → OpenedAs (path_for (Run job) slot) (p0 slot) (p1 slot))
    → Headline job left t0 t2 p0 p1
headline_of job left t0 t1 t2 p0 p1 fed last is_fed to same outputs opened = record {
  fed = fed;
  is_fed = is_fed;
  ran = to.ran;
  outputs = λ slot. subst (λ texts. Gets (texts slot) (t0 slot) (t2 slot)) (texts_same job fed last to) (subst (λ x. Gets (text_for job last last.state.mem.walks slot) x (t2 slot)) (same slot) (outputs slot));
  opened = opened;
}

-- the outputs of a run are refused
pub write_refused : (job : RunJob) (left left_now : Left) (t0 t1 t2 : Took) (fed : Fed) (last : written.Machine BoardState) (refusal : Refusal)
    → IsFed job.machine left fed → RanTo job.machine.ram fed job.steps last → Same t0 t1
    → IsWriteRefused (text_for job last last.state.mem.walks) t1 t2 refusal → IsRefused (Run job) left left_now t0 t2 refusal
write_refused job left left_now t0 t1 t2 fed last refusals.Memory is_fed to same refused = absurd refused
write_refused job left left_now t0 t1 t2 fed last refusals.Words is_fed to same refused = refused
write_refused job left left_now t0 t1 t2 fed last (refusals.HostFault slot) is_fed to same refused = (tt, same_then t0 t1 t2 same refused)
write_refused job left left_now t0 t1 t2 fed last (refusals.Length slot n) is_fed to same refused = absurd refused
write_refused job left left_now t0 t1 t2 fed last (refusals.Script n) is_fed to same refused = absurd refused
write_refused job left left_now t0 t1 t2 fed last refusals.Commands is_fed to same refused = absurd refused
write_refused job left left_now t0 t1 t2 fed last refusals.TooLong is_fed to same refused = absurd refused
write_refused job left left_now t0 t1 t2 fed last (refusals.Late slot) is_fed to same refused = record {
  fed = fed;
  is_fed = is_fed;
  ran = to.ran;
  outputs = subst (λ texts. IsCutAt slot texts t0 t2) (texts_same job fed last to) (cut_from (text_for job last last.state.mem.walks) t0 t1 t2 slot same refused);
}

-- ---- a run, by what its last call answers

pub headline_result : {T E : Type 0} (r : Result T E) (job : RunJob) (left : Left) (t0 t1 t2 : Took) (p0 p1 p2 : Paths) (fed : Fed) (last : written.Machine BoardState)
    → IsFed job.machine left fed → RanTo job.machine.ram fed job.steps last → Same t0 t1
    → ((slot : InSlot) → OpenedAs (input_path job.machine slot) (p0 (In slot)) (p1 (In slot)))
    → ((slot : OutSlot) → p1 (Out slot) ≡ p0 (Out slot)) → ((slot : InSlot) → p2 (In slot) ≡ p1 (In slot))
    → OnOk r ((slot : OutSlot) → Gets (text_for job last last.state.mem.walks slot) (t1 slot) (t2 slot))
    → OnOk r ((slot : OutSlot) → OpenedAs (output_path job slot) (p1 (Out slot)) (p2 (Out slot)))
    → OnOk r (Headline job left t0 t2 p0 p2)
headline_result (Ok x) job left t0 t1 t2 p0 p1 p2 fed last is_fed to same inputs stay keep outputs opened =
    headline_of job left t0 t1 t2 p0 p2 fed last is_fed to same outputs (opened_run job p0 p1 p2 inputs stay opened keep)
headline_result (Err e) job left t0 t1 t2 p0 p1 p2 fed last is_fed to same inputs stay keep outputs opened = tt

pub write_result : {T : Type 0} (r : Result T Refusal) (job : RunJob) (left left_now : Left) (t0 t1 t2 : Took) (fed : Fed) (last : written.Machine BoardState)
    → IsFed job.machine left fed → RanTo job.machine.ram fed job.steps last → Same t0 t1
    → IfErr r (IsWriteRefused (text_for job last last.state.mem.walks) t1 t2) → IfErr r (IsRefused (Run job) left left_now t0 t2)
write_result (Ok x) job left left_now t0 t1 t2 fed last is_fed to same refused = tt
write_result (Err refusal) job left left_now t0 t1 t2 fed last is_fed to same refused = write_refused job left left_now t0 t1 t2 fed last refusal is_fed to same refused

-- ---- the answer

pub done_headline : (words : List (List ℕ)) (left : Left) (t0 t1 : Took) (p0 p1 : Paths) (job : RunJob) → IsDone words left t0 t1 p0 p1 → IsRun words job → Headline job left t0 t1 p0 p1
done_headline words left t0 t1 p0 p1 job d is = subst (λ j. IsJobDone j left t0 t1 p0 p1) (sym (d.asks.only (Run job) is)) d.done

pub done_demo : (words : List (List ℕ)) (left : Left) (t0 t1 : Took) (p0 p1 : Paths) (number : ℕ) → IsDone words left t0 t1 p0 p1 → IsDemo words number → Demonstrated number t0 t1 p0 p1
done_demo words left t0 t1 p0 p1 number d is = subst (λ j. IsJobDone j left t0 t1 p0 p1) (sym (d.asks.only (Demo number) is)) d.done

pub done_monitor : (words : List (List ℕ)) (left : Left) (t0 t1 : Took) (p0 p1 : Paths) (machine : Machine) → IsDone words left t0 t1 p0 p1 → IsMonitor words machine → Monitored machine left t0 t1 p0 p1
done_monitor words left t0 t1 p0 p1 machine d is = subst (λ j. IsJobDone j left t0 t1 p0 p1) (sym (d.asks.only (Monitor machine) is)) d.done

-- the report's count rose, or stands
at_report : (slot : Slot) (f g : Counts) → OnlyRose slot f g → (g (Out Report) ≡ f (Out Report)) ⊎ Rose (f (Out Report)) (g (Out Report))
at_report (In slot) f g only = inl (only.others (Out Report) (λ is. cc))
at_report (Out Report) f g only = inr only.rose
at_report (Out Mem) f g only = inl (only.others (Out Report) (λ is. cc))
at_report (Out Save) f g only = inl (only.others (Out Report) (λ is. cc))

rose_from : (f g h : ℕ) → (g ≡ f) ⊎ Rose f g → Rose g h → Rose f h
rose_from f g h (inl same) rose = subst (λ n. Rose n h) same rose
rose_from f g h (inr first) rose = omega (arith, first, rose)

told_from : (before now : Option (List ℕ)) (path : Option Openings) (f g h : ℕ) (line : List ℕ) → (g ≡ f) ⊎ Rose f g → IsTold before now path g h line → IsTold before now path f h line
told_from before now path f g h line first told = record {
  some = told.some;
  whole = λ calm. told.whole (λ rose. calm (rose_from f g h first rose));
  opened = λ calm. told.opened (λ rose. calm (rose_from f g h first rose));
}

-- what was taken of the commands, behind the line of a refusal
unheard : (job : Job) (left l1 l2 : Left) → Same l1 l2 → IsJobUnheard job left l1 → IsJobUnheard job left l2
unheard (Run job) left l1 l2 still is = tt
unheard (Dis job) left l1 l2 still is = tt
unheard (Demo number) left l1 l2 still is = tt
unheard (Monitor machine) left l1 l2 still is = still Commands ∙ is

interrupted : (job : Job) (left l1 l2 : Left) (t0 t1 : Took) → Same l1 l2 → IsJobInterrupted job left l1 t0 t1 → IsJobInterrupted job left l2 t0 t1
interrupted (Run job) left l1 l2 t0 t1 still is = absurd is
interrupted (Dis job) left l1 l2 t0 t1 still is = absurd is
interrupted (Demo number) left l1 l2 t0 t1 still is = absurd is
interrupted (Monitor machine) left l1 l2 t0 t1 still is = record {
  started = is.started;
  last = is.last;
  session = subst (λ (x : Option (List ℕ)). IsBegun is.started.fed.events is.started.start is.last (left Commands) x (t0 Report) (t1 Report)) (sym (still Commands)) is.session;
  others = is.others;
}

text_up_to : (job : Job) (left l1 l2 : Left) (t0 t1 : Took) (slot : Slot) → Same l1 l2 → IsJobUnheard job left l1 × Same t0 t1 → IsTextUpTo job left l2 t0 t1 slot
text_up_to job left l1 l2 t0 t1 (In slot) still refused = inl (unheard job left l1 l2 still refused.0, refused.1)
text_up_to job left l1 l2 t0 t1 (Out slot) still refused = inl refused.1

-- a failure of the host, whose slot is told
pub faulted : (words : List (List ℕ)) (left l1 l2 : Left) (t0 t1 t2 : Took) (p0 p1 path : Paths) (f g h : Counts) (refusal : Refusal) (status : Status)
    → Same l1 l2 → IsEnded words left l1 t0 t1 refusal → AreCounted refusal f g → status ≡ status_of refusal
    → (refusal ≢ refusals.Memory → IsTold (t1 Report) (t2 Report) (path (Out Report)) (g (Out Report)) (h (Out Report)) (line_of refusal))
    → SameBut Report t1 t2 → SameBut (Out Report) g h → g (Out Report) ≤ h (Out Report)
    → SameBut (Out Report) p1 path → IsOpenedUpTo refusal p0 p1
    → status ≡ HostFault → IsFaulted words left l2 t0 t2 p0 path f h
faulted words left l1 l2 t0 t1 t2 p0 p1 path f g h refusals.Memory status still e counted is told but same later opened up fault = cc
faulted words left l1 l2 t0 t1 t2 p0 p1 path f g h refusals.Words status still e counted is told but same later opened up fault = cc
faulted words left l1 l2 t0 t1 t2 p0 p1 path f g h (refusals.HostFault slot) status still e counted is told but same later opened up fault = record {
  job = e.job;
  asks = e.asks;
  slot = slot;
  rose = (let up = grown g h same later slot in omega (arith, up, counted.rose));
  between = t1;
  text = text_up_to e.job left l1 l2 t0 t1 slot still e.refused;
  line = record {
    told = told_from (t1 Report) (t2 Report) (path (Out Report)) (f (Out Report)) (g (Out Report)) (h (Out Report)) (fault_line slot) (at_report slot f g counted) (told (λ is. cc));
    others = but;
  };
  behind = behind_then slot p0 p1 path (none_behind slot p0 p1 up) opened;
}
faulted words left l1 l2 t0 t1 t2 p0 p1 path f g h (refusals.Length slot n) status still e counted is told but same later opened up fault = cc
faulted words left l1 l2 t0 t1 t2 p0 p1 path f g h (refusals.Script n) status still e counted is told but same later opened up fault = cc
faulted words left l1 l2 t0 t1 t2 p0 p1 path f g h (refusals.Late slot) status still e counted is told but same later opened up fault = record {
  job = e.job;
  asks = e.asks;
  slot = Out slot;
  rose = (let up = grown g h same later (Out slot) in omega (arith, up, counted.rose));
  between = t1;
  text = inr e.refused;
  line = record {
    told = told_from (t1 Report) (t2 Report) (path (Out Report)) (f (Out Report)) (g (Out Report)) (h (Out Report)) (fault_line (Out slot)) (at_report (Out slot) f g counted) (told (λ is. cc));
    others = but;
  };
  behind = behind_then (Out slot) p0 p1 path up opened;
}
faulted words left l1 l2 t0 t1 t2 p0 p1 path f g h refusals.Commands status still e counted is told but same later opened up fault = record {
  job = e.job;
  asks = e.asks;
  slot = In Commands;
  rose = (let up = grown g h same later (In Commands) in omega (arith, up, counted.rose));
  between = t1;
  text = inr (refl, interrupted e.job left l1 l2 t0 t1 still e.refused);
  line = record {
    told = told_from (t1 Report) (t2 Report) (path (Out Report)) (f (Out Report)) (g (Out Report)) (h (Out Report)) (fault_line (In Commands)) (at_report (In Commands) f g counted) (told (λ is. cc));
    others = but;
  };
  behind = behind_then (In Commands) p0 p1 path up opened;
}
faulted words left l1 l2 t0 t1 t2 p0 p1 path f g h refusals.TooLong status still e counted is told but same later opened up fault = cc

-- a length that is refused
pub imaged : (words : List (List ℕ)) (left l1 : Left) (t0 t1 t2 : Took) (path : Paths) (f g h : Counts) (refusal : Refusal) (status : Status)
    → IsEnded words left l1 t0 t1 refusal → AreCounted refusal f g → status ≡ status_of refusal
    → (refusal ≢ refusals.Memory → IsTold (t1 Report) (t2 Report) (path (Out Report)) (g (Out Report)) (h (Out Report)) (line_of refusal))
    → SameBut Report t1 t2 → status ≡ Image → IsImageWrong words left t0 t2 path f h
imaged words left l1 t0 t1 t2 path f g h refusals.Memory status e counted is told but image = cc
imaged words left l1 t0 t1 t2 path f g h refusals.Words status e counted is told but image = cc
imaged words left l1 t0 t1 t2 path f g h (refusals.HostFault slot) status e counted is told but image = cc
imaged words left l1 t0 t1 t2 path f g h (refusals.Length slot n) status e counted is told but image = record {
  job = e.job;
  asks = e.asks;
  slot = slot;
  n = n;
  between = t1;
  wrong = inl e.refused;
  line = record {
    told = told_from (t1 Report) (t2 Report) (path (Out Report)) (f (Out Report)) (g (Out Report)) (h (Out Report)) (length_line (In slot) n) (inl (counted (Out Report))) (told (λ is. cc));
    others = but;
  };
}
imaged words left l1 t0 t1 t2 path f g h (refusals.Script n) status e counted is told but image = cc
imaged words left l1 t0 t1 t2 path f g h (refusals.Late slot) status e counted is told but image = cc
imaged words left l1 t0 t1 t2 path f g h refusals.Commands status e counted is told but image = cc
imaged words left l1 t0 t1 t2 path f g h refusals.TooLong status e counted is told but image = record {
  job = e.job;
  asks = e.asks;
  slot = Commands;
  n = most_commands + 1;
  between = t1;
  wrong = inr (refl, refl, e.refused);
  line = record {
    told = told_from (t1 Report) (t2 Report) (path (Out Report)) (f (Out Report)) (g (Out Report)) (h (Out Report)) (length_line (In Commands) (most_commands + 1)) (inl (counted (Out Report))) (told (λ is. cc));
    others = but;
  };
}
