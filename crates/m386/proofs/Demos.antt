-- Lemmas on how a demo ends.
use Rattle.std.proofs.Common.{◌≡◌, ℕ, List, [], Option, None, Some, Result, Ok, Err, IfErr, OnOk, refl, ap, sym, subst, ◌∙◌}
use Rattle.std.specs.Io.KnownBytes.{Appends}
use Rattle.host_io.specs.declared.host.InSlot.{InSlot}
use Rattle.host_io.specs.declared.host.OutSlot.{OutSlot}
use Rattle.host_io.specs.declared.host.OutSlot.TheVariants.{Report, Mem, Save}
use Rattle.host_io.specs.declared.host.Slot.{Slot}
use Rattle.host_io.specs.declared.host.Slot.TheVariants.{In, Out}
use Rattle.host_io.specs.Openings.{OpenedOnce}
use Rattle.host_io.specs.Slots.{SameBut}
use Rattle.host_io.specs.Transfers.{AppendsPrefix}
use Rattle.command_words.specs.Jobs as jobs
use Rattle.mdl_board.specs.Board.{BoardState}
use Rattle.mdl_state.specs.declared.Event.{Event}
use Rattle.mdl_state.specs.Machine.{Machine}
use Rattle.mdl_step.specs.Run.{walk_count}
use Rattle.mdl_text.specs.Demo.{Demo}
use Rattle.m386.specs.declared.refusals.Refusal.{Refusal}
use Rattle.m386.specs.declared.refusals.Refusal.TheVariants as refusals
use Rattle.m386.specs.Slots.{Left, Took, Paths, OpenedAs, path_for}
use Rattle.m386.specs.Inputs.{Fed}
use Rattle.m386.specs.Headline.{report_of}
use Rattle.m386.specs.Demonstrated.{Demonstrated, demo_fed, demo_ram, demo_steps}
use Rattle.m386.specs.Causes.{IsRefused}
use Rattle.m386.specs.Running.{RanTo}
use Rattle.m386.specs.Writing.{IsReportRefused}

-- what a demo is fed with
pub demo_run : (number : ℕ) (rom disk : List ℕ) (events : List Event) (last : Machine BoardState) → rom ≡ Demo number → disk ≡ [] → events ≡ []
    → RanTo demo_ram (record { rom = rom; disk = disk; events = events }) demo_steps last → RanTo demo_ram (demo_fed number) demo_steps last
demo_run number rom disk events last rom_is disk_is events_is to =
    let one = subst (λ (x : List ℕ). RanTo demo_ram (record { rom = x; disk = disk; events = events }) demo_steps last) rom_is to in
    let two = subst (λ (x : List ℕ). RanTo demo_ram (record { rom = Demo number; disk = x; events = events }) demo_steps last) disk_is one in
    subst (λ (x : List Event). RanTo demo_ram (record { rom = Demo number; disk = []; events = x }) demo_steps last) events_is two

-- the report, by what the last state counts
report_same : (number : ℕ) (last : Machine BoardState) (to : RanTo demo_ram (demo_fed number) demo_steps last)
    → report_of last last.state.mem.walks ≡ report_of to.ran.last (walk_count to.ran.choices)
report_same number last to = ap (λ (w : ℕ). report_of last w) to.walks ∙ ap (λ (m : Machine BoardState). report_of m (walk_count to.ran.choices)) to.is_last

opened_demo : (number : ℕ) (p0 p1 : Paths) → OpenedOnce (p0 (Out Report)) (p1 (Out Report)) [] → SameBut (Out Report) p0 p1 → (slot : Slot) → OpenedAs (path_for (jobs.Demo number) slot) (p0 slot) (p1 slot)
opened_demo number p0 p1 report but (In slot) = but (In slot) (λ is. cc)
opened_demo number p0 p1 report but (Out Report) = report
opened_demo number p0 p1 report but (Out Mem) = but (Out Mem) (λ is. cc)
opened_demo number p0 p1 report but (Out Save) = but (Out Save) (λ is. cc)

pub demo_result : {T E : Type 0} (r : Result T E) (number : ℕ) (t0 t1 : Took) (p0 p1 : Paths) (last : Machine BoardState) → RanTo demo_ram (demo_fed number) demo_steps last
    → OnOk r (Appends (t0 Report) (t1 Report) (report_of last last.state.mem.walks)) → SameBut Report t0 t1
    → OnOk r (OpenedAs (Some []) (p0 (Out Report)) (p1 (Out Report))) → SameBut (Out Report) p0 p1 → OnOk r (Demonstrated number t0 t1 p0 p1)
demo_result (Ok x) number t0 t1 p0 p1 last to report others opened but = record {
  ran = to.ran;
  report = subst (λ (text : List ℕ). Appends (t0 Report) (t1 Report) text) (report_same number last to) report;
  others = others;
  opened = opened_demo number p0 p1 opened but;
}
demo_result (Err e) number t0 t1 p0 p1 last to report others opened but = tt

-- why the report of a demo is not written
demo_cut : (number : ℕ) (left left_now : Left) (t0 t1 : Took) (last : Machine BoardState) (refusal : Refusal) → RanTo demo_ram (demo_fed number) demo_steps last
    → IsReportRefused (report_of last last.state.mem.walks) (t0 Report) (t1 Report) refusal → SameBut Report t0 t1 → IsRefused (jobs.Demo number) left left_now t0 t1 refusal
demo_cut number left left_now t0 t1 last refusals.Memory to refused others = absurd refused
demo_cut number left left_now t0 t1 last refusals.Words to refused others = refused
demo_cut number left left_now t0 t1 last (refusals.HostFault slot) to refused others = (tt, same)
  where
    same : (slot : OutSlot) → t1 slot ≡ t0 slot
    same Report = refused.1
    same Mem = others Mem (λ is. cc)
    same Save = others Save (λ is. cc)
demo_cut number left left_now t0 t1 last (refusals.Length slot n) to refused others = absurd refused
demo_cut number left left_now t0 t1 last (refusals.Script n) to refused others = absurd refused
demo_cut number left left_now t0 t1 last refusals.Commands to refused others = refused
demo_cut number left left_now t0 t1 last refusals.TooLong to refused others = refused
demo_cut number left left_now t0 t1 last (refusals.Late slot) to refused others = record {
  is_report = refused.0;
  ran = to.ran;
  report = subst (λ (text : List ℕ). AppendsPrefix (t0 Report) (t1 Report) text) (report_same number last to) refused.1;
  others = others;
}

pub demo_refused : {T : Type 0} (r : Result T Refusal) (number : ℕ) (left left_now : Left) (t0 t1 : Took) (last : Machine BoardState) → RanTo demo_ram (demo_fed number) demo_steps last
    → IfErr r (IsReportRefused (report_of last last.state.mem.walks) (t0 Report) (t1 Report)) → SameBut Report t0 t1 → IfErr r (IsRefused (jobs.Demo number) left left_now t0 t1)
demo_refused (Ok x) number left left_now t0 t1 last to refused others = tt
demo_refused (Err refusal) number left left_now t0 t1 last to refused others = demo_cut number left left_now t0 t1 last refusal to refused others
