-- Lemmas on slots: what steps on one slot after the other leave.
use Rattle.std.proofs.Common.{◌≡◌, ◌≢◌, ◌≤◌, ℕ, List, [], Option, None, Some, Result, Ok, Err, IfErr, refl, sym, subst, ◌∙◌, inl, inr, arith}
use Rattle.host_io.specs.declared.host.InSlot.{InSlot}
use Rattle.host_io.specs.declared.host.InSlot.TheVariants.{Rom, Disk, Script, Commands}
use Rattle.host_io.specs.declared.host.OutSlot.{OutSlot}
use Rattle.host_io.specs.declared.host.OutSlot.TheVariants.{Report, Mem, Save}
use Rattle.host_io.specs.declared.host.Slot.{Slot}
use Rattle.host_io.specs.declared.host.Slot.TheVariants.{In, Out}
use Rattle.host_io.specs.Causes.{Rose}
use Rattle.host_io.specs.Openings.{Openings, OpenedOnce}
use Rattle.host_io.specs.Slots.{Same, SameBut}
use Rattle.command_words.specs.Jobs.{Machine, RunJob, DisJob, Job, Run, Dis, Demo, Monitor}
use Rattle.m386.specs.declared.refusals.Refusal.{Refusal}
use Rattle.m386.specs.declared.refusals.Refusal.TheVariants as refusals
use Rattle.m386.specs.Slots.{Left, Took, Paths, Counts, input_path, output_path, path_for, report_only, OpenedAs, OpenedOnly, Keeps}
use Rattle.m386.specs.Causes.{OnlyRose, AreCounted, IsLineOpened, IsOpenedUpTo}

-- ---- paths

-- what is not opened first
pub then_only : (path : Option (List ℕ)) (before between now : Option Openings) → between ≡ before → OpenedOnly path between now → OpenedOnly path before now
then_only path before between now same only = subst (λ x. OpenedOnly path x now) same only

-- what is not opened later
pub stays_only : (path : Option (List ℕ)) (before between now : Option Openings) → now ≡ between → OpenedOnly path before between → OpenedOnly path before now
stays_only path before between now same only = subst (λ x. OpenedOnly path before x) (sym same) only

-- slots are opened up to a refusal, and then at most the report for its line
keeps_up_to : (paths : Slot → Option (List ℕ)) (l0 l1 l2 : Left) (p0 p1 p2 : Paths) → Keeps paths l0 l1 p0 p1 → Same l1 l2 → SameBut (Out Report) p1 p2
    → OpenedOnly (paths (Out Report)) (p0 (Out Report)) (p2 (Out Report)) → Keeps paths l0 l2 p0 p2
keeps_up_to paths l0 l1 l2 p0 p1 p2 first left but report = record {
  opened = at;
  unread = λ slot none. left slot ∙ first.unread slot none;
}
  where
    at : (slot : Slot) → OpenedOnly (paths slot) (p0 slot) (p2 slot)
    at (In slot) = stays_only (paths (In slot)) (p0 (In slot)) (p1 (In slot)) (p2 (In slot)) (but (In slot) (λ is. cc)) (first.opened (In slot))
    at (Out Report) = report
    at (Out Mem) = stays_only (paths (Out Mem)) (p0 (Out Mem)) (p1 (Out Mem)) (p2 (Out Mem)) (but (Out Mem) (λ is. cc)) (first.opened (Out Mem))
    at (Out Save) = stays_only (paths (Out Save)) (p0 (Out Save)) (p1 (Out Save)) (p2 (Out Save)) (but (Out Save) (λ is. cc)) (first.opened (Out Save))

-- the report is opened at most once, with the empty path
report_once : (paths : Slot → Option (List ℕ)) (refusal : Refusal) (p0 p1 p2 : Paths) → paths (Out Report) ≡ Some [] → IsOpenedUpTo refusal p0 p1
    → OpenedOnly (paths (Out Report)) (p0 (Out Report)) (p1 (Out Report)) → IsLineOpened refusal (p1 (Out Report)) (p2 (Out Report))
    → OpenedOnly (paths (Out Report)) (p0 (Out Report)) (p2 (Out Report))
report_once paths refusals.Memory p0 p1 p2 named up first line = subst (λ path. OpenedOnly path (p0 (Out Report)) (p2 (Out Report))) (sym named) (then_only (Some []) (p0 (Out Report)) (p1 (Out Report)) (p2 (Out Report)) (up Report) line)
report_once paths refusals.Words p0 p1 p2 named up first line = subst (λ path. OpenedOnly path (p0 (Out Report)) (p2 (Out Report))) (sym named) (then_only (Some []) (p0 (Out Report)) (p1 (Out Report)) (p2 (Out Report)) (up Report) line)
report_once paths (refusals.HostFault slot) p0 p1 p2 named up first line = subst (λ path. OpenedOnly path (p0 (Out Report)) (p2 (Out Report))) (sym named) (then_only (Some []) (p0 (Out Report)) (p1 (Out Report)) (p2 (Out Report)) (up Report) line)
report_once paths (refusals.Length slot n) p0 p1 p2 named up first line = subst (λ path. OpenedOnly path (p0 (Out Report)) (p2 (Out Report))) (sym named) (then_only (Some []) (p0 (Out Report)) (p1 (Out Report)) (p2 (Out Report)) (up Report) line)
report_once paths (refusals.Script n) p0 p1 p2 named up first line = subst (λ path. OpenedOnly path (p0 (Out Report)) (p2 (Out Report))) (sym named) (then_only (Some []) (p0 (Out Report)) (p1 (Out Report)) (p2 (Out Report)) (up Report) line)
report_once paths (refusals.Late slot) p0 p1 p2 named up first line = stays_only (paths (Out Report)) (p0 (Out Report)) (p1 (Out Report)) (p2 (Out Report)) line first
report_once paths refusals.Commands p0 p1 p2 named up first line = stays_only (paths (Out Report)) (p0 (Out Report)) (p1 (Out Report)) (p2 (Out Report)) line first
report_once paths refusals.TooLong p0 p1 p2 named up first line = stays_only (paths (Out Report)) (p0 (Out Report)) (p1 (Out Report)) (p2 (Out Report)) line first

pub keeps_told : (paths : Slot → Option (List ℕ)) (refusal : Refusal) (l0 l1 l2 : Left) (p0 p1 p2 : Paths) → paths (Out Report) ≡ Some [] → Keeps paths l0 l1 p0 p1
    → IsOpenedUpTo refusal p0 p1 → Same l1 l2 → IsLineOpened refusal (p1 (Out Report)) (p2 (Out Report)) → SameBut (Out Report) p1 p2 → Keeps paths l0 l2 p0 p2
keeps_told paths refusal l0 l1 l2 p0 p1 p2 named first up left line but =
    keeps_up_to paths l0 l1 l2 p0 p1 p2 first left but (report_once paths refusal p0 p1 p2 named up (first.opened (Out Report)) line)

-- the inputs of a run are opened, and then its outputs
pub opened_run : (job : RunJob) (p0 p1 p2 : Paths)
    → ((slot : InSlot) → OpenedAs (input_path job.machine slot) (p0 (In slot)) (p1 (In slot)))
    → ((slot : OutSlot) → p1 (Out slot) ≡ p0 (Out slot))
    → ((slot : OutSlot) → OpenedAs (output_path job slot) (p1 (Out slot)) (p2 (Out slot)))
    → ((slot : InSlot) → p2 (In slot) ≡ p1 (In slot))
    → (slot : Slot) → OpenedAs (path_for (Run job) slot) (p0 slot) (p2 slot)
opened_run job p0 p1 p2 inputs outputs written stay (In slot) = subst (λ x. OpenedAs (input_path job.machine slot) (p0 (In slot)) x) (sym (stay slot)) (inputs slot)
opened_run job p0 p1 p2 inputs outputs written stay (Out slot) = subst (λ x. OpenedAs (output_path job slot) x (p2 (Out slot))) (outputs slot) (written slot)

-- each job opens the report with the empty path
pub report_path : (job : Job) → path_for job (Out Report) ≡ Some []
report_path (Run job) = refl
report_path (Dis job) = refl
report_path (Demo number) = refl
report_path (Monitor machine) = refl

-- ---- counts

only_rose_from : (slot : Slot) (f g h : Counts) → Same f g → OnlyRose slot g h → OnlyRose slot f h
only_rose_from slot f g h same only = record {
  rose = subst (λ n. Rose n (h slot)) (same slot) only.rose;
  others = λ other differs. only.others other differs ∙ same other;
}

same_from : (f g h : Counts) → Same f g → Same g h → Same f h
same_from f g h first second slot = second slot ∙ first slot

-- a refusal behind steps that left the counts
pub counted_from : (refusal : Refusal) (f g h : Counts) → Same f g → AreCounted refusal g h → AreCounted refusal f h
counted_from refusals.Memory f g h same counted = same_from f g h same counted
counted_from refusals.Words f g h same counted = same_from f g h same counted
counted_from (refusals.HostFault slot) f g h same counted = only_rose_from slot f g h same counted
counted_from (refusals.Length slot n) f g h same counted = same_from f g h same counted
counted_from (refusals.Script n) f g h same counted = same_from f g h same counted
counted_from (refusals.Late slot) f g h same counted = only_rose_from (Out slot) f g h same counted
counted_from refusals.Commands f g h same counted = only_rose_from (In Commands) f g h same counted
counted_from refusals.TooLong f g h same counted = same_from f g h same counted

pub counted_result : {T : Type 0} (r : Result T Refusal) (f g h : Counts) → Same f g → IfErr r (λ refusal. AreCounted refusal g h) → IfErr r (λ refusal. AreCounted refusal f h)
counted_result (Ok x) f g h same counted = tt
counted_result (Err refusal) f g h same counted = counted_from refusal f g h same counted

-- no count falls while the line is tried
pub grown : (g h : Counts) → SameBut (Out Report) g h → g (Out Report) ≤ h (Out Report) → (slot : Slot) → g slot ≤ h slot
grown g h same later (In slot) = let e = same (In slot) (λ is. cc) in omega (arith, e)
grown g h same later (Out Report) = later
grown g h same later (Out Mem) = let e = same (Out Mem) (λ is. cc) in omega (arith, e)
grown g h same later (Out Save) = let e = same (Out Save) (λ is. cc) in omega (arith, e)
