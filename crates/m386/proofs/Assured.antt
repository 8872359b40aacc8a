-- Lemmas on a host that is sure of its slots.
use Rattle.std.proofs.Common.{◌≡◌, ◌≢◌, ◌++◌, ℕ, List, [], length, take, Option, None, Some, Result, Ok, Err, IfErr, OnErr, refl, ap, sym, subst, ◌∙◌, arith, length-append}
use Rattle.host_io.specs.declared.host.InSlot.{InSlot}
use Rattle.host_io.specs.declared.host.InSlot.TheVariants.{Rom, Disk, Script, Commands}
use Rattle.host_io.specs.declared.host.OutSlot.{OutSlot}
use Rattle.host_io.specs.declared.host.OutSlot.TheVariants.{Report, Mem, Save}
use Rattle.host_io.specs.declared.host.Slot.{Slot}
use Rattle.host_io.specs.declared.host.Slot.TheVariants.{In, Out}
use Rattle.host_io.specs.Openings.{Openings}
use Rattle.host_io.specs.Promises.{Promise, IsSure, Opens, IsFull}
use Rattle.host_io.specs.Slots.{Same, SameBut}
use Rattle.host_io.specs.Transfers.{AppendsPrefix}
use Rattle.command_words.specs.Jobs.{Machine, RunJob, Run, Monitor, NoneMatched}
use Rattle.m386.specs.declared.refusals.Refusal.{Refusal}
use Rattle.m386.specs.declared.refusals.Refusal.TheVariants as refusals
use Rattle.m386.specs.declared.status.Status.{Status}
use Rattle.m386.specs.declared.status.Status.TheVariants.{HostFault}
use Rattle.m386.specs.Slots.{Left, Took, Counts, input_path, output_path, path_for}
use Rattle.m386.specs.Refusals.{line_of, status_of}
use Rattle.m386.specs.Causes.{AreCounted}
use Rattle.m386.specs.Answers.{IsTold, IsEnded}
use Rattle.m386.specs.Feeding.{IsNamed}
use Rattle.m386.specs.Talking.{talk_path}
use Rattle.m386.specs.Assured.{OpensAt, AreWritable, IsAssured, IsNoFault}

-- words that ask for nothing end with no failure
unasked_quiet : (words : List (List ℕ)) (left left_now : Left) (t0 t1 : Took) (refusal : Refusal) → NoneMatched words → IsEnded words left left_now t0 t1 refusal → IsNoFault refusal
unasked_quiet words left left_now t0 t1 refusals.Memory none e = tt
unasked_quiet words left left_now t0 t1 refusals.Words none e = tt
unasked_quiet words left left_now t0 t1 (refusals.HostFault slot) none e = none e.job e.asks.matched
unasked_quiet words left left_now t0 t1 (refusals.Length slot n) none e = tt
unasked_quiet words left left_now t0 t1 (refusals.Script n) none e = tt
unasked_quiet words left left_now t0 t1 (refusals.Late slot) none e = none e.job e.asks.matched
unasked_quiet words left left_now t0 t1 refusals.Commands none e = none e.job e.asks.matched
unasked_quiet words left left_now t0 t1 refusals.TooLong none e = tt

-- ---- outputs

-- a step of writing the outputs that failed
pub output_unwritable : (p q : Promise) (paths : OutSlot → Option (List ℕ)) (took : Took) (slot : OutSlot) → q ≡ p
    → (OpensAt q (Out slot) (paths slot) → IsNamed (paths slot) × IsFull q slot (took slot)) → ¬ (AreWritable p paths took)
output_unwritable p q paths took slot same full writable =
    let at = full (subst (λ (x : Promise). OpensAt x (Out slot) (paths slot)) (sym same) (writable.opens slot)) in
    writable.room slot at.0 (subst (λ (x : Promise). IsFull x slot (took slot)) same at.1)

pub result_unwritable : {T E : Type 0} (r : Result T E) (p q : Promise) (paths : OutSlot → Option (List ℕ)) (took : Took) (slot : OutSlot) → q ≡ p
    → (OpensAt q (Out slot) (paths slot) → OnErr r (IsNamed (paths slot) × IsFull q slot (took slot))) → OnErr r (¬ (AreWritable p paths took))
result_unwritable (Ok x) p q paths took slot same full = tt
result_unwritable (Err e) p q paths took slot same full = output_unwritable p q paths took slot same full

-- the outputs of a run, behind its inputs
pub run_quiet : {T : Type 0} (r : Result T Refusal) (p q : Promise) (job : RunJob) (took : Took) → q ≡ p → OnErr r (¬ (AreWritable q (output_path job) took)) → IsAssured p (path_for (Run job)) took → IfErr r IsNoFault
run_quiet (Ok x) p q job took same fails assured = tt
run_quiet (Err refusal) p q job took same fails assured =
    let writable : AreWritable p (output_path job) took = record { opens = λ slot. assured.opens (Out slot); room = assured.room } in
    absurd (fails (subst (λ (x : Promise). AreWritable x (output_path job) took) (sym same) writable))

-- a report that was not written
pub report_quiet : {T : Type 0} (r : Result T Refusal) (p : Promise) (paths : Slot → Option (List ℕ)) (took : Took) → paths (Out Report) ≡ Some [] → (Opens p (Out Report) [] → OnErr r (IsFull p Report (took Report)))
    → IsAssured p paths took → IfErr r IsNoFault
report_quiet (Ok x) p paths took named full assured = tt
report_quiet (Err refusal) p paths took named full assured =
    absurd (assured.room Report (λ none. cc) (full (subst (λ (path : Option (List ℕ)). OpensAt p (Out Report) path) named (assured.opens (Out Report)))))

-- the report was not opened, or not written whole
pub report_unopened : (p q : Promise) (paths : Slot → Option (List ℕ)) (took : Took) → paths (Out Report) ≡ Some [] → q ≡ p → ¬ (Opens q (Out Report) []) → ¬ (IsAssured p paths took)
report_unopened p q paths took named same shut assured =
    shut (subst (λ (x : Promise). OpensAt x (Out Report) (Some [])) (sym same) (subst (λ (path : Option (List ℕ)). OpensAt p (Out Report) path) named (assured.opens (Out Report))))

pub report_full : (p q : Promise) (paths : Slot → Option (List ℕ)) (took : Took) → paths (Out Report) ≡ Some [] → q ≡ p → (IsSure q (Out Report) → IsFull q Report (took Report)) → ¬ (IsAssured p paths took)
report_full p q paths took named same full assured =
    let opens : Opens p (Out Report) [] = subst (λ (path : Option (List ℕ)). OpensAt p (Out Report) path) named (assured.opens (Out Report)) in
    assured.room Report (λ none. cc) (subst (λ (x : Promise). IsFull x Report (took Report)) same (full (subst (λ (x : Promise). IsSure x (Out Report)) (sym same) opens.sure)))

-- the inputs of a session's machine
pub inputs_open : (p : Promise) (m : Machine) (took : Took) → IsAssured p (path_for (Monitor m)) took → (slot : InSlot) → OpensAt p (In slot) (input_path m slot)
inputs_open p m took assured Rom = assured.opens (In Rom)
inputs_open p m took assured Disk = assured.opens (In Disk)
inputs_open p m took assured Script = assured.opens (In Script)
inputs_open p m took assured Commands = tt

-- a session opens the commands and the report, behind the inputs of its machine
talk_here : (p : Promise) (m : Machine) (took : Took) → IsAssured p (path_for (Monitor m)) took → IsAssured p talk_path took
talk_here p m took assured = record {
  opens = at;
  room = free;
}
  where
    at : (slot : Slot) → OpensAt p slot (talk_path slot)
    at (In Rom) = tt
    at (In Disk) = tt
    at (In Script) = tt
    at (In Commands) = assured.opens (In Commands)
    at (Out Report) = assured.opens (Out Report)
    at (Out Mem) = tt
    at (Out Save) = tt

    free : (slot : OutSlot) → IsNamed (talk_path (Out slot)) → ¬ (IsFull p slot (took slot))
    free Report named = assured.room Report named
    free Mem named = absurd (named refl)
    free Save named = absurd (named refl)

pub talk_quiet : {T : Type 0} (r : Result T Refusal) (p q : Promise) (m : Machine) (took : Took) → q ≡ p → (IsAssured q talk_path took → IfErr r IsNoFault) → IsAssured p (path_for (Monitor m)) took → IfErr r IsNoFault
talk_quiet r p q m took same quiet assured = quiet (subst (λ (x : Promise). IsAssured x talk_path took) (sym same) (talk_here p m took assured))

-- ---- the line of a refusal

-- an output that is full stays full
full_then : (p : Promise) (slot : OutSlot) (before now : Option (List ℕ)) (line : List ℕ) → AppendsPrefix before now line → IsFull p slot before → IsFull p slot now
full_then p slot None now line some full = absurd full
full_then p slot (Some xs) None line some full = absurd some.appended
full_then p slot (Some xs) (Some ys) line some full =
    let grown : length ys ≡ length (xs ++ take some.count line) = ap length some.appended in
    omega (arith, full, grown, length-append xs (take some.count line))

-- what is not full in the end was not full before the line
before_line : (p : Promise) (paths : Slot → Option (List ℕ)) (t1 t2 : Took) → (IsFull p Report (t1 Report) → IsFull p Report (t2 Report)) → SameBut Report t1 t2 → IsAssured p paths t2 → IsAssured p paths t1
before_line p paths t1 t2 full but assured = record {
  opens = assured.opens;
  room = at;
}
  where
    at : (slot : OutSlot) → IsNamed (paths (Out slot)) → ¬ (IsFull p slot (t1 slot))
    at Report named is = assured.room Report named (full is)
    at Mem named is = assured.room Mem named (subst (λ (x : Option (List ℕ)). IsFull p Mem x) (sym (but Mem (λ is. cc))) is)
    at Save named is = assured.room Save named (subst (λ (x : Option (List ℕ)). IsFull p Save x) (sym (but Save (λ is. cc))) is)

told_full : (p : Promise) (before now : Option (List ℕ)) (path : Option Openings) (g h : ℕ) (line : List ℕ) → IsTold before now path g h line → IsFull p Report before → IsFull p Report now
told_full p before now path g h line told full = full_then p Report before now line told.some full

-- the line is written, where no call failed before
line_written : (p q : Promise) (paths : Slot → Option (List ℕ)) (t2 : Took) (g h : Counts) → paths (Out Report) ≡ Some [] → q ≡ p
    → (Opens q (Out Report) [] → ¬ (IsFull q Report (t2 Report)) → Same g h) → IsAssured p paths t2 → Same g h
line_written p q paths t2 g h named same told assured =
    let opens = subst (λ (path : Option (List ℕ)). OpensAt p (Out Report) path) named (assured.opens (Out Report)) in
    told (subst (λ (x : Promise). Opens x (Out Report) []) (sym same) opens)
    (λ full. assured.room Report (λ none. cc) (subst (λ (x : Promise). IsFull x Report (t2 Report)) same full))

same_counts : (f g h : Counts) → Same f g → Same g h → Same f h
same_counts f g h first second slot = second slot ∙ first slot

-- ---- the answer

pub assured_end : (p q : Promise) (paths : Slot → Option (List ℕ)) (t1 t2 : Took) (path : Option Openings) (f g h : Counts) (refusal : Refusal) (status : Status) → paths (Out Report) ≡ Some [] → q ≡ p
    → (IsAssured p paths t1 → IsNoFault refusal) → AreCounted refusal f g → status ≡ status_of refusal
    → (refusal ≢ refusals.Memory → IsTold (t1 Report) (t2 Report) path (g (Out Report)) (h (Out Report)) (line_of refusal)) → SameBut Report t1 t2
    → (Opens q (Out Report) [] → ¬ (IsFull q Report (t2 Report)) → Same g h) → IsAssured p paths t2 → (status ≢ HostFault) × Same f h
assured_end p q paths t1 t2 path f g h refusals.Memory status named same quiet counted is told but line assured =
    ((λ fault. cc), same_counts f g h counted (line_written p q paths t2 g h named same line assured))
assured_end p q paths t1 t2 path f g h refusals.Words status named same quiet counted is told but line assured =
    ((λ fault. cc), same_counts f g h counted (line_written p q paths t2 g h named same line assured))
assured_end p q paths t1 t2 path f g h (refusals.HostFault slot) status named same quiet counted is told but line assured =
    absurd (quiet (before_line p paths t1 t2 (told_full p (t1 Report) (t2 Report) path (g (Out Report)) (h (Out Report)) _ (told (λ is. cc))) but assured))
assured_end p q paths t1 t2 path f g h (refusals.Length slot n) status named same quiet counted is told but line assured =
    ((λ fault. cc), same_counts f g h counted (line_written p q paths t2 g h named same line assured))
assured_end p q paths t1 t2 path f g h (refusals.Script n) status named same quiet counted is told but line assured =
    ((λ fault. cc), same_counts f g h counted (line_written p q paths t2 g h named same line assured))
assured_end p q paths t1 t2 path f g h (refusals.Late slot) status named same quiet counted is told but line assured =
    absurd (quiet (before_line p paths t1 t2 (told_full p (t1 Report) (t2 Report) path (g (Out Report)) (h (Out Report)) _ (told (λ is. cc))) but assured))
assured_end p q paths t1 t2 path f g h refusals.Commands status named same quiet counted is told but line assured =
    absurd (quiet (before_line p paths t1 t2 (told_full p (t1 Report) (t2 Report) path (g (Out Report)) (h (Out Report)) _ (told (λ is. cc))) but assured))
assured_end p q paths t1 t2 path f g h refusals.TooLong status named same quiet counted is told but line assured =
    ((λ fault. cc), same_counts f g h counted (line_written p q paths t2 g h named same line assured))

-- the same of words that ask for nothing
pub unasked_end : (words : List (List ℕ)) (left left_now : Left) (t0 : Took) (p q : Promise) (paths : Slot → Option (List ℕ)) (t1 t2 : Took) (path : Option Openings) (f g h : Counts) (refusal : Refusal) (status : Status)
    → NoneMatched words → IsEnded words left left_now t0 t1 refusal → paths (Out Report) ≡ Some [] → q ≡ p → AreCounted refusal f g → status ≡ status_of refusal
    → (refusal ≢ refusals.Memory → IsTold (t1 Report) (t2 Report) path (g (Out Report)) (h (Out Report)) (line_of refusal)) → SameBut Report t1 t2
    → (Opens q (Out Report) [] → ¬ (IsFull q Report (t2 Report)) → Same g h) → IsAssured p paths t2 → Same f h
unasked_end words left left_now t0 p q paths t1 t2 path f g h refusal status none e named same counted is told but line assured =
    (assured_end p q paths t1 t2 path f g h refusal status named same (λ _. unasked_quiet words left left_now t0 t1 refusal none e) counted is told but line assured).1
