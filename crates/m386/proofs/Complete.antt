-- What is asked for and accepted is refused for want of memory alone, where the host tells and no call failed.
use Rattle.std.proofs.Common.{◌≡◌, ◌≢◌, ◌⊎◌, inl, inr, ℕ, ◌≤◌, ◌+◌, List, [], length, min, Option, None, Some, refl, ap, sym, subst, ◌∙◌, arith}
use Rattle.host_io.specs.declared.host.InSlot.{InSlot}
use Rattle.host_io.specs.declared.host.InSlot.TheVariants.{Rom, Disk, Script, Commands}
use Rattle.host_io.specs.declared.host.OutSlot.TheVariants.{Report, Mem, Save}
use Rattle.host_io.specs.declared.host.Slot.{Slot}
use Rattle.host_io.specs.declared.host.Slot.TheVariants.{In, Out}
use Rattle.host_io.specs.Causes.{Rose}
use Rattle.host_io.specs.Slots.{SameBut}
use Rattle.host_io.specs.Transfers.{IsWhole, IsOver}
use Rattle.command_words.specs.Jobs.{Machine, RunJob, Job, Run, Dis, Demo, Monitor, Matched}
use Rattle.mdl_state.specs.Memory.{IsRomLength}
use Rattle.mdl_text.specs.ScriptLaws.{none_bad}
use Rattle.mdl_text.specs.Script as texts
use Rattle.monitor.specs.Session.{most_commands}
use Rattle.m386.specs.declared.refusals.Refusal.{Refusal}
use Rattle.m386.specs.declared.refusals.Refusal.TheVariants as refusals
use Rattle.m386.specs.declared.status.Status.{Status}
use Rattle.m386.specs.declared.status.Status.TheVariants.{Done, Memory}
use Rattle.m386.specs.Slots.{Left, Took, Counts, input_path}
use Rattle.m386.specs.Inputs.{Fed, IsFed, IsFit, IsInput, IsLength, IsAccepted, IsScriptWrong, limit_of}
use Rattle.m386.specs.Listed.{IsRom}
use Rattle.m386.specs.Refusals.{status_of}
use Rattle.m386.specs.Causes.{OnlyRose, AreCounted, IsJobLengthWrong, IsJobScriptWrong, IsJobOverlong}
use Rattle.m386.proofs.Slots.{grown}
use Rattle.m386.specs.Answers.{Accepts, Tells, SomeRose, IsEnded}

-- ---- inputs

some_told : (left : Option (List ℕ)) → left ≢ None → (bytes : List ℕ) × (left ≡ Some bytes)
some_told None told = absurd (told refl)
some_told (Some bytes) told = (bytes, refl)

whole_told : (left : Option (List ℕ)) (bytes xs : List ℕ) → left ≡ Some xs → IsWhole left bytes → bytes ≡ xs
whole_told left bytes xs is whole = subst (λ l. IsWhole l bytes) is whole

within : (slot : InSlot) (n : ℕ) → IsFit slot n → n ≤ limit_of slot
within Rom n fits = fits.most
within Disk n fits = fits.most
within Script n fits = fits
within Commands n fits = fits

-- an input that is accepted has no wrong length
fits_told : (slot : InSlot) (left : Option (List ℕ)) (bytes : List ℕ) (n : ℕ) → left ≢ None → IsWhole left bytes → IsFit slot (length bytes) → IsLength (limit_of slot) left n → IsFit slot n
fits_told slot left bytes n told whole fits is =
    let some = some_told left told in
    let same : bytes ≡ some.0 = whole_told left bytes some.0 some.1 whole in
    let length_is : n ≡ min (length some.0) (limit_of slot + 1) = subst (λ l. IsLength (limit_of slot) l n) some.1 is in
    let few : length bytes ≤ limit_of slot = within slot (length bytes) fits in
    let count : length bytes ≡ n = (let lengths : length bytes ≡ length some.0 = ap length same in omega (arith, length_is, few, lengths)) in
    subst (IsFit slot) count fits

same_input : (path left : Option (List ℕ)) (a b : List ℕ) → left ≢ None → IsInput path left a → IsInput path left b → a ≡ b
same_input None left a b told is_a is_b = is_a ∙ sym is_b
same_input (Some path) left a b told is_a is_b =
    let some = some_told left told in
    whole_told left a some.0 some.1 is_a ∙ sym (whole_told left b some.0 some.1 is_b)

named_whole : (path left : Option (List ℕ)) (name bytes : List ℕ) → path ≡ Some name → IsInput path left bytes → IsWhole left bytes
named_whole path left name bytes is input = subst (λ p. IsInput p left bytes) is input

accepted_fits : (m : Machine) (left : Left) (slot : InSlot) (bytes name : List ℕ) (n : ℕ) → Tells left → IsAccepted m left slot bytes → input_path m slot ≡ Some name → IsLength (limit_of slot) (left slot) n → IsFit slot n
accepted_fits m left slot bytes name n told is path length_is =
    fits_told slot (left slot) bytes n (told slot) (named_whole (input_path m slot) (left slot) name bytes path is.whole) is.fits length_is

fed_length : (m : Machine) (left : Left) (fed : Fed) (slot : InSlot) (name : List ℕ) (n : ℕ) → Tells left → IsFed m left fed → input_path m slot ≡ Some name → IsLength (limit_of slot) (left slot) n → ¬ (IsFit slot n) → ⊥
fed_length m left fed Rom name n told is path length_is wrong = wrong (accepted_fits m left Rom fed.rom name n told is.rom path length_is)
fed_length m left fed Disk name n told is path length_is wrong = wrong (accepted_fits m left Disk fed.disk name n told is.disk path length_is)
fed_length m left fed Script name n told is path length_is wrong = wrong (accepted_fits m left Script is.script name n told is.read path length_is)
fed_length m left fed Commands name n told is path length_is wrong = cc

-- ---- jobs

right_length : (job : Job) (left : Left) (slot : InSlot) (n : ℕ) → Tells left → Accepts job left → IsJobLengthWrong job left slot n → ⊥
right_length (Run job) left slot n told accepts wrong = fed_length job.machine left accepts.0 slot wrong.path n told accepts.1 wrong.named wrong.told wrong.wrong
right_length (Dis job) left slot n told accepts wrong = wrong.2 (fits_told Rom (left Rom) accepts.0 n (told Rom) accepts.1.whole accepts.1.size wrong.1)
right_length (Demo number) left slot n told accepts wrong = wrong
right_length (Monitor machine) left slot n told accepts wrong = fed_length machine left accepts.0 slot wrong.path n told accepts.1 wrong.named wrong.told wrong.wrong

script_read : (m : Machine) (left : Left) (fed : Fed) (n : ℕ) → Tells left → IsFed m left fed → IsScriptWrong m left n → ⊥
script_read m left fed n told is wrong =
    let same : wrong.script ≡ is.script = same_input (input_path m Script) (left Script) wrong.script is.script (told Script) wrong.read.whole is.read.whole in
    none_bad is.script fed.events n is.events (subst (λ s. texts.IsFirstBad s n) same wrong.bad)

right_script : (job : Job) (left : Left) (n : ℕ) → Tells left → Accepts job left → IsJobScriptWrong job left n → ⊥
right_script (Run job) left n told accepts wrong = script_read job.machine left accepts.0 n told accepts.1 wrong
right_script (Dis job) left n told accepts wrong = wrong
right_script (Demo number) left n told accepts wrong = wrong
right_script (Monitor machine) left n told accepts wrong = script_read machine left accepts.0 n told accepts.1 wrong

over_fits : (left : Option (List ℕ)) (bytes : List ℕ) → left ≢ None → IsWhole left bytes → IsFit Commands (length bytes) → IsOver most_commands left → ⊥
over_fits None bytes told whole fits over = told refl
over_fits (Some xs) bytes told whole fits over = let lengths : length bytes ≡ length xs = ap length whole in omega (arith, lengths, fits, over)

right_commands : (job : Job) (left : Left) (t0 t1 : Took) → Tells left → Accepts job left → IsJobOverlong job left t0 t1 → ⊥
right_commands (Run job) left t0 t1 told accepts over = over
right_commands (Dis job) left t0 t1 told accepts over = over
right_commands (Demo number) left t0 t1 told accepts over = over
right_commands (Monitor machine) left t0 t1 told accepts over = over_fits (left Commands) accepts.2 (told Commands) accepts.3 accepts.4 over.session.over

-- ---- counts

rose_still : (f g h : Counts) (slot : Slot) → OnlyRose slot f g → SameBut (Out Report) g h → g (Out Report) ≤ h (Out Report) → SomeRose f h
rose_still f g h slot only same later = let up = grown g h same later slot in (slot, omega (arith, up, only.rose))

-- ---- the answer

pub completed : (words : List (List ℕ)) (left left_now : Left) (t0 t1 : Took) (f g h : Counts) (asked : Job) (refusal : Refusal) (status : Status)
    → IsEnded words left left_now t0 t1 refusal → AreCounted refusal f g → status ≡ status_of refusal
    → Matched words asked → Accepts asked left → Tells left → ¬ (SomeRose f h) → SameBut (Out Report) g h → g (Out Report) ≤ h (Out Report)
    → (status ≡ Done) ⊎ (status ≡ Memory)
completed words left left_now t0 t1 f g h asked refusals.Memory status e counted is matched accepts told calm same later = inr is
completed words left left_now t0 t1 f g h asked refusals.Words status e counted is matched accepts told calm same later = absurd (e.0 asked matched)
completed words left left_now t0 t1 f g h asked (refusals.HostFault slot) status e counted is matched accepts told calm same later = absurd (calm (rose_still f g h slot counted same later))
completed words left left_now t0 t1 f g h asked (refusals.Length slot n) status e counted is matched accepts told calm same later =
    absurd (right_length e.job left slot n told (subst (λ j. Accepts j left) (e.asks.only asked matched) accepts) e.refused.0)
completed words left left_now t0 t1 f g h asked (refusals.Script n) status e counted is matched accepts told calm same later =
    absurd (right_script e.job left n told (subst (λ j. Accepts j left) (e.asks.only asked matched) accepts) e.refused.0)
completed words left left_now t0 t1 f g h asked (refusals.Late slot) status e counted is matched accepts told calm same later = absurd (calm (rose_still f g h (Out slot) counted same later))
completed words left left_now t0 t1 f g h asked refusals.Commands status e counted is matched accepts told calm same later = absurd (calm (rose_still f g h (In Commands) counted same later))
completed words left left_now t0 t1 f g h asked refusals.TooLong status e counted is matched accepts told calm same later =
    absurd (right_commands e.job left t0 t1 told (subst (λ j. Accepts j left) (e.asks.only asked matched) accepts) e.refused)
