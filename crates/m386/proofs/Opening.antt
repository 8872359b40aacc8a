-- Lemmas on which outputs a refusal finds opened.
use Rattle.std.proofs.Common.{◌≡◌, ◌≢◌, List, Result, Ok, Err, IfErr, refl, ◌∙◌}
use Rattle.host_io.specs.declared.host.InSlot.TheVariants.{Commands}
use Rattle.host_io.specs.declared.host.OutSlot.{OutSlot}
use Rattle.host_io.specs.declared.host.OutSlot.TheVariants.{Report, Mem, Save}
use Rattle.host_io.specs.declared.host.Slot.{Slot}
use Rattle.host_io.specs.declared.host.Slot.TheVariants.{In, Out}
use Rattle.host_io.specs.Slots.{Same, SameBut}
use Rattle.m386.specs.declared.refusals.Refusal.{Refusal}
use Rattle.m386.specs.declared.refusals.Refusal.TheVariants as refusals
use Rattle.m386.specs.declared.status.Status.{Status}
use Rattle.m386.specs.declared.status.Status.TheVariants.{Done, Memory, HostFault}
use Rattle.m386.specs.Slots.{Paths, NoneOpened, NoneOpenedBehind}
use Rattle.m386.specs.Refusals.{status_of}
use Rattle.m386.specs.Causes.{IsOpenedUpTo}

-- ---- behind a slot

pub none_behind : (slot : Slot) (p0 p1 : Paths) → NoneOpened p0 p1 → NoneOpenedBehind slot p0 p1
none_behind (In slot) p0 p1 none = (none Mem, none Save)
none_behind (Out Report) p0 p1 none = (none Mem, none Save)
none_behind (Out Mem) p0 p1 none = none Save
none_behind (Out Save) p0 p1 none = tt

pub behind_from : (slot : Slot) (p0 p1 p2 : Paths) → NoneOpened p0 p1 → NoneOpenedBehind slot p1 p2 → NoneOpenedBehind slot p0 p2
behind_from (In slot) p0 p1 p2 none behind = (behind.0 ∙ none Mem, behind.1 ∙ none Save)
behind_from (Out Report) p0 p1 p2 none behind = (behind.0 ∙ none Mem, behind.1 ∙ none Save)
behind_from (Out Mem) p0 p1 p2 none behind = behind ∙ none Save
behind_from (Out Save) p0 p1 p2 none behind = tt

-- the report alone may be opened in between
pub behind_then : (slot : Slot) (p0 p1 p2 : Paths) → NoneOpenedBehind slot p0 p1 → SameBut (Out Report) p1 p2 → NoneOpenedBehind slot p0 p2
behind_then (In slot) p0 p1 p2 behind but = (but (Out Mem) (λ is. cc) ∙ behind.0, but (Out Save) (λ is. cc) ∙ behind.1)
behind_then (Out Report) p0 p1 p2 behind but = (but (Out Mem) (λ is. cc) ∙ behind.0, but (Out Save) (λ is. cc) ∙ behind.1)
behind_then (Out Mem) p0 p1 p2 behind but = but (Out Save) (λ is. cc) ∙ behind
behind_then (Out Save) p0 p1 p2 behind but = tt

-- ---- by refusal

none_up_to : (refusal : Refusal) (p0 p1 : Paths) → NoneOpened p0 p1 → IsOpenedUpTo refusal p0 p1
none_up_to refusals.Memory p0 p1 none = none
none_up_to refusals.Words p0 p1 none = none
none_up_to (refusals.HostFault slot) p0 p1 none = none
none_up_to (refusals.Length slot n) p0 p1 none = none
none_up_to (refusals.Script n) p0 p1 none = none
none_up_to (refusals.Late slot) p0 p1 none = none_behind (Out slot) p0 p1 none
none_up_to refusals.Commands p0 p1 none = none_behind (In Commands) p0 p1 none
none_up_to refusals.TooLong p0 p1 none = none_behind (In Commands) p0 p1 none

pub none_result : {T : Type 0} (r : Result T Refusal) (p0 p1 : Paths) → NoneOpened p0 p1 → IfErr r (λ refusal. IsOpenedUpTo refusal p0 p1)
none_result (Ok x) p0 p1 none = tt
none_result (Err refusal) p0 p1 none = none_up_to refusal p0 p1 none

up_to_from : (refusal : Refusal) (p0 p1 p2 : Paths) → NoneOpened p0 p1 → IsOpenedUpTo refusal p1 p2 → IsOpenedUpTo refusal p0 p2
up_to_from refusals.Memory p0 p1 p2 none up = λ slot. up slot ∙ none slot
up_to_from refusals.Words p0 p1 p2 none up = λ slot. up slot ∙ none slot
up_to_from (refusals.HostFault slot) p0 p1 p2 none up = λ other. up other ∙ none other
up_to_from (refusals.Length slot n) p0 p1 p2 none up = λ other. up other ∙ none other
up_to_from (refusals.Script n) p0 p1 p2 none up = λ slot. up slot ∙ none slot
up_to_from (refusals.Late slot) p0 p1 p2 none up = behind_from (Out slot) p0 p1 p2 none up
up_to_from refusals.Commands p0 p1 p2 none up = behind_from (In Commands) p0 p1 p2 none up
up_to_from refusals.TooLong p0 p1 p2 none up = behind_from (In Commands) p0 p1 p2 none up

pub up_to_result : {T : Type 0} (r : Result T Refusal) (p0 p1 p2 : Paths) → NoneOpened p0 p1 → IfErr r (λ refusal. IsOpenedUpTo refusal p1 p2) → IfErr r (λ refusal. IsOpenedUpTo refusal p0 p2)
up_to_result (Ok x) p0 p1 p2 none up = tt
up_to_result (Err refusal) p0 p1 p2 none up = up_to_from refusal p0 p1 p2 none up

-- ---- the answer

pub unwritten : (refusal : Refusal) (status : Status) (p0 p1 p2 : Paths) → IsOpenedUpTo refusal p0 p1 → SameBut (Out Report) p1 p2 → status ≡ status_of refusal
    → status ≢ HostFault → NoneOpenedBehind (Out Report) p0 p2
unwritten refusals.Memory status p0 p1 p2 up but is calm = behind_then (Out Report) p0 p1 p2 (none_behind (Out Report) p0 p1 up) but
unwritten refusals.Words status p0 p1 p2 up but is calm = behind_then (Out Report) p0 p1 p2 (none_behind (Out Report) p0 p1 up) but
unwritten (refusals.HostFault slot) status p0 p1 p2 up but is calm = absurd (calm is)
unwritten (refusals.Length slot n) status p0 p1 p2 up but is calm = behind_then (Out Report) p0 p1 p2 (none_behind (Out Report) p0 p1 up) but
unwritten (refusals.Script n) status p0 p1 p2 up but is calm = behind_then (Out Report) p0 p1 p2 (none_behind (Out Report) p0 p1 up) but
unwritten (refusals.Late slot) status p0 p1 p2 up but is calm = absurd (calm is)
unwritten refusals.Commands status p0 p1 p2 up but is calm = absurd (calm is)
unwritten refusals.TooLong status p0 p1 p2 up but is calm = behind_then (Out Report) p0 p1 p2 up but

pub unopened : (refusal : Refusal) (status : Status) (p0 p1 p2 : Paths) → IsOpenedUpTo refusal p0 p1 → (refusal ≡ refusals.Memory → Same p1 p2) → status ≡ status_of refusal
    → status ≡ Memory → NoneOpened p0 p2
unopened refusals.Memory status p0 p1 p2 up same is memory = λ slot. same refl (Out slot) ∙ up slot
unopened refusals.Words status p0 p1 p2 up same is memory = cc
unopened (refusals.HostFault slot) status p0 p1 p2 up same is memory = cc
unopened (refusals.Length slot n) status p0 p1 p2 up same is memory = cc
unopened (refusals.Script n) status p0 p1 p2 up same is memory = cc
unopened (refusals.Late slot) status p0 p1 p2 up same is memory = cc
unopened refusals.Commands status p0 p1 p2 up same is memory = cc
unopened refusals.TooLong status p0 p1 p2 up same is memory = cc
