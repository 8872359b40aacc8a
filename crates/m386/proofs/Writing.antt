-- Lemmas on the outputs of a run: what they have behind each step, and why one is refused.
use Rattle.std.proofs.Common.{◌≡◌, ℕ, ◌+◌, ◌≤◌, List, [], ◌++◌, length, take, drop, Option, None, Some, refl, ap, sym, subst, ◌∙◌, arith}
use Rattle.std.specs.Io.KnownBytes.{Appends}
use Rattle.host_io.specs.declared.host.OutSlot.{OutSlot}
use Rattle.host_io.specs.declared.host.OutSlot.TheVariants.{Report, Mem, Save}
use Rattle.host_io.specs.declared.host.Slot.TheVariants.{Out}
use Rattle.host_io.specs.Slots.{Same, SameBut}
use Rattle.host_io.specs.Transfers.{AppendsPrefix}
use Rattle.m386.specs.declared.refusals.Refusal.{Refusal}
use Rattle.m386.specs.declared.refusals.Refusal.TheVariants as refusals
use Rattle.m386.specs.Slots.{Took, Gets, GetsPrefix, IsCutAt}
use Rattle.m386.specs.Writing.{IsReportRefused, IsImageRefused, IsWriteRefused}

-- the same behind steps that leave the outputs
pub cut_from : (texts : OutSlot → Option (List ℕ)) (t0 t1 t2 : Took) (slot : OutSlot) → Same t0 t1 → IsCutAt slot texts t1 t2 → IsCutAt slot texts t0 t2
cut_from texts t0 t1 t2 Report same cut = (subst (λ x. GetsPrefix (texts Report) x (t2 Report)) (same Report) cut.0, cut.1 ∙ same Mem, cut.2 ∙ same Save)
cut_from texts t0 t1 t2 Mem same cut = (subst (λ x. Gets (texts Report) x (t2 Report)) (same Report) cut.0, subst (λ x. GetsPrefix (texts Mem) x (t2 Mem)) (same Mem) cut.1, cut.2 ∙ same Save)
cut_from texts t0 t1 t2 Save same cut = (subst (λ x. Gets (texts Report) x (t2 Report)) (same Report) cut.0, subst (λ x. Gets (texts Mem) x (t2 Mem)) (same Mem) cut.1, subst (λ x. GetsPrefix (texts Save) x (t2 Save)) (same Save) cut.2)
