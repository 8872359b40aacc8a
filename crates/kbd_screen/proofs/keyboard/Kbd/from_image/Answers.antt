use Rattle.std.proofs.Common.{◌≡◌, ◌∙◌, false, true, sym, ap, rules, Some}
use Rattle.kbd_screen.proofs.Images.{image_is_one}
use Rattle.kbd_screen.proofs.keyboard.Kbd.from_image.Goals as goal

pub returns-in_err-queue-clause-ranges : goal.returns-in_err-queue-clause-ranges
returns-in_err-queue-clause-ranges c = (
  search rules,
  λ i.
      let taken : false ≡ true = c.in_err-queue.ensures.some.1 (i.waiting, rw c.places_in.ensures i.free) in
      cc,
)

pub returns-clause-image : goal.returns-clause-image
returns-clause-image c = search rules

pub returns-clause-same : goal.returns-clause-same
returns-clause-same c = λ k h. ap Some (image_is_one _ k (returns-clause-image c ∙ sym h))
