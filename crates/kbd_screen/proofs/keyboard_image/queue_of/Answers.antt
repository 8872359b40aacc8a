use Rattle.std.proofs.Common.{◌≡◌, ◌++◌, ap, ◌∙◌, rules, List, ℕ}
use Rattle.std.proofs.lemmas.List.{take-append-drop}
use Rattle.mdl_dev.specs.KeyboardImage.{places_of}
use Rattle.kbd_screen.proofs.Places.{places_are_whole}
use Rattle.kbd_screen.proofs.keyboard_image.queue_of.Goals as goal

pub returns-clause-places : goal.returns-clause-places
returns-clause-places c =
    let cut = c.in_ok-waiting.ensures.cases in
    let items : c.try_extend_from_slice.new.self.items ≡ c.in_ok-waiting.waiting.now = c.in-Ok.ensures.ok ∙ ap (λ (xs : List ℕ). xs ++ c.in_ok-waiting.waiting.now) c.new-queue.ensures in
    let parts : c.in_ok-waiting.waiting.now ++ c.in_ok-waiting.free.now ≡ c.args.places.now = rw (cut.1, cut.2) (take-append-drop _ _) in
    let whole = places_are_whole c.in_ok-waiting.waiting.now c.in_ok-waiting.free.now c.args.places.now parts c.requires (c.are_free.ensures.0 (search rules)) in
    ap places_of items ∙ whole
