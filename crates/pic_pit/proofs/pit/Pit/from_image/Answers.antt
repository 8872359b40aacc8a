use Rattle.std.proofs.Common.{sym, ◌∙◌}
use Rattle.pic_pit.proofs.Images.{image_of_bytes}
use Rattle.pic_pit.proofs.pit.Pit.from_image.Goals as goal

pub returns-then-is_counter_image-3-clause-image :
    goal.returns-then-is_counter_image-3-clause-image
returns-then-is_counter_image-3-clause-image c = image_of_bytes c.args.bytes.now
    (record { counter0 = c.counter_at.result; counter1 = c.counter_at-then-is_counter_image-3.result; counter2 = c.counter_at-then-is_counter_image-3-2.result; gate2 = c.args.gate2 })
    c.told-bytes c.fits-bytes
    (sym c.is_counter_image.ensures ∙ c.if-is_counter_image.true)
    (sym c.is_counter_image-then-is_counter_image.ensures ∙ c.if-is_counter_image-2.true)
    (sym c.is_counter_image-then-is_counter_image-2.ensures ∙ c.if-is_counter_image-3.true)
    c.counter_at.ensures
    c.counter_at-then-is_counter_image-3.ensures
    c.counter_at-then-is_counter_image-3-2.ensures
