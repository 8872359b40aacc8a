use Rattle.std.proofs.Common.{rules, ◌≡◌, arith, sym, ◌∙◌}
use Rattle.mdl_text.specs.DemoLaws.{items_none}
use Rattle.script_gen.proofs.Making.{item_pushed}
use Rattle.script_gen.proofs.guest.push_items.Goals as goal

pub loop-preserved : goal.loop-preserved
loop-preserved c =
    item_pushed c.loop.rom.items c.push_item.new.rom.items c.args.count c.loop.counter c.loop.number
    c.after_draw-first.result c.after_draw-second.result c.after_draw-third.result
    c.drawn.result c.drawn-in-loop.result c.drawn-in-loop-2.result
    c.loop-test.true c.after_draw-first.ensures c.after_draw-second.ensures c.after_draw-third.ensures
    c.drawn.ensures c.drawn-in-loop.ensures c.drawn-in-loop-2.ensures
    (search rules)
    ∙ c.loop.invariant

pub returns : goal.returns
returns c =
    let end : c.loop.counter ≡ c.args.count = omega arith in
    sym (items_none c.loop.rom.items c.args.count c.loop.number) ∙ (rw end at c.loop.invariant)
