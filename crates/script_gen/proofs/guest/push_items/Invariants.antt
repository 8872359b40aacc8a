use Rattle.std.proofs.Common.{◌≡◌, ◌++◌, ◌-◌}
use Rattle.mdl_text.specs.Demo.{items}
use Rattle.script_gen.proofs.guest.push_items.Given as goal

-- the items so far and those to come
abbrev pub invariant-loop : goal.invariant-loop
invariant-loop l = l.rom.items ++ items (l.count - l.counter) l.number ≡ l.fn.rom.items ++ items l.count l.fn.number
