use Rattle.std.proofs.Common.{rules, ◌-◌}
use Rattle.script_gen.proofs.Making.{room_to_jump, code_made}
use Rattle.script_gen.proofs.guest.code_of.Goals as goal

pub push_jump-requires : goal.push_jump-requires
push_jump-requires c = room_to_jump c.args.number c.len-bytes.result c.extend_from_slice.new.self.items c.push_items.new.rom.items (search rules) (search rules) (search rules)

pub returns : goal.returns
returns c = code_made c.args.number (c.len-bytes.result - 14) c.extend_from_slice.new.self.items c.push_items.new.rom.items c.push_jump.new.rom.items (search rules) (search rules) (search rules) (search rules)
