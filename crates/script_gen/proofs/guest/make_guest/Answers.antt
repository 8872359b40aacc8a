use Rattle.script_gen.proofs.Making.{demo_made}
use Rattle.script_gen.proofs.guest.make_guest.Goals as goal

pub returns-clause-rom : goal.returns-clause-rom
returns-clause-rom c = demo_made c.args.number c.in_ok-rom.rom.items c.resize.new.self.items c.extend_from_slice.new.self.items c.resize-2.new.self.items
    c.in_ok-rom.rom.len c.extend_from_slice.new.self.len c.in_ok-rom.ensures c.in_ok-rom.rom.ok.0 c.extend_from_slice.new.self.ok.0
    c.in_ok-resize.ensures.items c.in_ok-extend_from_slice.ensures.items c.in_ok-resize-2.ensures.items
