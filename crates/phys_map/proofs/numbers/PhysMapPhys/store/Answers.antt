use Rattle.std.proofs.Common.{◌≡◌, ℕ, length, true, sym, ap, ◌∙◌}
use Rattle.mdl_state.specs.State.{Physical}
use Rattle.mdl_state.specs.Memory.{is_ram}
use Rattle.mem_iface.specs.Numbers.{stored}
use Rattle.phys_map.proofs.InRam.{stored_ram}
use Rattle.phys_map.proofs.numbers.PhysMapPhys.store.Goals as goal

pub returns-then-is_ram-clause-stored : goal.returns-then-is_ram-clause-stored
returns-then-is_ram-clause-stored c =
    let p : Physical = record { ram = c.self.inside.ram; rom = c.self.inside.rom.items; a20 = c.self.inside.a20 } in
    let inside : is_ram (length c.self.inside.ram) c.gated-out.result ≡ true =
    sym (ap (λ (n : ℕ). is_ram n c.gated-out.result) c.size.ensures) ∙ sym c.is_ram.ensures ∙ c.if-is_ram.true in
    stored_ram p c.args.at c.args.size c.args.value c.gated-out.result c.store-then-is_ram.new.self c.self.invariant c.requires.page c.gated-out.ensures inside c.store-then-is_ram.ensures.bytes
    ∙ ap (λ (q : Physical). stored q c.args.at c.args.size c.args.value) c.self.view_is
