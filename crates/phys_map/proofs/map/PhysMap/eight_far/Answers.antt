use Rattle.std.proofs.Common.{◌≡◌, ◌+◌, ◌<◌, ◌%◌, ℕ, length, List, false, Some, arith, sym, ap, ◌∙◌}
use Rattle.mdl_state.specs.State.{Physical}
use Rattle.mdl_state.specs.Memory.{is_ram, byte_at}
use Rattle.phys_map.specs.Rom.{rom_back}
use Rattle.phys_map.proofs.InRom.{byte_rom}
use Rattle.phys_map.proofs.map.PhysMap.eight_far.Goals as goal

pub returns-in-Some-clause-bytes : goal.returns-in-Some-clause-bytes
returns-in-Some-clause-bytes c = λ i small.
    let p : Physical = record { ram = c.self.inside.ram; rom = c.self.inside.rom.items; a20 = c.self.inside.a20 } in
    let rom : List ℕ = c.as_slice-rom.result.now in
    let out : ℕ = c.gated-out.result in
    let page : c.args.at % 0x1000 + i < 0x1000 = omega (arith, small, c.if-at-gt-LAST_WHOLE.false) in
    let away : is_ram (length p.ram) out ≡ false = sym (ap (λ (n : ℕ). is_ram n out) c.size.ensures) ∙ sym c.is_ram.ensures ∙ c.if-is_ram.false in
    let there : rom_back rom out ≡ Some c.in-Some.back = sym c.rom_back.ensures ∙ c.in-Some.is in
    ap (λ (q : Physical). byte_at q (c.args.at + i)) (sym c.self.view_is)
    ∙ byte_rom p c.args.at i c.in-Some.back out rom c.self.invariant page c.gated-out.ensures c.as_slice-rom.ensures.value c.gated-out.type_inv away there
    ∙ c.eight_at.ensures i small
