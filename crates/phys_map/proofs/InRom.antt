-- Bytes of a page of the ROM are those of the ROM's list, one behind the other.
use Rattle.std.specs.Prelude.{ℕ, ◌≡◌, ◌<◌, ◌≤◌, ◌+◌, ◌-◌, ◌%◌, ◌^◌, Bool, true, false, refl, List, length, slice_index, Some}
use Rattle.std.proofs.Common.{arith, ap, sym, ◌∙◌}
use Rattle.mdl_state.specs.State.{Physical}
use Rattle.mdl_state.specs.Memory.{gated, is_ram, mapped_byte, byte_at, from_end, IsRomLength}
use Rattle.phys_map.specs.Sound.{IsSound}
use Rattle.phys_map.specs.Rom.{rom_back}
use Rattle.phys_map.proofs.Pages.{gated_more, gated_page, ram_more}

-- what the map has where the ROM is
mapped_rom : (ram rom : List ℕ) (at back : ℕ) → is_ram (length ram) at ≡ false → rom_back rom at ≡ Some back → mapped_byte ram rom at ≡ from_end rom back
mapped_rom ram rom at back out h = grind arith

-- an address of the ROM, and one behind it in its page
record Behind (rom : List ℕ) (at n back : ℕ) : Type 0 where
  there : rom_back rom (at + n) ≡ Some (back - n)
  fits : n < back
  inside : back ≤ length rom

behind : (rom : List ℕ) (at n back : ℕ) → IsRomLength (length rom) → at % 0x1000 + n < 0x1000 → at < 2 ^ 32 → rom_back rom at ≡ Some back → Behind rom at n back
behind rom at n back lengths page word h = grind arith

pub byte_rom : (p : Physical) (at n back out : ℕ) (rom : List ℕ) → IsSound p → at % 0x1000 + n < 0x1000 → out ≡ gated p.a20 at → rom ≡ p.rom → out < 2 ^ 32
    → is_ram (length p.ram) out ≡ false → rom_back rom out ≡ Some back → byte_at p (at + n) ≡ slice_index rom (length rom - back + n)
unfolding byte_at
byte_rom p at n back out rom sound page o r word away h =
    let here : out % 0x1000 + n < 0x1000 = rw o (rw (gated_page p.a20 at) page) in
    let lengths : IsRomLength (length rom) = rw r sound.rom in
    let b : Behind rom out n back = behind rom out n back lengths here word h in
    let place : length rom - (back - n) ≡ length rom - back + n = omega (arith, b.fits, b.inside) in
    ap (mapped_byte p.ram p.rom) (gated_more p.a20 at n page ∙ ap (λ (k : ℕ). k + n) (sym o))
    ∙ ap (λ (xs : List ℕ). mapped_byte p.ram xs (out + n)) (sym r)
    ∙ mapped_rom p.ram rom (out + n) (back - n) (ram_more (length p.ram) out n sound.ram.whole here ∙ away) b.there
    ∙ ap (slice_index rom) place

-- eight bytes of a page of the ROM are in the ROM
pub rom_fits : (p : Physical) (at back : ℕ) → IsSound p → at % 0x1000 + 8 ≤ 0x1000 → gated p.a20 at < 2 ^ 32 → rom_back p.rom (gated p.a20 at) ≡ Some back → (back ≤ length p.rom) × (8 ≤ back)
rom_fits p at back sound page word h =
    let here : gated p.a20 at % 0x1000 + 7 < 0x1000 = rw (gated_page p.a20 at) (omega (arith, page)) in
    let b : Behind p.rom (gated p.a20 at) 7 back = behind p.rom (gated p.a20 at) 7 back sound.rom here word h in
    (b.inside, omega (arith, b.fits))

-- below the end of the first megabyte the line A20 changes no address
ungated : (a20 : Bool) (at : ℕ) → at < 0x100000 → gated a20 at ≡ at
ungated true at h = refl
ungated false at h = omega arith

-- what the map has where the ROM is seen below the end of the first megabyte
mapped_low : (ram rom : List ℕ) (at back : ℕ) → at + back ≡ 0x100000 → 1 ≤ back → back ≤ 0x20000 → back ≤ length rom → mapped_byte ram rom at ≡ from_end rom back
mapped_low ram rom at back sum some low inside = grind arith

-- bytes of the ROM below the end of the first megabyte
pub low_rom : (p : Physical) (at n back : ℕ) (rom : List ℕ) → rom ≡ p.rom → at + back ≡ 0x100000 → n < back → back ≤ 0x20000 → back ≤ length rom → byte_at p (at + n) ≡ slice_index rom (length rom - back + n)
unfolding byte_at
low_rom p at n back rom r sum less low inside =
    let place : length rom - (back - n) ≡ length rom - back + n = omega (arith, less, inside) in
    ap (mapped_byte p.ram p.rom) (ungated p.a20 (at + n) (omega (arith, sum, less)))
    ∙ ap (λ (xs : List ℕ). mapped_byte p.ram xs (at + n)) (sym r)
    ∙ mapped_low p.ram rom (at + n) (back - n) (omega (arith, sum, less)) (omega (arith, less)) (omega (arith, low)) (omega (arith, inside))
    ∙ ap (slice_index rom) place
