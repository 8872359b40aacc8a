-- A number in RAM is that of RAM's list.
use Rattle.std.specs.Prelude.{ℕ, ◌≡◌, ◌<◌, ◌≤◌, ◌+◌, ◌/◌, ◌%◌, Bool, true, false, refl, List, length, slice_index, slice_set}
use Rattle.std.proofs.Common.{arith, ap, sym, subst, ◌∙◌}
use Rattle.std.proofs.lemmas.List.{length-set}
use Rattle.mdl_state.specs.declared.Size.{Size}
use Rattle.mdl_state.specs.declared.Size.TheVariants.{B1, B2, B4}
use Rattle.mdl_state.specs.State.{Physical}
use Rattle.mdl_state.specs.Bytes.{bytes_of, number_at, with_bytes, little_bytes}
use Rattle.mdl_state.specs.Memory.{gated, is_ram, byte_at, placed, IsRamLength}
use Rattle.mem_iface.specs.Numbers.{loaded, stored, InPage}
use Rattle.phys_map.specs.Sound.{IsSound}
use Rattle.phys_map.specs.SoundLaws.{set_blank}
use Rattle.phys_map.proofs.Pages.{gated_more, gated_page, ram_more}

-- so many bytes in a page of RAM lie in RAM
pub fits : (p : Physical) (at n : ℕ) → IsSound p → at % 0x1000 + n ≤ 0x1000 → is_ram (length p.ram) (gated p.a20 at) ≡ true → gated p.a20 at + n ≤ length p.ram
fits p at n sound page h = in_list (length p.ram) (gated p.a20 at) n sound.ram (rw (gated_page p.a20 at) page) h
  where
    in_list : (size at n : ℕ) → IsRamLength size → at % 0x1000 + n ≤ 0x1000 → is_ram size at ≡ true → at + n ≤ size
    in_list size at n lengths page h = let least : 0x100000 ≤ size = lengths.least in let whole : size % 0x100000 ≡ 0 = lengths.whole in grind arith

-- an access in a page of RAM lies in RAM
pub ram_fits : (p : Physical) (at : ℕ) (size : Size) → IsSound p → InPage at size → is_ram (length p.ram) (gated p.a20 at) ≡ true → gated p.a20 at + bytes_of size ≤ length p.ram
ram_fits p at size sound page h = fits p at (bytes_of size) sound page h

in_ram : (p : Physical) (at n : ℕ) → IsSound p → at % 0x1000 + n < 0x1000 → is_ram (length p.ram) (gated p.a20 at) ≡ true → is_ram (length p.ram) (gated p.a20 (at + n)) ≡ true
in_ram p at n sound page h = ap (is_ram (length p.ram)) (gated_more p.a20 at n page) ∙ ram_more (length p.ram) (gated p.a20 at) n sound.ram.whole (rw (gated_page p.a20 at) page) ∙ h

pub byte_ram : (p : Physical) (at n : ℕ) → IsSound p → at % 0x1000 + n < 0x1000 → is_ram (length p.ram) (gated p.a20 at) ≡ true → byte_at p (at + n) ≡ slice_index p.ram (gated p.a20 at + n)
unfolding byte_at
byte_ram p at n sound page h = rw (in_ram p at n sound page h) (ap (slice_index p.ram) (gated_more p.a20 at n page))

first_ram : (p : Physical) (at : ℕ) → is_ram (length p.ram) (gated p.a20 at) ≡ true → byte_at p at ≡ slice_index p.ram (gated p.a20 at)
unfolding byte_at
first_ram p at h = rw h refl

two : (n : ℕ) → n + 1 + 1 ≡ n + 2
two n = omega arith

three : (n : ℕ) → n + 1 + 1 + 1 ≡ n + 3
three n = omega arith

pub loaded_ram : (p : Physical) (at : ℕ) (size : Size) → IsSound p → InPage at size → is_ram (length p.ram) (gated p.a20 at) ≡ true → loaded p at size ≡ number_at p.ram (gated p.a20 at) size
unfolding loaded
loaded_ram p at B1 sound page h = let first : byte_at p at ≡ slice_index p.ram (gated p.a20 at) = first_ram p at h in omega arith
loaded_ram p at B2 sound page h =
    let first : byte_at p at ≡ slice_index p.ram (gated p.a20 at) = first_ram p at h in
    let second : byte_at p (at + 1) ≡ slice_index p.ram (gated p.a20 at + 1) = byte_ram p at 1 sound (omega (arith, page)) h in
    omega arith
loaded_ram p at B4 sound page h =
    let first : byte_at p at ≡ slice_index p.ram (gated p.a20 at) = first_ram p at h in
    let second : byte_at p (at + 1) ≡ slice_index p.ram (gated p.a20 at + 1) = byte_ram p at 1 sound (omega (arith, page)) h in
    let third : byte_at p (at + 2) ≡ slice_index p.ram (gated p.a20 at + 1 + 1) = rw (two (gated p.a20 at)) (byte_ram p at 2 sound (omega (arith, page)) h) in
    let fourth : byte_at p (at + 3) ≡ slice_index p.ram (gated p.a20 at + 1 + 1 + 1) = rw (three (gated p.a20 at)) (byte_ram p at 3 sound (omega (arith, page)) h) in
    omega arith

-- RAM with a byte set stays sound
set_sound : (p : Physical) (at byte : ℕ) → IsSound p → is_ram (length p.ram) at ≡ true → IsSound (record p { ram = slice_set p.ram at byte })
set_sound p at byte sound h = record {
  ram = rw (length-set p.ram at byte) sound.ram;
  rom = sound.rom;
  blank = set_blank p.ram (length p.ram) at byte h sound.blank;
}

first_placed : (p : Physical) (at byte : ℕ) → is_ram (length p.ram) (gated p.a20 at) ≡ true → placed p at byte ≡ record p { ram = slice_set p.ram (gated p.a20 at) byte }
unfolding placed
first_placed p at byte h = rw h refl

placed_ram : (p : Physical) (at n byte : ℕ) → IsSound p → at % 0x1000 + n < 0x1000 → is_ram (length p.ram) (gated p.a20 at) ≡ true → placed p (at + n) byte ≡ record p { ram = slice_set p.ram (gated p.a20 at + n) byte }
unfolding placed
placed_ram p at n byte sound page h = rw (in_ram p at n sound page h) (ap (λ (i : ℕ). record p { ram = slice_set p.ram i byte }) (gated_more p.a20 at n page))

-- the second is the first with this list of RAM, and sound
pub record Became (p : Physical) (ram : List ℕ) (q : Physical) : Type 0 where
  pub same : q ≡ record p { ram = ram }
  pub sound : IsSound (record p { ram = ram })
  pub length : length ram ≡ length p.ram

first : (p : Physical) (at byte : ℕ) → IsSound p → is_ram (length p.ram) (gated p.a20 at) ≡ true → Became p (slice_set p.ram (gated p.a20 at) byte) (placed p at byte)
first p at byte sound h = record {
  same = first_placed p at byte h;
  sound = set_sound p (gated p.a20 at) byte sound h;
  length = length-set p.ram (gated p.a20 at) byte;
}

more : (p : Physical) (at n byte : ℕ) (ram : List ℕ) (q : Physical) → at % 0x1000 + n < 0x1000 → is_ram (length p.ram) (gated p.a20 at) ≡ true → Became p ram q → Became p (slice_set ram (gated p.a20 at + n) byte) (placed q (at + n) byte)
more p at n byte ram q page h t =
    let r : Physical = record p { ram = ram } in
    let inside : is_ram (length ram) (gated p.a20 at) ≡ true = rw t.length h in
    let there : is_ram (length ram) (gated p.a20 at + n) ≡ true = ram_more (length ram) (gated p.a20 at) n t.sound.ram.whole (rw (gated_page p.a20 at) page) ∙ inside in
    record {
      same = ap (λ (r : Physical). placed r (at + n) byte) t.same ∙ placed_ram r at n byte t.sound page inside;
      sound = set_sound r (gated p.a20 at + n) byte t.sound there;
      length = length-set ram (gated p.a20 at + n) byte ∙ t.length;
    }

four : (ram : List ℕ) (out value : ℕ) → slice_set (slice_set (slice_set (slice_set ram out (value % 0x100)) (out + 1) (value / 0x100 % 0x100)) (out + 2) (value / 0x10000 % 0x100)) (out + 3) (value / 0x1000000 % 0x100) ≡ with_bytes ram out (little_bytes 4 value)
four ram out value =
    let two : out + 1 + 1 ≡ out + 2 = omega arith in
    let three : out + 2 + 1 ≡ out + 3 = omega arith in
    let third : value / 0x100 / 0x100 ≡ value / 0x10000 = omega arith in
    let fourth : value / 0x10000 / 0x100 ≡ value / 0x1000000 = omega arith in
    rw two (rw three (rw third (rw fourth refl)))

-- a number stored in a page of RAM
stored_became : (p : Physical) (at : ℕ) (size : Size) (value : ℕ) → IsSound p → InPage at size → is_ram (length p.ram) (gated p.a20 at) ≡ true → Became p (with_bytes p.ram (gated p.a20 at) (little_bytes (bytes_of size) value)) (stored p at size value)
unfolding stored
stored_became p at B1 value sound page h = first p at (value % 0x100) sound h
stored_became p at B2 value sound page h = more p at 1 (value / 0x100 % 0x100) _ _ (omega (arith, page)) h (first p at (value % 0x100) sound h)
stored_became p at B4 value sound page h =
    let q : Physical = stored p at B4 value in
    subst (λ (ram : List ℕ). Became p ram q) (four p.ram (gated p.a20 at) value)
    (more p at 3 (value / 0x1000000 % 0x100) _ _ (omega (arith, page)) h
    (more p at 2 (value / 0x10000 % 0x100) _ _ (omega (arith, page)) h
    (more p at 1 (value / 0x100 % 0x100) _ _ (omega (arith, page)) h
    (first p at (value % 0x100) sound h))))

pub stored_ram : (p : Physical) (at : ℕ) (size : Size) (value out : ℕ) (ram : List ℕ) → IsSound p → InPage at size → out ≡ gated p.a20 at → is_ram (length p.ram) out ≡ true → ram ≡ with_bytes p.ram out (little_bytes (bytes_of size) value) → record p { ram = ram } ≡ stored p at size value
stored_ram p at size value out ram sound page o h r =
    ap (λ (ram : List ℕ). record p { ram = ram }) (r ∙ ap (λ (i : ℕ). with_bytes p.ram i (little_bytes (bytes_of size) value)) o)
    ∙ sym (stored_became p at size value sound page (ap (is_ram (length p.ram)) (sym o) ∙ h)).same

pub stored_sound : (p : Physical) (at : ℕ) (size : Size) (value : ℕ) → IsSound p → InPage at size → is_ram (length p.ram) (gated p.a20 at) ≡ true → IsSound (record p { ram = with_bytes p.ram (gated p.a20 at) (little_bytes (bytes_of size) value) })
stored_sound p at size value sound page h = (stored_became p at size value sound page h).sound

-- below the end of conventional memory stands RAM, whatever the line A20 is
ungated : (a20 : Bool) (at : ℕ) → at < 0xA0000 → gated a20 at ≡ at
ungated true at h = refl
ungated false at h = omega arith

low : (size at : ℕ) → at < 0xA0000 → is_ram size at ≡ true
low size at h = grind arith

there : (p : Physical) (at : ℕ) → at < 0xA0000 → is_ram (length p.ram) (gated p.a20 at) ≡ true
there p at h = rw (ungated p.a20 at h) (low (length p.ram) at h)

pub conventional : (p : Physical) (at : ℕ) → at < 0xA0000 → byte_at p at ≡ slice_index p.ram at
conventional p at h = first_ram p at (there p at h) ∙ ap (slice_index p.ram) (ungated p.a20 at h)

pub loaded_conventional : (p : Physical) (at : ℕ) (size : Size) → at + bytes_of size ≤ 0xA0000 → loaded p at size ≡ number_at p.ram at size
unfolding loaded
loaded_conventional p at B1 low = let first : byte_at p at ≡ slice_index p.ram at = conventional p at (omega (arith, low)) in omega arith
loaded_conventional p at B2 low =
    let first : byte_at p at ≡ slice_index p.ram at = conventional p at (omega (arith, low)) in
    let second : byte_at p (at + 1) ≡ slice_index p.ram (at + 1) = conventional p (at + 1) (omega (arith, low)) in
    omega arith
loaded_conventional p at B4 low =
    let first : byte_at p at ≡ slice_index p.ram at = conventional p at (omega (arith, low)) in
    let second : byte_at p (at + 1) ≡ slice_index p.ram (at + 1) = conventional p (at + 1) (omega (arith, low)) in
    let third : byte_at p (at + 2) ≡ slice_index p.ram (at + 1 + 1) = rw (two at) (conventional p (at + 2) (omega (arith, low))) in
    let fourth : byte_at p (at + 3) ≡ slice_index p.ram (at + 1 + 1 + 1) = rw (three at) (conventional p (at + 3) (omega (arith, low))) in
    omega arith

pub some_ram : (p : Physical) → IsSound p → 0xA0000 ≤ length p.ram
some_ram p sound = let least : 0x100000 ≤ length p.ram = sound.ram.least in omega arith

-- a number stored there
pub low_fits : (p : Physical) (at : ℕ) (size : Size) → IsSound p → InPage at size → at < 0xA0000 → at + bytes_of size ≤ length p.ram
low_fits p at size sound page h = subst (λ (i : ℕ). i + bytes_of size ≤ length p.ram) (ungated p.a20 at h) (ram_fits p at size sound page (there p at h))

pub low_stored : (p : Physical) (at : ℕ) (size : Size) (value : ℕ) (ram : List ℕ) → IsSound p → InPage at size → at < 0xA0000 → ram ≡ with_bytes p.ram at (little_bytes (bytes_of size) value) → record p { ram = ram } ≡ stored p at size value
low_stored p at size value ram sound page h r = stored_ram p at size value at ram sound page (sym (ungated p.a20 at h)) (low (length p.ram) at h) r

pub low_sound : (p : Physical) (at : ℕ) (size : Size) (value : ℕ) → IsSound p → InPage at size → at < 0xA0000 → IsSound (record p { ram = with_bytes p.ram at (little_bytes (bytes_of size) value) })
low_sound p at size value sound page h = subst (λ (i : ℕ). IsSound (record p { ram = with_bytes p.ram i (little_bytes (bytes_of size) value) })) (ungated p.a20 at h) (stored_sound p at size value sound page (there p at h))
