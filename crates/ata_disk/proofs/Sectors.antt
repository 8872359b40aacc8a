-- Sectors of a list of bytes: how many there are, which one stands where, and one put in place.
use Rattle.std.specs.Prelude.{ℕ, zero, suc, ◌≡◌, ◌≤◌, ◌<◌, ◌+◌, ◌*◌, ◌/◌, ◌%◌, refl, List, [], ◌∷◌, ◌++◌, length, take, drop, slice_index, slice_index_or, slice_set}
use Rattle.std.specs.List.{flat_map}
use Rattle.std.proofs.Common.{arith, ap, sym, ◌∙◌, append_assoc}
use Rattle.std.proofs.lemmas.List.{take-append-drop, get_or-take, get_or-drop, take-append-le, drop-append-le, take_at, drop_at, take-take, length-take, length-drop, length-append, drop-take, drop-drop}
use Rattle.mdl_dev.specs.DiskImage.{sectors_from, sectors_of}

pub length-sectors_from : (count : ℕ) (bytes : List ℕ) → length (sectors_from count bytes) ≡ count
length-sectors_from zero bytes = refl
length-sectors_from (suc count) bytes = let e = length-sectors_from count (drop 512 bytes) in omega (arith, e)

-- a disk has a sector for each 512 of its bytes
pub length-sectors_of : (bytes : List ℕ) → length (sectors_of bytes) ≡ length bytes / 512
unfolding sectors_of
length-sectors_of bytes = length-sectors_from (length bytes / 512) bytes

pub sector_from : (count k : ℕ) (bytes : List ℕ) → k < count → slice_index_or (sectors_from count bytes) k [] ≡ take 512 (drop (512 * k) bytes)
sector_from zero k bytes h = absurd (omega arith)
sector_from (suc count) zero bytes h = refl
sector_from (suc count) (suc k) bytes h =
    sector_from count k (drop 512 bytes) (omega arith) ∙ ap (take 512) (drop-drop (512 * k) 512 bytes ∙ ap (λ n. drop n bytes) (omega arith))

-- a byte stands in its sector
pub byte_in_sector : (bytes : List ℕ) (at : ℕ) → at < 512 * (length bytes / 512) → slice_index (slice_index_or (sectors_of bytes) (at / 512) []) (at % 512) ≡ slice_index bytes at
unfolding sectors_of
byte_in_sector bytes at h =
    let sector = sector_from (length bytes / 512) (at / 512) bytes (omega arith) in
    let whole : 512 * (at / 512) + at % 512 ≡ at = omega arith in
    rw sector (get_or-take 512 (drop (512 * (at / 512)) bytes) (at % 512) 0 (omega arith) ∙ get_or-drop (512 * (at / 512)) bytes (at % 512) 0 ∙ ap (slice_index bytes) whole)

-- the bytes of a list before a place, a block, and the bytes of the list behind it
abbrev pub put_at : List ℕ → ℕ → List ℕ → List ℕ
put_at bytes at block = take at bytes ++ block ++ drop (at + 512) bytes

first_put : (bytes block : List ℕ) → length block ≡ 512 → (take 512 (put_at bytes 0 block) ≡ block) × (drop 512 (put_at bytes 0 block) ≡ drop 512 bytes)
first_put bytes block full = (take_at block (drop 512 bytes) 512 full, drop_at block (drop 512 bytes) 512 full)

later_front : (bytes block : List ℕ) (at : ℕ) → 512 ≤ length bytes → take 512 (put_at bytes (512 + at) block) ≡ take 512 bytes
later_front bytes block at fits =
    let inside : 512 ≤ length (take (512 + at) bytes) = omega (arith, length-take (512 + at) bytes) in
    rw append_assoc (take-append-le 512 (take (512 + at) bytes) (block ++ drop (512 + at + 512) bytes) inside ∙ take-take 512 (512 + at) bytes (omega arith))

later_rest : (bytes block : List ℕ) (at : ℕ) → 512 + at ≤ length bytes → drop 512 (put_at bytes (512 + at) block) ≡ put_at (drop 512 bytes) at block
later_rest bytes block at fits =
    let inside : 512 ≤ length (take (512 + at) bytes) = omega (arith, length-take (512 + at) bytes) in
    let behind : drop (at + 512) (drop 512 bytes) ≡ drop (512 + at + 512) bytes = drop-drop (at + 512) 512 bytes ∙ ap (λ n. drop n bytes) (omega arith) in
    rw (append_assoc, behind, append_assoc) (drop-append-le 512 (take (512 + at) bytes) (block ++ drop (512 + at + 512) bytes) inside
    ∙ ap (λ front. front ++ (block ++ drop (512 + at + 512) bytes)) (drop-take 512 at bytes))

-- a sector's bytes put in place are a sector put in place
pub stored_from : (count k : ℕ) (bytes block : List ℕ) → k < count → 512 * count ≤ length bytes → length block ≡ 512 →
    sectors_from count (put_at bytes (512 * k) block) ≡ slice_set (sectors_from count bytes) k block
stored_from zero k bytes block h fits full = absurd (omega arith)
stored_from (suc count) zero bytes block h fits full =
    let p = first_put bytes block full in rw (p.0, p.1) refl
stored_from (suc count) (suc k) bytes block h fits full =
    let at : 512 * suc k ≡ 512 + 512 * k = omega arith in
    let front = later_front bytes block (512 * k) (omega arith) in
    let rest = later_rest bytes block (512 * k) (omega arith) in
    let more = stored_from count k (drop 512 bytes) block (omega arith) (omega (arith, length-drop 512 bytes)) full in
    rw (at, front, rest, more) refl

-- the bytes of a sector of a disk are its sector
pub sector_read : (bytes : List ℕ) (lba : ℕ) → lba < length bytes / 512 → take 512 (drop (512 * lba) bytes) ≡ slice_index_or (sectors_of bytes) lba []
unfolding sectors_of
sector_read bytes lba h = sym (sector_from (length bytes / 512) lba bytes h)

length-put_at : (bytes block : List ℕ) (at : ℕ) → at + 512 ≤ length bytes → length block ≡ 512 → length (put_at bytes at block) ≡ length bytes
length-put_at bytes block at fits full =
    simp (length-append, length-take, length-drop) (omega (arith, full))

-- a block put in the place of a sector's bytes is a sector put in place
pub sector_stored : (bytes block : List ℕ) (lba : ℕ) → lba < length bytes / 512 → length block ≡ 512 →
    sectors_of (put_at bytes (512 * lba) block) ≡ slice_set (sectors_of bytes) lba block
unfolding sectors_of
sector_stored bytes block lba h full =
    rw (length-put_at bytes block (512 * lba) (omega arith) full) (stored_from (length bytes / 512) lba bytes block h (omega arith) full)

joined_from : (count : ℕ) (bytes : List ℕ) → length bytes ≡ 512 * count → flat_map (λ sector. sector) (sectors_from count bytes) ≡ bytes
joined_from zero [] e = refl
joined_from zero (byte ∷ bytes) e = absurd (omega (arith, e))
joined_from (suc count) bytes e =
    rw (joined_from count (drop 512 bytes) (omega (arith, e, length-drop 512 bytes))) (take-append-drop 512 bytes)

-- the sectors of a whole number of them are its bytes again
pub sectors_joined : (bytes : List ℕ) → length bytes % 512 ≡ 0 → flat_map (λ sector. sector) (sectors_of bytes) ≡ bytes
unfolding sectors_of
sectors_joined bytes whole = joined_from (length bytes / 512) bytes (omega (arith, whole))

pub ruleset sector_laws = (length-sectors_of, byte_in_sector, sector_read, sector_stored)
