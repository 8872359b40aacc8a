-- The demo guest is a ROM.
use Rattle.std.proofs.Common.{rules, ◌≡◌, ℕ, zero, suc, ◌+◌, ◌-◌, ◌*◌, ◌/◌, ◌%◌, ◌<◌, ◌≤◌, Bool, true, false, cond, List, ◌++◌, length, arith, append_assoc}
use Rattle.std.proofs.lemmas.List.{length-append, length-replicate, append-nil}
use Rattle.mdl_text.specs.Demo.{after_draw, after_three, item_of_kind, item, items, set_up, jump_back, code_of, rom_of, Demo}

-- ---- items

-- one item, and the rest of them
pub items_more : (before : List ℕ) (count done x : ℕ) → done < count → (before ++ item_of_kind (after_draw x / 65536 % 8) (after_draw (after_draw x) / 65536) (after_three x / 65536)) ++ items (count - (done + 1)) (after_three x) ≡ before ++ items (count - done) x
unfolding item items
items_more before count done x h =
    let left : count - done ≡ suc (count - (done + 1)) = omega arith in
    rw left (append_assoc before (item x) (items (count - (done + 1)) (after_three x)))

pub items_none : (before : List ℕ) (count x : ℕ) → before ++ items (count - count) x ≡ before
unfolding items
items_none before count x = let none : count - count ≡ 0 = omega arith in rw none (append-nil before)

short_choice : (b : Bool) (x y : List ℕ) → length x ≤ 6 → length y ≤ 6 → length (cond b x y) ≤ 6
short_choice true x y p q = p
short_choice false x y p q = q

short_item : (x : ℕ) → length (item x) ≤ 6
unfolding item
short_item x = search (rules, short_choice) depth 10

short_items : (count x : ℕ) → length (items count x) ≤ 6 * count
unfolding items
short_items zero x = omega arith
short_items (suc count) x =
    let first = short_item x in
    let rest = short_items count (after_three x) in
    omega (arith, length-append (item x) (items count (after_three x)))

pub room_for_items : (x : ℕ) → length (items 8192 x) ≤ 49152
room_for_items x = short_items 8192 x

-- ---- the ROM

rom_length : (code : List ℕ) → length code ≤ 0xFFF0 → length (rom_of code) ≡ 65536
rom_length code h =
    let filled = length-replicate {A = ℕ} (0xFFF0 - length code) 0xF4 in
    let end = length-replicate {A = ℕ} 11 0xF4 in
    simp (length-append, length-replicate {A = ℕ}) (omega arith)

pub code_length : (items : List ℕ) → length (code_of items) ≡ length items + 17
code_length items = omega (arith, length-append set_up (items ++ jump_back (length items)), length-append items (jump_back (length items)))

pub demo_length : (number : ℕ) → length (Demo number) ≡ 65536
unfolding Demo
demo_length number =
    let room = room_for_items number in
    let code = code_length (items 8192 number) in
    rom_length (code_of (items 8192 number)) (omega arith)
