-- Laws of held writes, and of the bytes that they hold.
use Rattle.std.specs.Prelude.{ℕ, zero, suc, ◌≡◌, ◌≤◌, ◌<◌, ◌+◌, ◌==◌, Bool, refl, if◌then◌else◌, Option, Some, None, List, [], ◌∷◌, ◌++◌, length}
use Rattle.std.specs.List.{All}
use Rattle.std.proofs.lemmas.List.Elements.{All-append}
use Rattle.std.proofs.Common.{arith, drop, drop-cons, get_or, ap, subst, sym, ◌∙◌, append_assoc, length-append}
use Rattle.mdl_state.specs.declared.Size.{Size}
use Rattle.mdl_state.specs.declared.Size.TheVariants.{B1, B2, B4}
use Rattle.mdl_state.specs.declared.Place.{Place}
use Rattle.mdl_state.specs.State.{Physical}
use Rattle.mdl_state.specs.Bytes.{bytes_of}
use Rattle.mdl_state.specs.Memory.{gated, placed, byte_at}
use Rattle.mdl_state.specs.Accesses.{byte_place, newest, seen_byte, got_from, held_bytes, all_placed}
use Rattle.mem_iface.specs.Numbers.{loaded, stored}
use Rattle.tlb.specs.declared.writes.HeldWrite.{HeldWrite}
use Rattle.tlb.specs.Held.{place_of, write_bytes, bytes_held, writes_of, IsHeldWrite, IsHeld, IsLater}

pub length-held_bytes : (place : Place) (size : Size) (value : ℕ) → length (held_bytes place size value) ≡ bytes_of size
unfolding held_bytes
length-held_bytes place B1 value = refl
length-held_bytes place B2 value = refl
length-held_bytes place B4 value = refl

-- a write more
pub bytes_held-more : (writes : List HeldWrite) (write : HeldWrite) → bytes_held (writes ++ write ∷ []) ≡ bytes_held writes ++ write_bytes write
bytes_held-more [] write = ends (write_bytes write)
  where
    ends : (xs : List (ℕ × ℕ)) → xs ++ [] ≡ xs
    ends [] = refl
    ends (x ∷ xs) = ap (λ (ys : List (ℕ × ℕ)). x ∷ ys) (ends xs)
bytes_held-more (first ∷ writes) write =
    ap (λ (ys : List (ℕ × ℕ)). write_bytes first ++ ys) (bytes_held-more writes write)
    ∙ sym (append_assoc (write_bytes first) (bytes_held writes) (write_bytes write))

-- no more writes than bytes
pub fewer_writes : (writes : List HeldWrite) → length writes ≤ length (bytes_held writes)
fewer_writes [] = omega arith
fewer_writes (write ∷ writes) =
    let more = fewer_writes writes in
    let here : 1 ≤ length (write_bytes write) = rw (length-held_bytes (place_of write) write.size write.value) (some write.size) in
    let all = length-append (write_bytes write) (bytes_held writes) in
    omega (arith, more, here, all)
  where
    some : (size : Size) → 1 ≤ bytes_of size
    some B1 = omega arith
    some B2 = omega arith
    some B4 = omega arith

-- a write fits wherever its bytes do
pub writes_fit : (writes : List HeldWrite) (bytes more : ℕ) → IsHeld writes bytes → length (bytes_held writes) + more ≤ 256 → 1 ≤ more → length writes < 256
writes_fit writes bytes more h room some = let few = fewer_writes writes in omega (arith, few, room, some)

pub newest-append : (a20 : Bool) (xs ys : List (ℕ × ℕ)) (at here : ℕ) → newest a20 (xs ++ ys) at here ≡ newest a20 ys at (newest a20 xs at here)
newest-append a20 [] ys at here = refl
newest-append a20 (x ∷ xs) ys at here = newest-append a20 xs ys at (if gated a20 x.0 == at then x.1 else here)

pub all_placed-append : (p : Physical) (xs ys : List (ℕ × ℕ)) → all_placed p (xs ++ ys) ≡ all_placed (all_placed p xs) ys
all_placed-append p [] ys = refl
all_placed-append p (x ∷ xs) ys = all_placed-append (placed p x.0 x.1) xs ys

-- on one page a place is an address
at_byte : (place : Place) (n cut : ℕ) → place.cut ≡ cut → n < cut → byte_place place n ≡ place.first + n
at_byte place n cut e h = grind arith

at_first : (place : Place) (cut : ℕ) → place.cut ≡ cut → 0 < cut → byte_place place 0 ≡ place.first
at_first place cut e h = at_byte place 0 cut e h ∙ (let same : place.first + 0 ≡ place.first = omega arith in same)

pub whole_placed : (p : Physical) (place : Place) (size : Size) (value : ℕ) → place.cut ≡ bytes_of size → all_placed p (held_bytes place size value) ≡ stored p place.first size value
unfolding held_bytes stored
whole_placed p place B1 value e = rw (at_first place 1 e (omega arith)) refl
whole_placed p place B2 value e = rw (at_first place 2 e (omega arith)) (rw (at_byte place 1 2 e (omega arith)) refl)
whole_placed p place B4 value e = rw (at_first place 4 e (omega arith)) (rw (at_byte place 1 4 e (omega arith)) (rw (at_byte place 2 4 e (omega arith)) (rw (at_byte place 3 4 e (omega arith)) refl)))

pub whole_got : (p : Physical) (place : Place) (size : Size) → place.cut ≡ bytes_of size → got_from p [] place size ≡ loaded p place.first size
unfolding got_from seen_byte loaded
whole_got p place B1 e = rw (at_first place 1 e (omega arith)) refl
whole_got p place B2 e = rw (at_first place 2 e (omega arith)) (rw (at_byte place 1 2 e (omega arith)) refl)
whole_got p place B4 e = rw (at_first place 4 e (omega arith)) (rw (at_byte place 1 4 e (omega arith)) (rw (at_byte place 2 4 e (omega arith)) (rw (at_byte place 3 4 e (omega arith)) refl)))

-- the bytes from a write on
from_write : (writes : List HeldWrite) (i : ℕ) (d : HeldWrite) → i < length writes → bytes_held (drop i writes) ≡ write_bytes (get_or writes i d) ++ bytes_held (drop (i + 1) writes)
from_write writes i d h = ap bytes_held (drop-cons writes i d h) ∙ (let next : suc i ≡ i + 1 = omega arith in ap (λ (n : ℕ). write_bytes (get_or writes i d) ++ bytes_held (drop n writes)) next)

pub newest_more : (a20 : Bool) (writes : List HeldWrite) (i : ℕ) (d : HeldWrite) (at here now : ℕ) → i < length writes → now ≡ newest a20 (write_bytes (get_or writes i d)) at here → newest a20 (bytes_held (drop (i + 1) writes)) at now ≡ newest a20 (bytes_held (drop i writes)) at here
newest_more a20 writes i d at here now h e = ap (newest a20 (bytes_held (drop (i + 1) writes)) at) e
    ∙ sym (ap (λ (bytes : List (ℕ × ℕ)). newest a20 bytes at here) (from_write writes i d h) ∙ newest-append a20 (write_bytes (get_or writes i d)) (bytes_held (drop (i + 1) writes)) at here)

pub put_more : (writes : List HeldWrite) (i : ℕ) (d : HeldWrite) (p q : Physical) → i < length writes → q ≡ all_placed p (write_bytes (get_or writes i d)) → all_placed q (bytes_held (drop (i + 1) writes)) ≡ all_placed p (bytes_held (drop i writes))
put_more writes i d p q h e = ap (λ (r : Physical). all_placed r (bytes_held (drop (i + 1) writes))) e
    ∙ sym (ap (all_placed p) (from_write writes i d h) ∙ all_placed-append p (write_bytes (get_or writes i d)) (bytes_held (drop (i + 1) writes)))

longer : (writes : List HeldWrite) (write : HeldWrite) → length (bytes_held (writes ++ write ∷ [])) ≡ length (bytes_held writes) + bytes_of write.size
longer writes write = ap length (bytes_held-more writes write) ∙ length-append (bytes_held writes) (write_bytes write)
    ∙ ap (λ (n : ℕ). length (bytes_held writes) + n) (length-held_bytes (place_of write) write.size write.value)

All-one : (write : HeldWrite) → IsHeldWrite write → All IsHeldWrite (write ∷ [])
All-one write w zero d h = w
All-one write w (suc k) d h = absurd (let h : suc k < 1 = h in omega (arith, h))

-- what is held with a write more
pub more_held : (writes next : List HeldWrite) (write : HeldWrite) (bytes more : ℕ) → IsHeld writes bytes → IsHeldWrite write → length (bytes_held writes) + bytes_of write.size ≤ 256 → next ≡ writes ++ write ∷ [] → more ≡ bytes_of write.size → IsHeld next (bytes + more)
more_held writes next write bytes more h w room n m = subst (λ (ws : List HeldWrite). IsHeld ws (bytes + more)) (sym n) (record {
  each = All-append IsHeldWrite writes (write ∷ []) h.each (All-one write w);
  count = let count = h.count in let all = longer writes write in omega (arith, m, count, all);
  room = let count = h.count in omega (arith, m, count, room);
})

-- and its bytes
pub more_bytes : (writes next : List HeldWrite) (write : HeldWrite) → next ≡ writes ++ write ∷ [] → bytes_held next ≡ bytes_held writes ++ write_bytes write
more_bytes writes next write n = ap bytes_held n ∙ bytes_held-more writes write

-- a write more is the last, whether it is the oldest or comes later
pub next_later : (o : Option HeldWrite) (w x : HeldWrite) (ws next : List HeldWrite) → o ≡ Some w → next ≡ ws ++ x ∷ [] → writes_of o next ≡ writes_of o ws ++ x ∷ []
next_later o w x ws next is e = subst (λ (p : Option HeldWrite). writes_of p next ≡ writes_of p ws ++ x ∷ []) (sym is) (ap (λ (ys : List HeldWrite). w ∷ ys) e)

pub next_oldest : (o : Option HeldWrite) (x : HeldWrite) (ws : List HeldWrite) → o ≡ None → IsLater o ws → x ∷ ws ≡ writes_of o ws ++ x ∷ []
next_oldest o x ws is none =
    let empty : ws ≡ [] = subst (λ (p : Option HeldWrite). IsLater p ws) is none in
    subst (λ (p : Option HeldWrite). x ∷ ws ≡ writes_of p ws ++ x ∷ []) (sym is) (subst (λ (ys : List HeldWrite). x ∷ ys ≡ ys ++ x ∷ []) (sym empty) refl)

later_all : (w : HeldWrite) (ws : List HeldWrite) → All IsHeldWrite (w ∷ ws) → All IsHeldWrite ws
later_all w ws h = λ k d below. h (suc k) d (omega (arith, below))

-- the writes behind the oldest
pub all_later : (o : Option HeldWrite) (w : HeldWrite) (ws slice : List HeldWrite) (bytes : ℕ) → IsHeld (writes_of o ws) bytes → o ≡ Some w → slice ≡ ws → All IsHeldWrite slice
all_later o w ws slice bytes h is same = subst (All IsHeldWrite) (sym same) (later_all w ws (subst (λ (p : Option HeldWrite). All IsHeldWrite (writes_of p ws)) is h.each))

pub both_placed : (o : Option HeldWrite) (w : HeldWrite) (ws slice : List HeldWrite) (p q r : Physical) (held : List (ℕ × ℕ)) → o ≡ Some w → slice ≡ ws → q ≡ all_placed p (write_bytes w) → r ≡ all_placed q (bytes_held slice) → bytes_held (writes_of o ws) ≡ held → r ≡ all_placed p held
both_placed o w ws slice p q r held is same first rest view =
    rest ∙ ap (λ (x : Physical). all_placed x (bytes_held slice)) first
    ∙ ap (λ (xs : List HeldWrite). all_placed (all_placed p (write_bytes w)) (bytes_held xs)) same
    ∙ sym (all_placed-append p (write_bytes w) (bytes_held ws))
    ∙ ap (λ (x : Option HeldWrite). all_placed p (bytes_held (writes_of x ws))) (sym is)
    ∙ ap (all_placed p) view

pub both_seen : (p : Physical) (o : Option HeldWrite) (w : HeldWrite) (ws slice : List HeldWrite) (out here first result at : ℕ) (held : List (ℕ × ℕ)) → o ≡ Some w → slice ≡ ws → out ≡ gated p.a20 at → here ≡ byte_at p at
    → first ≡ newest p.a20 (write_bytes w) out here → result ≡ newest p.a20 (bytes_held slice) out first → bytes_held (writes_of o ws) ≡ held → result ≡ seen_byte p held at
unfolding seen_byte
both_seen p o w ws slice out here first result at held is same gate byte one rest view =
    rest ∙ ap (newest p.a20 (bytes_held slice) out) one
    ∙ ap (λ (xs : List HeldWrite). newest p.a20 (bytes_held xs) out (newest p.a20 (write_bytes w) out here)) same
    ∙ sym (newest-append p.a20 (write_bytes w) (bytes_held ws) out here)
    ∙ ap (λ (x : Option HeldWrite). newest p.a20 (bytes_held (writes_of x ws)) out here) (sym is)
    ∙ ap (λ (xs : List (ℕ × ℕ)). newest p.a20 xs out here) view
    ∙ ap (λ (n : ℕ). newest p.a20 held n here) gate
    ∙ ap (newest p.a20 held (gated p.a20 at)) byte

pub none_seen : (p : Physical) (o : Option HeldWrite) (ws : List HeldWrite) (here at : ℕ) (held : List (ℕ × ℕ)) → o ≡ None → IsLater o ws → here ≡ byte_at p at → bytes_held (writes_of o ws) ≡ held → here ≡ seen_byte p held at
unfolding seen_byte
none_seen p o ws here at held is none byte view =
    let empty : ws ≡ [] = subst (λ (x : Option HeldWrite). IsLater x ws) is none in
    let nothing : held ≡ [] = sym view ∙ ap (λ (x : Option HeldWrite). bytes_held (writes_of x ws)) is ∙ ap bytes_held empty in
    byte ∙ ap (λ (xs : List (ℕ × ℕ)). newest p.a20 xs (gated p.a20 at) (byte_at p at)) (sym nothing)

append_none : (xs : List (ℕ × ℕ)) → xs ++ [] ≡ xs
append_none [] = refl
append_none (x ∷ xs) = ap (λ (ys : List (ℕ × ℕ)). x ∷ ys) (append_none xs)

-- the oldest write, where none came later
pub only_bytes : (o : Option HeldWrite) (w : HeldWrite) (ws : List HeldWrite) → o ≡ Some w → ws ≡ [] → bytes_held (writes_of o ws) ≡ write_bytes w
only_bytes o w ws is none =
    ap (λ (p : Option HeldWrite). bytes_held (writes_of p ws)) is ∙ ap (λ (xs : List HeldWrite). write_bytes w ++ bytes_held xs) none ∙ append_none (write_bytes w)

pub only_held : (o : Option HeldWrite) (w : HeldWrite) (ws : List HeldWrite) (bytes : ℕ) → IsHeld (writes_of o ws) bytes → o ≡ Some w → IsHeldWrite w
only_held o w ws bytes h is =
    let each : All IsHeldWrite (w ∷ ws) = subst (λ (p : Option HeldWrite). All IsHeldWrite (writes_of p ws)) is h.each in
    each 0 w (omega arith)
