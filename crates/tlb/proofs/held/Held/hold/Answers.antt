use Rattle.std.proofs.Common.{◌+◌, ◌++◌, ◌∷◌, [], ◌≤◌, length, ℕ, List, ap, sym, subst, ◌∙◌, length-append}
use Rattle.std.specs.Prelude.{Option}
use Rattle.mdl_state.specs.Bytes.{bytes_of}
use Rattle.mdl_state.specs.Accesses.{held_bytes, held_room}
use Rattle.tlb.specs.declared.writes.HeldWrite.{HeldWrite}
use Rattle.tlb.specs.Held.{bytes_held, writes_of, IsLater}
use Rattle.tlb.proofs.Holding.{more_held, more_bytes, next_later, next_oldest, length-held_bytes}
use Rattle.tlb.proofs.held.Held.hold.Goals as goal

pub invariant_of-self : goal.invariant_of-self
invariant_of-self c =
    let write : HeldWrite = record { first = c.args.place.first; second = c.args.place.second; value = c.args.value; cut = c.args.place.cut; size = c.args.size } in
    let inside = c.self.inside in
    let room : length (bytes_held (writes_of inside.oldest inside.later.items)) + bytes_of c.args.size ≤ held_room =
    subst (λ (bytes : List (ℕ × ℕ)). length bytes + bytes_of c.args.size ≤ held_room) (sym c.self.view_is) c.requires.room in (
      more_held (writes_of inside.oldest inside.later.items) (writes_of inside.oldest c.push.new.later.items) write inside.bytes c.bytes_of.result c.self.invariant.0
          (record { place = c.requires.place; value = c.requires.bound }) room
          (next_later inside.oldest c.in-Some.field-0 write inside.later.items c.push.new.later.items c.in-Some.is (c.push.ensures ∙ ap (λ (w : HeldWrite). inside.later.items ++ w ∷ []) c.new-write.ensures))
          c.bytes_of.ensures.value,
      subst (λ (o : Option HeldWrite). IsLater o c.push.new.later.items) (sym c.in-Some.is) tt,
    )

pub invariant_of-self-in-None : goal.invariant_of-self-in-None
invariant_of-self-in-None c =
    let write : HeldWrite = record { first = c.args.place.first; second = c.args.place.second; value = c.args.value; cut = c.args.place.cut; size = c.args.size } in
    let inside = c.self.inside in
    let room : length (bytes_held (writes_of inside.oldest inside.later.items)) + bytes_of c.args.size ≤ held_room =
    subst (λ (bytes : List (ℕ × ℕ)). length bytes + bytes_of c.args.size ≤ held_room) (sym c.self.view_is) c.requires.room in (
      more_held (writes_of inside.oldest inside.later.items) (c.new-write.result ∷ inside.later.items) write inside.bytes c.bytes_of.result c.self.invariant.0
          (record { place = c.requires.place; value = c.requires.bound }) room
          (ap (λ (w : HeldWrite). w ∷ inside.later.items) c.new-write.ensures ∙ next_oldest inside.oldest write inside.later.items c.in-None.is c.self.invariant.1)
          c.bytes_of.ensures.value,
      tt,
    )

pub returns-in-Some-clause-held : goal.returns-in-Some-clause-held
returns-in-Some-clause-held c =
    let write : HeldWrite = record { first = c.args.place.first; second = c.args.place.second; value = c.args.value; cut = c.args.place.cut; size = c.args.size } in
    let inside = c.self.inside in
    more_bytes (writes_of inside.oldest inside.later.items) (writes_of inside.oldest c.push.new.later.items) write
    (next_later inside.oldest c.in-Some.field-0 write inside.later.items c.push.new.later.items c.in-Some.is (c.push.ensures ∙ ap (λ (w : HeldWrite). inside.later.items ++ w ∷ []) c.new-write.ensures))
    ∙ ap (λ (bytes : List (ℕ × ℕ)). bytes ++ held_bytes c.args.place c.args.size c.args.value) c.self.view_is

pub returns-in-Some-clause-room : goal.returns-in-Some-clause-room
returns-in-Some-clause-room c =
    ap length (returns-in-Some-clause-held c) ∙ length-append c.args.self.now (held_bytes c.args.place c.args.size c.args.value)
    ∙ ap (λ (n : ℕ). length c.args.self.now + n) (length-held_bytes c.args.place c.args.size c.args.value)

pub returns-in-None-clause-held : goal.returns-in-None-clause-held
returns-in-None-clause-held c =
    let write : HeldWrite = record { first = c.args.place.first; second = c.args.place.second; value = c.args.value; cut = c.args.place.cut; size = c.args.size } in
    let inside = c.self.inside in
    more_bytes (writes_of inside.oldest inside.later.items) (c.new-write.result ∷ inside.later.items) write
    (ap (λ (w : HeldWrite). w ∷ inside.later.items) c.new-write.ensures ∙ next_oldest inside.oldest write inside.later.items c.in-None.is c.self.invariant.1)
    ∙ ap (λ (bytes : List (ℕ × ℕ)). bytes ++ held_bytes c.args.place c.args.size c.args.value) c.self.view_is

pub returns-in-None-clause-room : goal.returns-in-None-clause-room
returns-in-None-clause-room c =
    ap length (returns-in-None-clause-held c) ∙ length-append c.args.self.now (held_bytes c.args.place c.args.size c.args.value)
    ∙ ap (λ (n : ℕ). length c.args.self.now + n) (length-held_bytes c.args.place c.args.size c.args.value)
