use Rattle.std.proofs.Common.{◌≡◌, ℕ, ◌+◌, ◌<◌, List, [], ◌∷◌, ◌++◌, length, take, drop, get_or, ap, sym, ◌∙◌, arith, length-append, length-drop}
use Rattle.std.proofs.lemmas.List.{take_more, get_or-drop}
use Rattle.m386.specs.Writing.{image_bytes}
use Rattle.m386.proofs.outputs.piece_at.Goals as goal

-- one more byte of a piece
byte_more : (bytes piece now : List ℕ) (at place byte : ℕ) → at + place < length bytes → piece ≡ take place (drop at bytes) → now ≡ piece ++ byte ∷ [] → byte ≡ get_or bytes (at + place) 0 → now ≡ take (place + 1) (drop at bytes)
byte_more bytes piece now at place byte inside is pushed same =
    pushed ∙ ap (λ (b : ℕ). piece ++ b ∷ []) (same ∙ sym (get_or-drop at bytes place 0)) ∙ ap (λ (p : List ℕ). p ++ get_or (drop at bytes) place 0 ∷ []) is
    ∙ sym (take_more (drop at bytes) place 0 (omega (arith, inside, length-drop at bytes)))

pub loop-place-preserved : goal.loop-place-preserved
loop-place-preserved c = record {
  piece = byte_more (image_bytes c.args.image c.args.pc.now) c.loop-place.piece.items c.push.new.self.items c.args.at c.loop-place.place c.image_byte.result
      (omega arith) c.loop-place.invariant.piece c.push.ensures.items c.image_byte.ensures;
  count = omega (arith, ap length c.push.ensures.items, length-append c.loop-place.piece.items (c.image_byte.result ∷ []), c.loop-place.invariant.count);
}
