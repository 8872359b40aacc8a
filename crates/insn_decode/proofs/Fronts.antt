-- Bytes that came from a slice are its front.
use Rattle.std.proofs.Common.{◌≡◌, ℕ, ◌+◌, Bool, List, [], ◌∷◌, ◌++◌, length, take, refl, sym, ap, ◌∙◌, arith, append_assoc, Result}
use Rattle.std.proofs.lemmas.List.{append-nil, length-append, take_at}
use Rattle.mdl_state.specs.declared.Fault.{Fault}
use Rattle.mdl_insn.specs.declared.instruction.Insn.{Insn}
use Rattle.insn_decode.specs.Decoded.{Came, Takes, IsUndefined, IsLong, IsCut}
use Rattle.insn_decode.specs.Slices.{gives_byte, TakesFront, UndefinedAt, LongAt, ShortAt}

abbrev pub by_view : {S : Type 0} → (S → List ℕ) → S → Result ℕ Fault → S → Type 0
by_view view s r t = gives_byte (view s) r (view t)

came_front : {S : Type 0} (view : S → List ℕ) (s : S) (bytes : List ℕ) (e : S) → Came (by_view view) s bytes e → view s ≡ bytes ++ view e
came_front view s [] e h = ap view (sym h)
came_front view s (b ∷ bytes) e h = h.1 ∙ ap (λ (z : List ℕ). b ∷ z) (came_front view h.0 bytes e h.2)

pub takes_front : {S : Type 0} (view : S → List ℕ) (big : Bool) (s : S) (i : Insn) (len : ℕ) (e : S) → Takes (by_view view) big s i len e → TakesFront (view s) big i len
takes_front view big s i len e h =
    let w = came_front view s h.bytes e h.came in
    let l = ap length w ∙ length-append h.bytes (view e) in
    let n = h.len_is in
    record { spelt = rw (w, take_at h.bytes (view e) len h.len_is) h.spelt; inside = omega arith; within = h.within }

pub undefined_front : {S : Type 0} (view : S → List ℕ) (big : Bool) (s e : S) → IsUndefined (by_view view) big s e → UndefinedAt (view s) big
undefined_front view big s e h =
    let w = came_front view s (h.front ++ h.last ∷ []) e h.came in
    let l = ap length w ∙ length-append (h.front ++ h.last ∷ []) (view e) in
    let l2 = length-append h.front (h.last ∷ []) in
    let n : length h.front + 1 ≡ length (h.front ++ h.last ∷ []) = omega arith in
    let t1 : take (length h.front + 1) (view s) ≡ h.front ++ h.last ∷ [] = ap (take (length h.front + 1)) w ∙ take_at (h.front ++ h.last ∷ []) (view e) (length h.front + 1) (sym n) in
    let w2 : view s ≡ h.front ++ (h.last ∷ view e) = w ∙ append_assoc h.front (h.last ∷ []) (view e) in
    let t0 : take (length h.front) (view s) ≡ h.front = ap (take (length h.front)) w2 ∙ take_at h.front (h.last ∷ view e) (length h.front) refl in
    record {
      at = length h.front;
      inside = omega arith;
      within = h.within;
      begun = rw t0 h.begun;
      not_begun = rw t1 h.not_begun;
      not_spelt = rw t1 h.not_spelt;
    }

pub long_front : {S : Type 0} (view : S → List ℕ) (big : Bool) (s e : S) → IsLong (by_view view) big s e → LongAt (view s) big
long_front view big s e h =
    let w = came_front view s h.bytes e h.came in
    let l = ap length w ∙ length-append h.bytes (view e) in
    let n = h.len_is in
    let t : take 15 (view s) ≡ h.bytes = ap (take 15) w ∙ take_at h.bytes (view e) 15 h.len_is in
    record { inside = omega arith; begun = rw t h.begun }

pub short_front : {S : Type 0} (view : S → List ℕ) (big : Bool) (s : S) (f : Fault) (e : S) → IsCut (by_view view) big s f e → ShortAt (view s) big
short_front view big s f e h =
    let w : view s ≡ h.bytes = came_front view s h.bytes h.mid h.came ∙ ap (λ (z : List ℕ). h.bytes ++ z) h.fails.0 ∙ append-nil h.bytes in
    let n = h.within in
    let l = ap length w in
    record { within = omega arith; begun = rw w h.begun }
