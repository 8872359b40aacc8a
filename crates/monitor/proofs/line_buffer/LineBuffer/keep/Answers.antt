use Rattle.std.proofs.Common.{◌≡◌, ◌∙◌, ◌-◌, List, ℕ, ◌++◌, Result, Ok, Err, IsOk, OnOk, arith, ap, min, length, take, length-take-le}
use Rattle.mdl_text.specs.CommandInput.{kept}
use Rattle.monitor.proofs.LineEnds.{kept_more}
use Rattle.monitor.proofs.line_buffer.LineBuffer.keep.Goals as goal

-- what an answer of Ok says, where there is one
ok_part : {A E : Type 0} (r : Result A E) (P : Type 0) → IsOk r → OnOk r P → P
ok_part (Ok x) P is on = on
ok_part (Err e) P is on = absurd (let e = is in cc)

pub returns : goal.returns
returns c =
    let same : c.min.result ≡ min (66 - length c.self.inside.bytes.items) (length c.args.more.now) = c.min.ensures ∙ ap (λ (n : ℕ). min (66 - n) (length c.args.more.now)) c.len-room.ensures.value in
    let value = c.len-room.ensures.value in
    let fits = c.len-room.ensures.fits in
    let whole = length-take-le c.min.result c.args.more.now (omega (arith, same)) in
    let extended = ok_part c.try_extend_from_slice.result _ (c.try_extend_from_slice.ensures.variant.1 (omega (arith, whole, same, value, fits))) c.try_extend_from_slice.ensures.ok in
    extended ∙ ap (λ (n : ℕ). c.self.inside.bytes.items ++ take n c.args.more.now) same
    ∙ kept_more c.self.inside.bytes.items c.args.more.now (omega (arith, value, fits))
    ∙ ap (λ (xs : List ℕ). kept (xs ++ c.args.more.now)) c.self.view_is
