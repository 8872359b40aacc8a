use Rattle.std.proofs.Common.{◌≡◌, ◌≤◌, ◌+◌, ℕ, ◌++◌, List, length, take, Option, None, Some, sym, subst, ap, arith, length-append}
use Rattle.std.proofs.Math.Seq.{drop-append_seam}
use Rattle.std.proofs.lemmas.Grind.{common_steps}
use Rattle.std.proofs.KnownBytes.{Consumes-trans}
use Rattle.std.specs.Io.KnownBytes.{Consumes}
use Rattle.host_io.specs.Transfers.{Takes}
use Rattle.host_io.proofs.transfers.read_all.Goals as goal

-- an input that lost these bytes lost as many
takes_bytes : (a b : Option (List ℕ)) (xs : List ℕ) → Consumes a b xs → Takes (length xs) a b
takes_bytes None b xs p = tt
takes_bytes (Some x) None xs p = absurd p
takes_bytes (Some x) (Some y) xs p = rw p (ap Some (sym (drop-append_seam xs y)))

pub returns-then-is_err-clause-taken : goal.returns-then-is_err-clause-taken
returns-then-is_err-clause-taken g c =
    let bytes = c.loop-slot.bytes.items in
    let next = take c.in-Ok.count c.read.new.buffer in (
      length (bytes ++ next),
      grind (arith, common_steps, length-append bytes next, c.in-Ok.ensures.bound),
      takes_bytes _ _ (bytes ++ next) (Consumes-trans _ _ _ bytes next c.loop-slot.invariant.taken c.in-Ok.ensures.bytes.0),
    )

pub returns-then-is_err-clause-within : goal.returns-then-is_err-clause-within
returns-then-is_err-clause-within g c =
    let bytes = c.loop-slot.bytes.items in
    let next = take c.in-Ok.count c.read.new.buffer in
    let within : length (bytes ++ next) ≤ c.args.limit = grind (arith, common_steps, length-append bytes next, c.in-Ok.ensures.bound, c.if-len-count.false) in
    λ differs. (length (bytes ++ next), within, takes_bytes _ _ (bytes ++ next) (Consumes-trans _ _ _ bytes next c.loop-slot.invariant.taken c.in-Ok.ensures.bytes.0))

pub returns-then-len-count-clause-taken : goal.returns-then-len-count-clause-taken
returns-then-len-count-clause-taken g c =
    let bytes = c.loop-slot.bytes.items in
    let next = take c.in-Ok.count c.read.new.buffer in (
      length (bytes ++ next),
      grind (arith, common_steps, length-append bytes next, c.in-Ok.ensures.bound),
      takes_bytes _ _ (bytes ++ next) (Consumes-trans _ _ _ bytes next c.loop-slot.invariant.taken c.in-Ok.ensures.bytes.0),
    )

pub returns-then-len-count-clause-one_over : goal.returns-then-len-count-clause-one_over
returns-then-len-count-clause-one_over g c =
    let bytes = c.loop-slot.bytes.items in
    let next = take c.in-Ok.count c.read.new.buffer in
    let count : length (bytes ++ next) ≡ c.args.limit + 1 = grind (arith, common_steps, length-append bytes next, c.in-Ok.ensures.bound, c.if-len-count.true) in
    λ is. subst (λ (n : ℕ). Takes n (g.H.Host.left c.args.host.now c.args.slot) (g.H.Host.left c.read.new.self c.args.slot)) count
    (takes_bytes _ _ (bytes ++ next) (Consumes-trans _ _ _ bytes next c.loop-slot.invariant.taken c.in-Ok.ensures.bytes.0))
