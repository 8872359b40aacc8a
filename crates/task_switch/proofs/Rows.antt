-- Rows of numbers that are read and written: the first of them, and the rest.
use Rattle.std.proofs.Common.{◌≡◌, ℕ, zero, suc, refl, arith}
use Rattle.std.specs.Prelude.{◌+◌, ◌-◌, ◌%◌, ◌^◌, ◌<◌, ◌≤◌, List, slice_index, slice_set}
use Rattle.mdl_state.specs.declared.Size.{Size}
use Rattle.mdl_state.specs.declared.Who.TheVariants.{Tables}
use Rattle.mdl_state.specs.Bytes.{bound_of}
use Rattle.mdl_state.specs.State.{Mem}
use Rattle.mdl_state.specs.Serving.{Serve, Passed, on}
use Rattle.mdl_state.specs.Accesses.{read_at, written_at}
use Rattle.mdl_state.specs.Attempt.{tried}
use Rattle.mdl_cpu.specs.Tasks.{reads_plan, writes_plan}

pub reads_none : (serve : Serve) (count at : ℕ) (size : Size) (step place : ℕ) (image : List ℕ) (m : Mem) → count ≤ 0 → tried serve 0 (reads_plan count at size step place image) m ≡ (Passed image, m)
unfolding reads_plan
reads_none serve zero at size step place image m h = refl
reads_none serve (suc count) at size step place image m h = absurd (omega (arith, h))

pub reads_more : (serve : Serve) (count at : ℕ) (size : Size) (step place : ℕ) (image : List ℕ) (m : Mem) → 0 < count
    → tried serve 0 (reads_plan count at size step place image) m
    ≡ on (read_at serve m at size Tables) (λ value n. tried serve 0 (reads_plan (count - 1) ((at + step) % 2 ^ 32) size step (place + 1) (slice_set image place value)) n)
unfolding reads_plan
reads_more serve zero at size step place image m h = absurd (omega (arith, h))
reads_more serve (suc count) at size step place image m h = let e : suc count - 1 ≡ count = omega arith in rw e refl

pub writes_none : (serve : Serve) (count at : ℕ) (size : Size) (step place : ℕ) (image : List ℕ) (m : Mem) → count ≤ 0 → tried serve 0 (writes_plan count at size step place image) m ≡ (Passed tt, m)
unfolding writes_plan
writes_none serve zero at size step place image m h = refl
writes_none serve (suc count) at size step place image m h = absurd (omega (arith, h))

pub writes_more : (serve : Serve) (count at : ℕ) (size : Size) (step place : ℕ) (image : List ℕ) (m : Mem) → 0 < count
    → tried serve 0 (writes_plan count at size step place image) m
    ≡ on (written_at serve m at size (slice_index image place % bound_of size) Tables) (λ _ n. tried serve 0 (writes_plan (count - 1) ((at + step) % 2 ^ 32) size step (place + 1) image) n)
unfolding writes_plan
writes_more serve zero at size step place image m h = absurd (omega (arith, h))
writes_more serve (suc count) at size step place image m h = let e : suc count - 1 ≡ count = omega arith in rw e refl

pub ruleset rows = (reads_none, reads_more, writes_none, writes_more)
