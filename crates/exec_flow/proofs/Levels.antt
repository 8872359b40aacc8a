-- The frames of ENTER by their number.
use Rattle.std.proofs.Common.{◌≡◌, ◌≢◌, ℕ, zero, suc, ◌+◌, ◌-◌, refl, sym, subst, arith}
use Rattle.mdl_state.specs.declared.Size.{Size}
use Rattle.mdl_state.specs.declared.Seg.TheVariants.{Ss}
use Rattle.mdl_state.specs.declared.Regs.{Regs}
use Rattle.mdl_state.specs.Attempt.{Done, then_plan}
use Rattle.mdl_cpu.specs.Access.{load_from}
use Rattle.mdl_cpu.specs.Stack.{push_plan}
use Rattle.mdl_effect.specs.StackEffects.{below_frame, copy_frames, push_frames}

pub no_copy : (old r : Regs) (size : Size) (n count : ℕ) → count ≡ 0 → copy_frames old r size n count ≡ Done r
no_copy old r size n zero e = refl
no_copy old r size n (suc more) e = absurd (omega arith)

copy_as : (old r : Regs) (size : Size) (n more m : ℕ) → m ≡ more → copy_frames old r size n (suc more)
    ≡ then_plan (load_from r Ss (below_frame old size n) size) (λ value. then_plan (push_plan r size value) (λ q. copy_frames old q size (n + 1) m))
copy_as old r size n more m e = subst (λ (k : ℕ). copy_frames old r size n (suc more)
    ≡ then_plan (load_from r Ss (below_frame old size n) size) (λ value. then_plan (push_plan r size value) (λ q. copy_frames old q size (n + 1) k))) (sym e) refl

pub one_copy : (old r : Regs) (size : Size) (n count : ℕ) → count ≢ 0 → copy_frames old r size n count
    ≡ then_plan (load_from r Ss (below_frame old size n) size) (λ value. then_plan (push_plan r size value) (λ q. copy_frames old q size (n + 1) (count - 1)))
one_copy old r size n zero e = absurd (e refl)
one_copy old r size n (suc more) e = copy_as old r size n more (suc more - 1) (omega arith)

pub no_frame : (old r : Regs) (size : Size) (frame level : ℕ) → level ≡ 0 → push_frames old r size frame level ≡ Done r
no_frame old r size frame zero e = refl
no_frame old r size frame (suc more) e = absurd (omega arith)

frames_as : (old r : Regs) (size : Size) (frame more m : ℕ) → m ≡ more → push_frames old r size frame (suc more)
    ≡ then_plan (copy_frames old r size 1 m) (λ q. push_plan q size frame)
frames_as old r size frame more m e = rw e refl

pub some_frames : (old r : Regs) (size : Size) (frame level : ℕ) → level ≢ 0 → push_frames old r size frame level
    ≡ then_plan (copy_frames old r size 1 (level - 1)) (λ q. push_plan q size frame)
some_frames old r size frame zero e = absurd (e refl)
some_frames old r size frame (suc more) e = frames_as old r size frame more (suc more - 1) (omega arith)

pub ruleset levels = (no_copy, one_copy, no_frame, some_frames)
