-- The parameters of a call gate, one by one.
use Rattle.std.specs.Prelude.{◌≡◌, ℕ, zero, suc, ◌-◌, ◌<◌, ◌≤◌, refl}
use Rattle.std.proofs.Common.{arith}
use Rattle.mdl_state.specs.declared.Size.{Size}
use Rattle.mdl_state.specs.declared.Regs.{Regs}
use Rattle.mdl_state.specs.State.{Mem}
use Rattle.mdl_state.specs.Serving.{Serve, Passed, on}
use Rattle.mdl_state.specs.Attempt.{tried}
use Rattle.mdl_state.specs.AttemptLaws.{tried-then_plan}
use Rattle.mdl_cpu.specs.InnerStacks.{parameter_plan, parameters_plan}

pub no_parameter : (serve : Serve) (n : ℕ) (old r : Regs) (size : Size) (m : Mem) → n ≤ 0 → tried serve 0 (parameters_plan n old r size) m ≡ (Passed r, m)
unfolding parameters_plan
no_parameter serve zero old r size m h = refl
no_parameter serve (suc n) old r size m h = absurd (omega (arith, h))

pub one_parameter : (serve : Serve) (n : ℕ) (old r : Regs) (size : Size) (m : Mem) → 0 < n
    → tried serve 0 (parameters_plan n old r size) m ≡ on (tried serve 0 (parameter_plan (n - 1) old r size) m) (λ q k. tried serve 0 (parameters_plan (n - 1) old q size) k)
unfolding parameters_plan
one_parameter serve zero old r size m h = absurd (omega (arith, h))
one_parameter serve (suc n) old r size m h = let e : suc n - 1 ≡ n = omega arith in rw e (tried-then_plan serve 0 (parameter_plan n old r size) (λ q. parameters_plan n old q size) m)

pub ruleset parameters = (no_parameter, one_parameter)
