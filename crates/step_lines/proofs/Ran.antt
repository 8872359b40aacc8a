-- What comes of an instruction that uses no port.
use Rattle.std.proofs.Common.{◌≡◌, refl}
use Rattle.std.specs.Prelude.{Result, Ok, Err}
use Rattle.mdl_state.specs.declared.Fault.{Fault}
use Rattle.mdl_state.specs.declared.Next.{Next}
use Rattle.mdl_state.specs.declared.Regs.{Regs}
use Rattle.mdl_effect.specs.Operands.{NoPort}
use Rattle.operands.specs.Whole.{ran, ran_at}

pub no_port : (result : Result Next Fault) (r : Regs) → ran_at result NoPort r ≡ ran result r
no_port (Ok next) r = refl
no_port (Err fault) r = refl
