-- What a call answers that makes the transfer of an instruction. Manual, chapters 6 and 7.
use Rattle.std.specs.Prelude.{Result, Ok, Err}
use Rattle.mdl_state.specs.declared.Regs.{Regs}
use Rattle.mdl_state.specs.declared.Fault.{Fault}
use Rattle.mdl_state.specs.Serving.{Outcome, Passed, Failed}
use Rattle.mdl_effect.specs.FarEffects.{FarTransfer}
use Rattle.exec_far.specs.declared.instructions.Far.{Far}

-- the transfer with the registers that it leaves, or its fault
abbrev pub far_transferred : Result Far Fault → Regs → Outcome FarTransfer
far_transferred (Ok far) r = Passed (record { transfer = record { regs = r; outcome = far.outcome }; direct = far.direct })
far_transferred (Err fault) r = Failed fault
