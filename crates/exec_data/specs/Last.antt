-- What the flags' keeper is left with by sums, differences and logic: the operation, and the values of
-- the destination and the source before. Manual, chapter 17.
use Rattle.std.specs.Prelude.{ℕ}
use Rattle.mdl_state.specs.declared.Size.{Size}
use Rattle.mdl_num.specs.Flags.{is_set}
use Rattle.mdl_num.specs.Sums.{logic_value}
use Rattle.mdl_num.specs.declared.results.LogicOp.TheVariants as logic
use Rattle.mdl_num.specs.declared.status.TheConstants.{CF}
use Rattle.mdl_insn.specs.declared.mnemonics.Op.{Op}
use Rattle.mdl_insn.specs.declared.mnemonics.Op.TheVariants as ops
use Rattle.lazy_flags.specs.declared.operation.FlagOp.TheVariants.{Add, AddCarry, Sub, SubBorrow, Logic, Inc, Dec}
use Rattle.lazy_flags.specs.Keeper.{kept}

-- by two operands; the carry is that of the flags before
abbrev pub last_of_two : Op → Size → ℕ → ℕ → ℕ → ℕ
last_of_two ops.Add size d s old = kept Add d s size
last_of_two ops.Adc size d s old = kept (AddCarry (is_set old CF)) d s size
last_of_two ops.Sub size d s old = kept Sub d s size
last_of_two ops.Sbb size d s old = kept (SubBorrow (is_set old CF)) d s size
last_of_two ops.Cmp size d s old = kept Sub d s size
last_of_two ops.And size d s old = kept Logic (logic_value logic.And d s) 0 size
last_of_two ops.Test size d s old = kept Logic (logic_value logic.And d s) 0 size
last_of_two ops.Or size d s old = kept Logic (logic_value logic.Or d s) 0 size
last_of_two ops.Xor size d s old = kept Logic (logic_value logic.Xor d s) 0 size
last_of_two _ size d s old = old

-- by one operand
abbrev pub last_of_one : Op → Size → ℕ → ℕ → ℕ
last_of_one ops.Inc size d old = kept (Inc (is_set old CF)) d 1 size
last_of_one ops.Dec size d old = kept (Dec (is_set old CF)) d 1 size
last_of_one ops.Neg size d old = kept Sub 0 d size
last_of_one _ size d old = old
