use Rattle.std.proofs.Common.{◌∙◌, sym, false}
use Rattle.mdl_num.specs.Flags.{flags_after, status_of_result}
use Rattle.mdl_num.specs.Sums.{sum_status, difference_status, logic_status, increment_status, decrement_status}
use Rattle.lazy_flags.specs.Keeper.{operation_status, left}
use Rattle.lazy_flags.proofs.Packing.{kept_carry}
use Rattle.lazy_flags.proofs.Kept.{left_plain}
use Rattle.lazy_flags.proofs.keeper.left_by.Goals as goal

pub returns-in-Add : goal.returns-in-Add
unfolding left operation_status sum_status status_of_result flags_after
returns-in-Add c = rw c.in-Add.is c.add.ensures.flags

pub returns-in-AddCarry : goal.returns-in-AddCarry
unfolding left operation_status sum_status status_of_result flags_after
returns-in-AddCarry c = rw c.in-AddCarry.is c.add-in-AddCarry.ensures.flags

pub returns-in-Sub : goal.returns-in-Sub
unfolding left operation_status difference_status status_of_result flags_after
returns-in-Sub c = rw c.in-Sub.is c.sub.ensures.flags

pub returns-in-SubBorrow : goal.returns-in-SubBorrow
unfolding left operation_status difference_status status_of_result flags_after
returns-in-SubBorrow c = rw c.in-SubBorrow.is c.sub-in-SubBorrow.ensures.flags

pub returns-in-Logic : goal.returns-in-Logic
unfolding left operation_status
returns-in-Logic c = rw c.in-Logic.is c.after_logic.ensures

pub returns-in-Inc : goal.returns-in-Inc
unfolding left operation_status sum_status increment_status status_of_result flags_after
returns-in-Inc c =
    rw c.in-Inc.is (c.inc.ensures.flags ∙ kept_carry (sum_status c.args.size c.args.a 1 false) c.in-Inc.carry c.inc.result.flags)

pub returns-in-Dec : goal.returns-in-Dec
unfolding left operation_status difference_status decrement_status status_of_result flags_after
returns-in-Dec c =
    rw c.in-Dec.is (c.dec.ensures.flags ∙ kept_carry (difference_status c.args.size c.args.a 1 false) c.in-Dec.carry c.dec.result.flags)

pub returns-in-Plain : goal.returns-in-Plain
unfolding left operation_status flags_after
returns-in-Plain c = rw (c.in-Plain.is, c.with_status.ensures) (sym (left_plain c.args.a c.args.b c.args.size))
