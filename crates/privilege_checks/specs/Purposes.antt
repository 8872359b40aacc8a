-- What a program wants to know of a descriptor. Manual, chapter 17, under LAR, LSL, VERR and VERW.
use Rattle.std.specs.Prelude.{Bool}
use Rattle.mdl_cpu.specs.declared.Desc.{Desc}
use Rattle.mdl_cpu.specs.Visibility.{has_rights, has_limit, can_be_read, can_be_written}
use Rattle.privilege_checks.specs.declared.visibility.Purpose.{Purpose}
use Rattle.privilege_checks.specs.declared.visibility.Purpose.TheVariants.{Rights, Limit, Reads, Writes}

-- the descriptor is good for it
abbrev pub good_for : Purpose → Desc → Bool
good_for Rights d = has_rights d
good_for Limit d = has_limit d
good_for Reads d = can_be_read d
good_for Writes d = can_be_written d
