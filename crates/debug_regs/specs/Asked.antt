-- An access of a program, as it is asked for.
use Rattle.std.specs.Prelude.{Bool, true, false}
use Rattle.mdl_state.specs.declared.Who.{Who}
use Rattle.mdl_state.specs.declared.Access.{Access}
use Rattle.mdl_state.specs.declared.Access.TheVariants.{Read, Write}

-- a write, or else a read
abbrev pub access_by : Bool → Who → Access
access_by true who = Write who
access_by false who = Read who
