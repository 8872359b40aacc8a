-- The port that an instruction uses, on the board. Manual, chapter 8.
use Rattle.std.specs.Prelude.{◌≡◌, ℕ}
use Rattle.mdl_state.specs.Machine.{Rules}
use Rattle.mdl_effect.specs.Operands.{PortUse, NoPort, Reads, Writes}

-- the one port access that an instruction makes, by what the board gives or takes
abbrev pub Accesses : {B : Type 0} → Rules B → PortUse → ℕ → B → B → Type 0
Accesses rules NoPort given old new = new ≡ old
Accesses rules (Reads port size) given old new = rules.gives old port size given new
Accesses rules (Writes port size value) given old new = rules.takes old port size value new
