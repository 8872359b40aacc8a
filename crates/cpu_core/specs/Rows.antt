-- The rows of the boundary as the processor tells them apart.
use Rattle.mdl_step.specs.Boundary as rows
use Rattle.mdl_step.specs.Boundary.{Boundary}
use Rattle.cpu_core.specs.declared.boundary.Row.{Row}
use Rattle.cpu_core.specs.declared.boundary.Row.TheVariants.{Idle, Trap, Break, Nmi, Line, Execute}

-- the row that is told
abbrev pub told : Row → Boundary
told Idle = rows.Idle
told Trap = rows.Trap
told (Break hits) = rows.Break hits
told Nmi = rows.Nmi
told Line = rows.Line
told Execute = rows.Execute
