use Rattle.std.proofs.Common.{◌∙◌, sym}
use Rattle.lazy_flags.proofs.Kept.{same_last}
use Rattle.lazy_flags.proofs.keeper.Flags.last.Goals as goal

pub returns : goal.returns
returns c op a b size small is =
    same_last c.self.inside.op c.self.inside.a c.self.inside.b c.self.inside.size op a b size c.self.invariant.1 small (c.self.view_is ∙ is)
