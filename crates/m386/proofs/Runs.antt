-- Lemmas on runs: from what the machine's run promises to what the headline says.
use Rattle.std.proofs.Common.{◌≡◌, ℕ, refl, subst, ◌∙◌}
use Rattle.mdl_board.specs.Board.{BoardState}
use Rattle.mdl_state.specs.Machine.{Machine}
use Rattle.mdl_step.specs.Computer.{powered}
use Rattle.mdl_step.specs.RunLaws.{counted_walks}
use Rattle.pc_machine.specs.Runs.{RanFor}
use Rattle.m386.specs.Inputs.{Fed}
use Rattle.m386.specs.Running.{RanTo}

from_power : (ram steps : ℕ) (fed : Fed) (n : Machine BoardState) → RanFor fed.events steps (powered ram fed.rom fed.disk) n → RanTo ram fed steps n
from_power ram steps fed n r = record {
  ran = record { choices = r.choices; last = n; as_many = r.as_many; run = r.run };
  is_last = refl;
  walks = r.walks ∙ counted_walks r.choices;
}

pub ran_to : (ram steps : ℕ) (fed : Fed) (m n : Machine BoardState) → m ≡ powered ram fed.rom fed.disk → RanFor fed.events steps m n → RanTo ram fed steps n
ran_to ram steps fed m n is r = from_power ram steps fed n (subst (λ x. RanFor fed.events steps x n) is r)
