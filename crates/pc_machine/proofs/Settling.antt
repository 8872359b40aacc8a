-- A step ends with no reset asked for.
use Rattle.std.proofs.Common.{◌≡◌, Bool, true, false, refl, ap, ◌∙◌}
use Rattle.mdl_state.specs.Machine.{Machine}
use Rattle.mdl_board.specs.Board.{BoardState}
use Rattle.mdl_step.specs.RunLaws.{SomeStep}
use Rattle.mdl_step.specs.Step.{EndsBy}
use Rattle.mdl_step.specs.Computer.{board_rules, run_policy}

-- a reset that is asked for is made, and no longer asked for
ended : (asks : Bool) (m n : Machine BoardState) → m.board.asks ≡ asks → EndsBy asks board_rules m n → n.board.asks ≡ false
ended true m n is e = ap (λ (b : BoardState). b.asks) e.0
ended false m n is e = ap (λ (x : Machine BoardState). x.board.asks) e ∙ is

-- behind a step
pub still : (m n : Machine BoardState) → m.board.asks ≡ false → SomeStep board_rules run_policy m n → n.board.asks ≡ false
still m n is step = let s = step.step in ended s.mid.board.asks s.mid n refl s.ends
