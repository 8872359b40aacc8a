-- Lemmas on the commands that take a stretch: where the operands are none, the line is no command.
use Rattle.std.proofs.Common.{◌≡◌, ℕ, List, ◌∷◌, inl, inr, subst, ap, get_or, arith}
use Rattle.mdl_text.specs.declared.command.Command.TheVariants as commands
use Rattle.mdl_text.specs.CommandLine.{IsStretch, IsNoCommand}

abbrev first_byte : List ℕ → ℕ
first_byte line = get_or line 0 0

abbrev NoStretch : ℕ → List ℕ → Type 0
NoStretch most operands = (at n : ℕ) → ¬ (IsStretch most at n operands)

pub no_bytes : (operands : List ℕ) → NoStretch 4096 operands → IsNoCommand (109 ∷ 32 ∷ operands)
no_bytes operands none (commands.Steps n) (inl is) = let e = ap first_byte is.0 in omega (arith, e)
no_bytes operands none (commands.Steps n) (inr is) = let e = ap first_byte is.written in omega (arith, e)
no_bytes operands none (commands.Trace n) is = let e = ap first_byte is.written in omega (arith, e)
no_bytes operands none (commands.Go n) is = let e = ap first_byte is.written in omega (arith, e)
no_bytes operands none commands.Continue is = cc
no_bytes operands none (commands.AddStop at) is = let e = ap first_byte is.written in omega (arith, e)
no_bytes operands none (commands.DropStop at) is = let e = ap first_byte is.written in omega (arith, e)
no_bytes operands none commands.Registers is = cc
no_bytes operands none commands.Screen is = cc
no_bytes operands none (commands.Bytes at n) is = none at n (let same : is.operands ≡ operands = (let e = is.written in cc) in subst (IsStretch 4096 at n) same is.is_operand)
no_bytes operands none (commands.List at n) is = let e = ap first_byte is.written in omega (arith, e)
no_bytes operands none commands.Quit is = cc

pub no_listing : (operands : List ℕ) → NoStretch 100 operands → IsNoCommand (117 ∷ 32 ∷ operands)
no_listing operands none (commands.Steps n) (inl is) = let e = ap first_byte is.0 in omega (arith, e)
no_listing operands none (commands.Steps n) (inr is) = let e = ap first_byte is.written in omega (arith, e)
no_listing operands none (commands.Trace n) is = let e = ap first_byte is.written in omega (arith, e)
no_listing operands none (commands.Go n) is = let e = ap first_byte is.written in omega (arith, e)
no_listing operands none commands.Continue is = cc
no_listing operands none (commands.AddStop at) is = let e = ap first_byte is.written in omega (arith, e)
no_listing operands none (commands.DropStop at) is = let e = ap first_byte is.written in omega (arith, e)
no_listing operands none commands.Registers is = cc
no_listing operands none commands.Screen is = cc
no_listing operands none (commands.Bytes at n) is = let e = ap first_byte is.written in omega (arith, e)
no_listing operands none (commands.List at n) is = none at n (let same : is.operands ≡ operands = (let e = is.written in cc) in subst (IsStretch 100 at n) same is.is_operand)
no_listing operands none commands.Quit is = cc
