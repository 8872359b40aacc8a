-- The lines of the stepping monitor, each without its end. Own: The lines of the monitor
use Rattle.std.specs.Prelude.{◌≡◌, ◌≤◌, ◌⊎◌, ◌^◌, ℕ, List, ◌++◌, length, codes}
use Rattle.std.specs.Fmt.{decimal}
use Rattle.std.specs.Str.Parse.{IsNumeral, digits_value}
use Rattle.mdl_text.specs.declared.command.Command.{Command}
use Rattle.mdl_text.specs.declared.command.Command.TheVariants as commands

-- how many bytes a line may have
abbrev pub most_line : ℕ
most_line = 64

-- the greatest count of steps
abbrev pub most_steps : ℕ
most_steps = 10 ^ 15

-- ---- operands

-- a count of this range, in decimal without a sign or a leading zero
pub record IsCount (least most n : ℕ) (text : List ℕ) : Type 0 where
  pub least_is : least ≤ n
  pub most_is : n ≤ most
  pub written : text ≡ decimal n

-- an address, in one to eight hexadecimal digits of either case
pub record IsAddress (at : ℕ) (text : List ℕ) : Type 0 where
  pub digits : IsNumeral 16 text
  pub most_is : length text ≤ 8
  pub value : at ≡ digits_value 16 text

-- an address, one space, and how many from there on: 1 or more
pub record IsStretch (most at n : ℕ) (text : List ℕ) : Type 0 where
  pub first : List ℕ
  pub is_address : IsAddress at first
  pub count : List ℕ
  pub is_count : IsCount 1 most n count
  pub written : text ≡ first ++ (codes " " ++ count)

-- the line is a name, and behind it operands of this kind
pub record Takes (name : List ℕ) (IsOperand : List ℕ → Type 0) (line : List ℕ) : Type 0 where
  pub operands : List ℕ
  pub is_operand : IsOperand operands
  pub written : line ≡ name ++ operands

-- ---- commands

-- the line asks for this
abbrev pub IsCommand : List ℕ → Command → Type 0
IsCommand line (commands.Steps n) = ((line ≡ codes "s") × (n ≡ 1)) ⊎ Takes (codes "s ") (IsCount 0 most_steps n) line
IsCommand line (commands.Trace n) = Takes (codes "t ") (IsCount 1 1000 n) line
IsCommand line (commands.Go n) = Takes (codes "g ") (IsCount 0 most_steps n) line
IsCommand line commands.Continue = line ≡ codes "c"
IsCommand line (commands.AddStop at) = Takes (codes "b ") (IsAddress at) line
IsCommand line (commands.DropStop at) = Takes (codes "d ") (IsAddress at) line
IsCommand line commands.Registers = line ≡ codes "r"
IsCommand line commands.Screen = line ≡ codes "p"
IsCommand line (commands.Bytes at n) = Takes (codes "m ") (IsStretch 4096 at n) line
IsCommand line (commands.List at n) = Takes (codes "u ") (IsStretch 100 at n) line
IsCommand line commands.Quit = line ≡ codes "q"

-- the line asks for nothing that there is
abbrev pub IsNoCommand : List ℕ → Type 0
IsNoCommand line = (command : Command) → ¬ (IsCommand line command)
