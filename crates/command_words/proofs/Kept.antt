-- The commands: each is simple, and what a parse by it has.
use Rattle.std.proofs.Common.{◌≡◌, true, refl, inl, inr, arith, List}
use Rattle.clap.specs.Built.{IsParsedFrom}
use Rattle.clap.specs.Faults.{is_simple_and_free}
use Rattle.clap.specs.Matches.{found_of}
use Rattle.clap.specs.Simple.{app_of}
use Rattle.clap.specs.Walk.{Row, rows_of}
use Rattle.clap.specs.declared.builder.command.Command.{Command}
use Rattle.clap.specs.declared.parser.matches.ArgMatches.{ArgMatches}
use Rattle.clap.proofs.OnLiterals.{clap_on_literals}
use Rattle.command_words.specs.Commands.{run_app, monitor_app, dis_app, demo_app, rom_rule, ram_rule, steps_rule, from_rule, count_rule, big_rule, number_rule}
use Rattle.command_words.specs.Parses.{HasMachine, HasRun, HasDis, HasDemo}
use Rattle.command_words.proofs.Filled.{IsFilled, flag_given, text_given, signed_given, unsigned_given}

-- ---- the commands are simple, and no argument has a rule on another

pub run_is_free : is_simple_and_free run_app ≡ true
unfolding clap_on_literals
run_is_free = refl

pub monitor_is_free : is_simple_and_free monitor_app ≡ true
unfolding clap_on_literals
monitor_is_free = refl

pub dis_is_free : is_simple_and_free dis_app ≡ true
unfolding clap_on_literals
dis_is_free = refl

pub demo_is_free : is_simple_and_free demo_app ≡ true
unfolding clap_on_literals
demo_is_free = refl

-- ---- the arguments that have a value

rom_filled : IsFilled rom_rule
rom_filled = record { there = inl refl; set = refl; range = refl }

ram_filled : IsFilled ram_rule
ram_filled = record { there = inr (omega arith); set = refl; range = refl }

steps_filled : IsFilled steps_rule
steps_filled = record { there = inr (omega arith); set = refl; range = refl }

from_filled : IsFilled from_rule
from_filled = record { there = inr (omega arith); set = refl; range = refl }

count_filled : IsFilled count_rule
count_filled = record { there = inr (omega arith); set = refl; range = refl }

number_filled : IsFilled number_rule
number_filled = record { there = inl refl; set = refl; range = refl }

-- ---- what a parse has

module _ (c : Command) (m : ArgMatches) (p : IsParsedFrom c m) (rows : List Row) (rows_are : rows_of (found_of m) ≡ rows) where
  pub run_has : app_of c ≡ run_app → HasRun rows
  run_has same = record {
    machine = record {
      rom = text_given c m p run_app same refl rows rows_are 0 rom_rule (record { within = omega arith; at = λ d. refl; only = refl; own = refl }) rom_filled;
      ram = signed_given c m p run_app same refl rows rows_are 3 ram_rule (record { within = omega arith; at = λ d. refl; only = refl; own = refl }) ram_filled 1 64 refl;
    };
    steps = unsigned_given c m p run_app same refl rows rows_are 4 steps_rule (record { within = omega arith; at = λ d. refl; only = refl; own = refl }) steps_filled 0 1000000000000000 refl;
  }

  pub monitor_has : app_of c ≡ monitor_app → HasMachine rows
  monitor_has same = record {
    rom = text_given c m p monitor_app same refl rows rows_are 0 rom_rule (record { within = omega arith; at = λ d. refl; only = refl; own = refl }) rom_filled;
    ram = signed_given c m p monitor_app same refl rows rows_are 3 ram_rule (record { within = omega arith; at = λ d. refl; only = refl; own = refl }) ram_filled 1 64 refl;
  }

  pub dis_has : app_of c ≡ dis_app → HasDis rows
  dis_has same = record {
    rom = text_given c m p dis_app same refl rows rows_are 0 rom_rule (record { within = omega arith; at = λ d. refl; only = refl; own = refl }) rom_filled;
    from = signed_given c m p dis_app same refl rows rows_are 1 from_rule (record { within = omega arith; at = λ d. refl; only = refl; own = refl }) from_filled 0 262143 refl;
    count = signed_given c m p dis_app same refl rows rows_are 2 count_rule (record { within = omega arith; at = λ d. refl; only = refl; own = refl }) count_filled 1 65536 refl;
    big = flag_given c m p dis_app same refl rows rows_are 3 big_rule (record { within = omega arith; at = λ d. refl; only = refl; own = refl }) refl;
  }

  pub demo_has : app_of c ≡ demo_app → HasDemo rows
  demo_has same = signed_given c m p demo_app same refl rows rows_are 0 number_rule (record { within = omega arith; at = λ d. refl; only = refl; own = refl }) number_filled 0 4294967295 refl
