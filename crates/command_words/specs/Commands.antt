-- The commands, each as what `clap` reads of it: the name, and the arguments with ranges and defaults.
use Rattle.std.specs.Prelude.{[], ◌∷◌, Some, true, codes, pos}
use Rattle.clap.specs.Words.{App, Rule, Text, new_app, new_rule, with_rule}
use Rattle.clap.specs.declared.builder.action.ArgAction.TheVariants.{Set, SetTrue}
use Rattle.clap.specs.declared.builder.value_parser.ValueParser.{ValueParser}
use Rattle.clap.specs.declared.builder.value_parser.ValueParser.TheVariants as parser

-- ---- arguments

-- `--NAME PATH`, where any text is a path
abbrev pub path_rule : Text → Rule
path_rule name = record (new_rule name) { long = Some name; action = Some Set }

-- `--NAME N`, with a range, and a number for where it is left out
abbrev pub number_option : Text → ValueParser → Text → Rule
number_option name range default = record (path_rule name) { parser = Some range; defaults = default ∷ [] }

-- the path of the ROM, which has to be given
abbrev pub rom_rule : Rule
rom_rule = record (path_rule (codes "rom")) { required = true }

-- mebibytes of RAM, from 1 to 64, and else 4
abbrev pub ram_rule : Rule
ram_rule = number_option (codes "ram") (parser.Signed (pos 1) (pos 64)) (codes "4")

-- how many steps a run makes, up to 10^15, and else ten million
abbrev pub steps_rule : Rule
steps_rule = number_option (codes "steps") (parser.Unsigned 0 1000000000000000) (codes "10000000")

-- the offset of a listing's first line, within the longest ROM, and else 0
abbrev pub from_rule : Rule
from_rule = number_option (codes "from") (parser.Signed (pos 0) (pos 262143)) (codes "0")

-- how many lines a listing has, from 1 to 65536, and else 20
abbrev pub count_rule : Rule
count_rule = number_option (codes "count") (parser.Signed (pos 1) (pos 65536)) (codes "20")

-- the flag `--big`: the default is 32 bits
abbrev pub big_rule : Rule
big_rule = record (new_rule (codes "big")) { long = Some (codes "big"); action = Some SetTrue; parser = Some parser.Bool }

-- the number of a demo, of 32 bits, which stands as a word of its own and has to be given
abbrev pub number_rule : Rule
number_rule = record (new_rule (codes "number")) {
  action = Some Set;
  required = true;
  parser = Some (parser.Signed (pos 0) (pos 4294967295));
}

-- ---- commands

-- what `run` and `monitor` read of the machine: `--rom PATH`, `--disk PATH`, `--script PATH`, `--ram N`
abbrev pub machine_app : Text → App
machine_app name = with_rule (with_rule (with_rule (with_rule (new_app name)
    rom_rule) (path_rule (codes "disk"))) (path_rule (codes "script"))) ram_rule

-- `run`: the same, `--steps N`, `--mem PATH`, `--save PATH`
abbrev pub run_app : App
run_app = with_rule (with_rule (with_rule (machine_app (codes "run"))
    steps_rule) (path_rule (codes "mem"))) (path_rule (codes "save"))

-- `monitor`
abbrev pub monitor_app : App
monitor_app = machine_app (codes "monitor")

-- `dis`: `--rom PATH`, `--from N`, `--count N`, `--big`
abbrev pub dis_app : App
dis_app = with_rule (with_rule (with_rule (with_rule (new_app (codes "dis"))
    rom_rule) from_rule) count_rule) big_rule

-- `demo N`
abbrev pub demo_app : App
demo_app = with_rule (new_app (codes "demo")) number_rule
