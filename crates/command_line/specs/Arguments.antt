-- The arguments that several commands share, as `clap` sees them.
use Rattle.std.specs.Prelude.{pos, true, codes, Some}
use Rattle.clap.specs.Walk.{Rule, Text}
use Rattle.clap.specs.Words.{new_rule}
use Rattle.clap.specs.declared.builder.value_parser.ValueParser.TheVariants.{Signed}
use Rattle.clap.specs.declared.builder.action.ArgAction.TheVariants.{SetTrue}

-- a required file name
abbrev pub file_rule : Text → Rule
file_rule id = record (new_rule id) { required = true }

-- the option `--workers` or `-w`, with a number from 1 to 64
abbrev pub workers_rule : Rule
workers_rule = record (new_rule (codes "workers")) {
  long = Some (codes "workers");
  short = Some 119;
  value_names = 1;
  parser = Some (Signed (pos 1) (pos 64));
}

-- an optional option of this name, without a value
abbrev pub flag_rule : Text → Rule
flag_rule name = record (new_rule name) { long = Some name; action = Some SetTrue }

-- the option `--verbose` or `-v`
abbrev pub verbose_rule : Rule
verbose_rule = record (flag_rule (codes "verbose")) { short = Some 118 }

-- the option `--stats`
abbrev pub stats_rule : Rule
stats_rule = flag_rule (codes "stats")

-- the option `--progress`
abbrev pub progress_rule : Rule
progress_rule = flag_rule (codes "progress")

-- the option `--json`
abbrev pub json_rule : Rule
json_rule = flag_rule (codes "json")

-- the option `--atomic`
abbrev pub atomic_rule : Rule
atomic_rule = flag_rule (codes "atomic")
