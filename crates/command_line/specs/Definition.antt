-- Commands and arguments that are data, as `clap` sees them.
use Rattle.std.specs.Prelude.{List, [], ◌∷◌, map, Option, None, Some, pos}
use Rattle.clap.specs.Walk.{Rule}
use Rattle.clap.specs.Words.{App, new_app, new_rule, with_rule}
use Rattle.clap.specs.declared.builder.value_parser.ValueParser.{ValueParser}
use Rattle.clap.specs.declared.builder.value_parser.ValueParser.TheVariants.{Signed, Unsigned}
use Rattle.command_line.specs.Arguments.{file_rule, flag_rule}
use Rattle.command_line.specs.declared.definition.Argument.{Argument}
use Rattle.command_line.specs.declared.definition.Argument.TheVariants.{File, Flag, ShortFlag, Valued, ShortValued}
use Rattle.command_line.specs.declared.definition.Definition.{Definition}
use Rattle.command_line.specs.declared.definition.Valued.{Valued as ValuedOption}
use Rattle.command_line.specs.declared.definition.Values.{Values}
use Rattle.command_line.specs.declared.definition.Values.TheVariants.{Texts, Numbers, LargeNumbers}

-- how values are checked
abbrev pub parser_of : Values → Option ValueParser
parser_of Texts = None
parser_of (Numbers least most) = Some (Signed (pos least) (pos most))
parser_of (LargeNumbers least most) = Some (Unsigned least most)

-- an option with a value
abbrev pub valued_rule : ValuedOption → Rule
valued_rule valued = record (new_rule valued.name.now) {
  long = Some valued.name.now;
  value_names = 1;
  parser = parser_of valued.values;
  required = valued.is_required;
}

-- an argument
abbrev pub rule_in : Argument → Rule
rule_in (File name help) = file_rule name.now
rule_in (Flag name help) = flag_rule name.now
rule_in (ShortFlag letter name help) = record (flag_rule name.now) { short = Some letter }
rule_in (Valued valued) = valued_rule valued
rule_in (ShortValued letter valued) = record (valued_rule valued) { short = Some letter }

-- adds these arguments in turn
abbrev pub with_rules : App → List Rule → App
with_rules app [] = app
with_rules app (rule ∷ others) = with_rules (with_rule app rule) others

-- a command with its arguments
abbrev pub app_in : Definition → App
app_in definition = with_rules (new_app definition.name.now) (map rule_in definition.arguments.now)
