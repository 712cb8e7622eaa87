-- The commands of the program, as `clap` sees them.
use Rattle.std.specs.Prelude.{ℕ, true, List, [], ◌∷◌, Some, codes, pos}
use Rattle.clap.specs.Walk.{Rule, Text}
use Rattle.clap.specs.Words.{App, new_app, new_rule, with_rule}
use Rattle.clap.specs.declared.builder.value_parser.ValueParser.TheVariants.{Signed, Unsigned}
use Rattle.command_line.specs.Arguments.{atomic_rule, file_rule, flag_rule, json_rule, progress_rule, stats_rule, verbose_rule, workers_rule}

-- the definition of `board`
abbrev pub board_words : App
board_words = with_rule (new_app (codes "board")) (flag_rule (codes "steps"))

-- the option `--region-log`, with a number from 3 to 20
abbrev pub region_log_rule : Rule
region_log_rule = record (new_rule (codes "region-log")) {
  long = Some (codes "region-log");
  value_names = 1;
  parser = Some (Signed (pos 3) (pos 20));
}

-- the option `--allowance`, with a number of 64 bits
abbrev pub allowance_rule : Rule
allowance_rule = record (new_rule (codes "allowance")) {
  long = Some (codes "allowance");
  value_names = 1;
  parser = Some (Unsigned 0 18446744073709551615);
}

-- the option `--classes`, with a file name
abbrev pub classes_rule : Rule
classes_rule = record (new_rule (codes "classes")) { long = Some (codes "classes"); value_names = 1 }

-- the option `--histogram`, with a number from 1 to 1000000
abbrev pub histogram_rule : Rule
histogram_rule = record (new_rule (codes "histogram")) {
  long = Some (codes "histogram");
  value_names = 1;
  parser = Some (Signed (pos 1) (pos 1000000));
}

-- adds the options for how an image is read
abbrev pub with_shape_rules : App → App
with_shape_rules app = with_rule (with_rule app region_log_rule) allowance_rule

-- the definition of `summary`
abbrev pub summary_words : App
summary_words =
    with_rule (with_rule (with_rule (with_shape_rules (with_rule (with_rule (new_app (codes "summary")) (file_rule (codes "IMAGE")))
    (flag_rule (codes "heading")))) json_rule) progress_rule) verbose_rule

-- the definition of `collect`
abbrev pub collect_words : App
collect_words =
    with_rule (with_rule (with_rule (with_rule (with_rule (with_shape_rules (with_rule (with_rule (with_rule (new_app (codes "collect"))
    (file_rule (codes "IMAGE"))) (file_rule (codes "OUT"))) workers_rule)) atomic_rule) json_rule) stats_rule) progress_rule)
    verbose_rule

-- the definition of `verify`
abbrev pub verify_words : App
verify_words =
    with_rule (with_rule (with_rule (with_rule (with_shape_rules (with_rule (with_rule (with_rule (with_rule (new_app (codes "verify"))
    (file_rule (codes "BEFORE"))) (file_rule (codes "AFTER"))) (flag_rule (codes "explain"))) (flag_rule (codes "ignore-free"))))
    json_rule) stats_rule) progress_rule) verbose_rule

-- the definition of `record`
abbrev pub record_words : App
record_words =
    with_rule (with_rule (with_rule (with_rule (with_shape_rules (with_rule (with_rule (with_rule (with_rule (with_rule (new_app (codes "record"))
    (file_rule (codes "IMAGE"))) (file_rule (codes "OUT"))) (file_rule (codes "SCHEDULE"))) workers_rule) (flag_rule (codes "turns"))))
    atomic_rule) stats_rule) progress_rule) verbose_rule

-- the definition of `replay`
abbrev pub replay_words : App
replay_words =
    with_rule (with_rule (with_shape_rules (with_rule (with_rule (new_app (codes "replay")) (file_rule (codes "IMAGE")))
    (file_rule (codes "SCHEDULE")))) progress_rule) verbose_rule

-- makes an option required
abbrev pub required : Rule → Rule
required rule = record rule { required = true }

-- an option of this name, with a number from `low` to `high`
abbrev pub number_rule : Text → ℕ → ℕ → Rule
number_rule name low high = record (new_rule name) { long = Some name; value_names = 1; parser = Some (Signed (pos low) (pos high)) }

-- the option `--to` of `upgrade`, with version 2 or 3
abbrev pub to_rule : Rule
to_rule = number_rule (codes "to") 2 3

-- the definition of `upgrade`
abbrev pub upgrade_words : App
upgrade_words =
    with_rule (with_rule (with_rule (with_rule (with_rule (with_rule (new_app (codes "upgrade")) (file_rule (codes "IMAGE")))
    (file_rule (codes "OUT"))) to_rule) progress_rule) atomic_rule) verbose_rule

-- the option `--version` of an image with roots, with 2 or 3
abbrev pub rooted_version_rule : Rule
rooted_version_rule = number_rule (codes "version") 2 3

-- the definition of `import`
abbrev pub import_words : App
import_words =
    with_rule (with_rule (with_rule (with_rule (with_rule (with_rule (with_rule (with_rule (with_rule (with_rule (with_rule (with_rule (with_rule
    (with_rule (with_rule (with_rule
    (new_app (codes "import")) (file_rule (codes "DUMP"))) (file_rule (codes "IMAGE"))) region_log_rule) allowance_rule) rooted_version_rule)
    (flag_rule (codes "live-only"))) (flag_rule (codes "weak"))) (flag_rule (codes "weak-soft"))) (flag_rule (codes "pack"))) classes_rule) histogram_rule) json_rule) stats_rule) progress_rule) atomic_rule) verbose_rule

-- the definition of `compare`
abbrev pub compare_words : App
compare_words =
    with_rule (with_rule (with_rule (with_rule (with_rule (with_rule (new_app (codes "compare")) (file_rule (codes "BEFORE")))
    (file_rule (codes "AFTER"))) (flag_rule (codes "explain"))) json_rule) progress_rule) verbose_rule

-- the required option `--words`, with a number from 1 to 68719476736
abbrev pub words_rule : Rule
words_rule = record (new_rule (codes "words")) {
  long = Some (codes "words");
  value_names = 1;
  parser = Some (Unsigned 1 68719476736);
  required = true;
}

-- the required option `--live`, with a number from 0 to 100
abbrev pub live_rule : Rule
live_rule = required (number_rule (codes "live") 0 100)

-- the required option `--seed`, with a number of 64 bits
abbrev pub seed_rule : Rule
seed_rule = record (new_rule (codes "seed")) {
  long = Some (codes "seed");
  value_names = 1;
  parser = Some (Unsigned 0 18446744073709551615);
  required = true;
}

-- the option `--refs`, with a number from 0 to 100
abbrev pub refs_rule : Rule
refs_rule = number_rule (codes "refs") 0 100

-- the option `--version` of an image, with 1, 2 or 3
abbrev pub version_rule : Rule
version_rule = number_rule (codes "version") 1 3

-- the definition of `generate`
abbrev pub generate_words : App
generate_words =
    with_rule (with_rule (with_rule (with_rule (with_rule (with_rule (with_rule (with_rule (with_rule (with_rule (with_rule
    (new_app (codes "generate")) (file_rule (codes "IMAGE"))) words_rule) live_rule) (required region_log_rule)) seed_rule) refs_rule)
    version_rule) allowance_rule) progress_rule) atomic_rule) verbose_rule

-- the option `--step`, with a number of 64 bits
abbrev pub step_rule : Rule
step_rule = record (new_rule (codes "step")) {
  long = Some (codes "step");
  value_names = 1;
  parser = Some (Unsigned 0 18446744073709551615);
}

-- the definition of `reduce`
abbrev pub reduce_words : App
reduce_words =
    with_rule (with_rule (with_rule (with_rule (with_rule (with_rule (new_app (codes "reduce")) (file_rule (codes "IMAGE")))
    (file_rule (codes "OUT"))) step_rule) progress_rule) atomic_rule) verbose_rule

-- the definition of `order`
abbrev pub order_words : App
order_words =
    with_rule (with_rule (with_rule (with_shape_rules (with_rule (new_app (codes "order")) (file_rule (codes "IMAGE")))) json_rule)
    progress_rule) verbose_rule

-- the definition of `text`
abbrev pub text_words : App
text_words =
    with_rule (with_rule (with_rule (new_app (codes "text")) (file_rule (codes "IMAGE"))) progress_rule) verbose_rule

-- the definition of `assemble`
abbrev pub assemble_words : App
assemble_words =
    with_rule (with_rule (with_rule (with_rule (with_rule (new_app (codes "assemble")) (file_rule (codes "TEXT"))) (file_rule (codes "IMAGE")))
    atomic_rule) progress_rule) verbose_rule

-- the option `--width`, with a number from 1 to 1000
abbrev pub width_rule : Rule
width_rule = number_rule (codes "width") 1 1000

-- the option `--height`, with a number from 1 to 100
abbrev pub height_rule : Rule
height_rule = number_rule (codes "height") 1 100

-- the option `--svg`, with a file name
abbrev pub svg_rule : Rule
svg_rule = record (new_rule (codes "svg")) { long = Some (codes "svg"); value_names = 1 }

-- the definition of `map`
abbrev pub map_words : App
map_words =
    with_rule (with_rule (with_rule (with_rule (with_rule (with_rule (with_shape_rules (with_rule (with_rule (with_rule (with_rule (with_rule
    (with_rule (new_app (codes "map")) (file_rule (codes "IMAGE"))) (flag_rule (codes "after"))) (flag_rule (codes "moves"))) width_rule) height_rule) svg_rule))
    (flag_rule (codes "letters"))) (flag_rule (codes "color"))) (flag_rule (codes "no-color"))) atomic_rule) progress_rule) verbose_rule

-- the option `--html`, with a file name
abbrev pub html_rule : Rule
html_rule = record (new_rule (codes "html")) { long = Some (codes "html"); value_names = 1 }

-- the definition of `timeline`
abbrev pub timeline_words : App
timeline_words =
    with_rule (with_rule (with_rule (with_rule (with_rule (with_rule (with_shape_rules (with_rule (with_rule (with_rule (with_rule (with_rule
    (new_app (codes "timeline")) (file_rule (codes "IMAGE"))) (file_rule (codes "SCHEDULE"))) width_rule) svg_rule) html_rule))
    (flag_rule (codes "letters"))) (flag_rule (codes "color"))) (flag_rule (codes "no-color"))) atomic_rule) progress_rule) verbose_rule

-- the definitions of the commands, in the order of help
abbrev pub listed : List App
listed =
    collect_words
    ∷ verify_words
    ∷ summary_words
    ∷ order_words
    ∷ map_words
    ∷ text_words
    ∷ assemble_words
    ∷ record_words
    ∷ replay_words
    ∷ timeline_words
    ∷ upgrade_words
    ∷ import_words
    ∷ compare_words
    ∷ generate_words
    ∷ reduce_words
    ∷ board_words
    ∷ []
