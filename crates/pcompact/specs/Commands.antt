-- The commands of the program. Each has a module in its crate, with the text that a successful call prints.
use Rattle.std.specs.Prelude.{ℕ, List, [], ◌∷◌, MatchBool, bytes_eq}
use Rattle.command_support.specs.Command.{Command}
use Rattle.collection_commands.specs.Collect.{collect_command}
use Rattle.collection_commands.specs.Record.{record_command}
use Rattle.collection_commands.specs.Verify.{verify_command}
use Rattle.heap_commands.specs.Assemble.{assemble_command}
use Rattle.heap_commands.specs.Board.{board_command}
use Rattle.heap_commands.specs.Compare.{compare_command}
use Rattle.heap_commands.specs.Generate.{generate_command}
use Rattle.heap_commands.specs.Import.{import_command}
use Rattle.heap_commands.specs.Map.{map_command}
use Rattle.heap_commands.specs.Order.{order_command}
use Rattle.heap_commands.specs.Reduce.{reduce_command}
use Rattle.heap_commands.specs.Replay.{replay_command}
use Rattle.heap_commands.specs.Summarize.{summary_command}
use Rattle.heap_commands.specs.Text.{text_command}
use Rattle.heap_commands.specs.Timeline.{timeline_command}
use Rattle.heap_commands.specs.Upgrade.{upgrade_command}

-- the commands, in the order in which help lists them
abbrev pub all_commands : List Command
all_commands =
    collect_command
    ∷ verify_command
    ∷ summary_command
    ∷ order_command
    ∷ map_command
    ∷ text_command
    ∷ assemble_command
    ∷ record_command
    ∷ replay_command
    ∷ timeline_command
    ∷ upgrade_command
    ∷ import_command
    ∷ compare_command
    ∷ generate_command
    ∷ reduce_command
    ∷ board_command
    ∷ []

-- the first of these commands with this name prints such a text
abbrev pub IsPrintedByOneOf : List Command → List ℕ → List ℕ → Type 0
IsPrintedByOneOf [] name text = ⊥
IsPrintedByOneOf (command ∷ others) name text =
    MatchBool (bytes_eq command.name name) (command.prints text) (IsPrintedByOneOf others name text)

-- a successful call of the command of this name prints such a text
abbrev pub IsPrintedBy : List ℕ → List ℕ → Type 0
IsPrintedBy name text = IsPrintedByOneOf all_commands name text
