use Rattle.std.specs.Prelude.{◌≡◌, ℕ, List, Option, codes}
use Rattle.collector.specs.Streams.{AreRecorded}
use Rattle.collector.specs.declared.outcome.Figures.{Figures}
use Rattle.collection_commands.specs.Figures.{IsFigures, figures_line}
use Rattle.command_support.specs.Command.{Command}

-- The whole input was read and is the text of some image. The text of its compaction was written, and that of a schedule by
-- which the word machine makes it. Its figures are printed.
abbrev pub IsRecording : ℕ → Option (List ℕ) → Option (List ℕ) → Option (List ℕ) → Option (List ℕ) → Option (List ℕ) → Option (List ℕ) → List ℕ → Type 0
IsRecording workers left left' took took' written written' shown = (figures : Figures)
    × AreRecorded workers left left' took took' written written' figures × (shown ≡ figures_line figures)

abbrev pub record_command : Command
record_command = record { name = codes "record"; prints = IsFigures }
