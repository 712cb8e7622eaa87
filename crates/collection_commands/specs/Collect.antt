use Rattle.std.specs.Prelude.{◌≡◌, ℕ, List, Option, codes}
use Rattle.std.specs.Io.KnownBytes.{Appends}
use Rattle.object_heap.specs.HeapImage.{HeapImage}
use Rattle.heap_image.specs.ImageText.{text}
use Rattle.summary.specs.Compaction.{compact}
use Rattle.collector.specs.Collections.{figures_of}
use Rattle.heap_image.specs.Reading.{IsRead}
use Rattle.collection_commands.specs.Figures.{IsFigures, figures_line}
use Rattle.command_support.specs.Command.{Command}

-- the whole input was read and is the text of some image, the text of its compaction was written, and its figures are printed
abbrev pub IsCollection : Option (List ℕ) → Option (List ℕ) → Option (List ℕ) → Option (List ℕ) → List ℕ → Type 0
IsCollection left left' took took' shown = (image : HeapImage) × IsRead image left left'
    × Appends took took' (text (compact image)) × (shown ≡ figures_line (figures_of image))

abbrev pub collect_command : Command
collect_command = record { name = codes "collect"; prints = IsFigures }
