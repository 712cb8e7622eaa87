use Rattle.std.specs.Prelude.{◌≡◌, ℕ, List, ◌++◌, Option, option_map, codes}
use Rattle.std.specs.Io.KnownBytes.{Appends}
use Rattle.object_heap.specs.HeapImage.{HeapImage, IsValid}
use Rattle.heap_image.specs.ImageText.{text}
use Rattle.object_heap.specs.Version.{IsChosen}
use Rattle.heap_maker.specs.GenerationFigures.{AreFiguresOf, figures_text}
use Rattle.heap_maker.specs.Wanted.{IsAsWanted}
use Rattle.heap_maker.specs.declared.figures.GenerationFigures.{GenerationFigures}
use Rattle.heap_maker.specs.declared.wanted.Wanted.{Wanted}
use Rattle.command_line.specs.declared.commands.generate.Generate.{Generate}
use Rattle.command_support.specs.Command.{Command}
use Rattle.heap_commands.specs.Versions.{version_numbered}

-- The heap that a request describes. Without a version it has version 2 where that allows it, else version 3.
pub record IsWantedOf (request : Generate) (wanted : Wanted) : Type 0 where
  pub words : wanted.words ≡ request.words
  pub region_log : wanted.region_log ≡ request.region_log
  pub live : wanted.live_percent ≡ request.live
  pub references : wanted.reference_percent ≡ request.references
  pub version : IsChosen (option_map version_numbered request.version) request.region_log request.words wanted.version
  pub allowance : wanted.allowance ≡ request.allowance
  pub seed : wanted.seed ≡ request.seed

-- the line with the figures of an image
pub record IsFiguresLine (image : HeapImage) (shown : List ℕ) : Type 0 where
  pub figures : GenerationFigures
  pub counted : AreFiguresOf image figures
  pub printed : shown ≡ figures_text figures ++ codes "\n"

-- the text of an image as requested was written, and its figures are printed
abbrev pub IsGeneration : Wanted → Option (List ℕ) → Option (List ℕ) → List ℕ → Type 0
IsGeneration wanted took took' shown = (image : HeapImage) × IsAsWanted wanted image
    × IsFiguresLine image shown × Appends took took' (text image)

-- the line with the figures of some valid image
abbrev pub IsGenerationLine : List ℕ → Type 0
IsGenerationLine shown = (image : HeapImage) × IsValid image × IsFiguresLine image shown

abbrev pub generate_command : Command
generate_command = record { name = codes "generate"; prints = IsGenerationLine }
