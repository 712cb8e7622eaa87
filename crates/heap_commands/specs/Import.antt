use Rattle.std.specs.Prelude.{◌≡◌, ℕ, true, List, [], ◌++◌, Option, None, Some, codes}
use Rattle.std.specs.Io.KnownBytes.{Appends}
use Rattle.object_heap.specs.HeapImage.{HeapImage, IsValid}
use Rattle.heap_image.specs.ImageText.{text}
use Rattle.object_heap.specs.Version.{has_roots}
use Rattle.heap_dump.specs.ImportFigures.{AreFiguresOf, figures_text}
use Rattle.heap_dump.specs.Requested.{IsRequested}
use Rattle.heap_dump.specs.declared.figures.ImportFigures.{ImportFigures}
use Rattle.heap_dump.specs.declared.heap.draft.Imported.{Imported}
use Rattle.heap_dump.specs.declared.options.Options.{Options}
use Rattle.command_support.specs.Command.{Command}
use Rattle.heap_commands.specs.Histogram.{IsHistogram}

-- the line with the figures of an image with roots
pub record IsLineOf (image : HeapImage) (shown : List ℕ) : Type 0 where
  pub valid : IsValid image
  pub rooted : has_roots image.version ≡ true
  pub figures : ImportFigures
  pub counted : AreFiguresOf image figures
  pub printed : shown ≡ figures_text figures ++ codes "\n"

-- the line with the figures of some valid image with roots
abbrev pub IsImportLine : List ℕ → Type 0
IsImportLine shown = (image : HeapImage) × IsLineOf image shown

-- what is printed after the line: nothing, or a histogram with at most `most` classes
abbrev pub IsRest : HeapImage → ImportFigures → Option ℕ → List ℕ → Type 0
IsRest image figures None rest = rest ≡ []
IsRest image figures (Some most) rest = IsHistogram image figures most rest

-- the line with the figures of an image with roots, and the histogram of its objects if one is requested
pub record IsTextOf (image : HeapImage) (most : Option ℕ) (shown : List ℕ) : Type 0 where
  pub line : List ℕ
  pub begins : IsLineOf image line
  pub rest : List ℕ
  pub ends : IsRest image begins.figures most rest
  pub printed : shown ≡ line ++ rest

-- the text of an image as these options request it was written, and this is printed of it
abbrev pub IsImport : Options → Option ℕ → Option (List ℕ) → Option (List ℕ) → List ℕ → Type 0
IsImport options most took took' shown = (imported : Imported) × IsRequested options imported
    × IsTextOf imported.image most shown × Appends took took' (text imported.image)

-- Of some valid image: without a histogram exactly the line with its figures, and with one that line and the histogram.
abbrev pub IsImportText : Option ℕ → List ℕ → Type 0
IsImportText None shown = IsImportLine shown
IsImportText (Some most) shown = (image : HeapImage) × IsTextOf image (Some most) shown

-- such a text
abbrev pub IsImported : List ℕ → Type 0
IsImported shown = (most : Option ℕ) × IsImportText most shown

abbrev pub import_command : Command
import_command = record { name = codes "import"; prints = IsImported }
