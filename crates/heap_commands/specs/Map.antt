use Rattle.std.specs.Prelude.{◌≡◌, ◌⊎◌, ℕ, ◌*◌, nat_lt, min, max, if◌then◌else◌, List, ◌++◌, Option, Some, None, codes}
use Rattle.std.specs.Io.KnownBytes.{Consumes}
use Rattle.object_heap.specs.HeapImage.{HeapImage, IsValid}
use Rattle.heap_image.specs.ImageText.{text}
use Rattle.heap_map.specs.Bands.{bands_of, moves_text}
use Rattle.heap_map.specs.Cells.{cells_after, cells_before}
use Rattle.heap_map.specs.MapFigures.{AreFiguresOf, figures_text}
use Rattle.heap_map.specs.Text.{picture_text}
use Rattle.heap_map.specs.declared.band.Band.{Band}
use Rattle.heap_map.specs.declared.cell.Cell.{Cell}
use Rattle.heap_map.specs.declared.figures.MapFigures.{MapFigures}
use Rattle.heap_map.specs.declared.style.Shape.{Shape}
use Rattle.heap_map.specs.declared.style.Style.{Style}
use Rattle.command_support.specs.Command.{Command}
use Rattle.heap_commands.specs.declared.map.Cut.{Cut}

-- the shape of the rows; addresses follow them where there can be more than one row
abbrev pub shape_of : Cut → Shape
shape_of cut = record { width = min (max cut.width 1) 1000; has_axis = nat_lt 1 cut.rows }

-- the largest number of cells of a strip
abbrev pub cells_shown : Cut → ℕ
cells_shown cut = min (max cut.width 1) 1000 * min (max cut.rows 1) 100

-- the cells after the collection, where the cut includes them
abbrev pub after_shown : HeapImage → Cut → Option (List Cell)
after_shown image cut = if cut.after then Some (cells_after image (cells_shown cut)) else None

-- the moves, where the cut includes them: of at most 64 objects, or of regions
abbrev pub moves_shown : HeapImage → Cut → Option (List Band)
moves_shown image cut = if cut.moves then Some (bands_of image 64) else None

-- the picture of an image in this style
pub record IsPicture (style : Style) (cut : Cut) (image : HeapImage) (shown : List ℕ) : Type 0 where
  pub figures : MapFigures
  pub counted : AreFiguresOf image figures
  pub printed : shown ≡ picture_text style (shape_of cut) figures (cells_before image (cells_shown cut)) (after_shown image cut)
      ++ moves_text (moves_shown image cut)

-- the line with the figures of an image
pub record IsMapLine (image : HeapImage) (shown : List ℕ) : Type 0 where
  pub figures : MapFigures
  pub counted : AreFiguresOf image figures
  pub printed : shown ≡ figures_text figures ++ codes "\n"

-- the bytes read are the text of some valid image, and this is its picture
abbrev pub IsPrinted : Style → Cut → Option (List ℕ) → Option (List ℕ) → List ℕ → Type 0
IsPrinted style cut before after shown = (image : HeapImage) × IsValid image
    × Consumes before after (text image) × IsPicture style cut image shown

-- the bytes read are the text of some valid image, and this is the line with its figures
abbrev pub IsDrawing : Option (List ℕ) → Option (List ℕ) → List ℕ → Type 0
IsDrawing before after shown = (image : HeapImage) × IsValid image
    × Consumes before after (text image) × IsMapLine image shown

-- the picture of some valid image in some style, or the line with its figures
abbrev pub IsMap : List ℕ → Type 0
IsMap shown = (image : HeapImage) × IsValid image
    × (((style : Style) × (cut : Cut) × IsPicture style cut image shown) ⊎ IsMapLine image shown)

abbrev pub map_command : Command
map_command = record { name = codes "map"; prints = IsMap }
