-- How a picture is printed.
use Rattle.std.specs.Prelude.{ℕ, ◌+◌, ◌-◌, ◌*◌, ◌/◌, ◌%◌, min, max, nat_lt, nat_le, ◌==◌, ◌||◌, Bool, true, false, if◌then◌else◌, List, [], ◌∷◌, ◌++◌, codes, count_by, decimal, flat_map, length, slice_range, Option, None, Some}
use Rattle.std.specs.List.{range_with_len}
use Rattle.std.specs.Int.{div_ceil}
use Rattle.heap_map.specs.declared.area.Area.{Area}
use Rattle.heap_map.specs.declared.area.Area.TheVariants.{Prefix, Fillers, Moving, Free}
use Rattle.heap_map.specs.declared.cell.Cell.{Cell}
use Rattle.heap_map.specs.declared.shade.Shade.{Shade}
use Rattle.heap_map.specs.declared.shade.Shade.TheVariants.{Empty, Low, Middle, High, Full}
use Rattle.heap_map.specs.declared.style.Glyphs.{Glyphs}
use Rattle.heap_map.specs.declared.style.Glyphs.TheVariants.{Letters, Blocks}
use Rattle.heap_map.specs.declared.style.Shape.{Shape}
use Rattle.heap_map.specs.declared.style.Style.{Style}
use Rattle.heap_map.specs.declared.figures.MapFigures.{MapFigures}
use Rattle.heap_map.specs.MapFigures.{figures_text}

-- the shade of a cell, by its share of live words
abbrev pub shade_of : Cell → Shade
shade_of cell =
    if cell.live == 0 then Empty
    else (if nat_le (cell.to - cell.from) cell.live then Full
    else (if nat_lt (cell.live * 3) (cell.to - cell.from) then Low
    else (if nat_lt (cell.live * 3) ((cell.to - cell.from) * 2) then Middle else High)))

-- the letter of a shade
abbrev pub letter_of_shade : Shade → List ℕ
letter_of_shade Empty = codes "_"
letter_of_shade Low = codes "."
letter_of_shade Middle = codes ":"
letter_of_shade High = codes "+"
letter_of_shade Full = codes "#"

-- the block of a shade, as the three bytes of UTF-8: U+2581, 2591, 2592, 2593 and 2588
abbrev pub block_of_shade : Shade → List ℕ
block_of_shade Empty = 226 ∷ 150 ∷ 129 ∷ []
block_of_shade Low = 226 ∷ 150 ∷ 145 ∷ []
block_of_shade Middle = 226 ∷ 150 ∷ 146 ∷ []
block_of_shade High = 226 ∷ 150 ∷ 147 ∷ []
block_of_shade Full = 226 ∷ 150 ∷ 136 ∷ []

abbrev pub shade_glyph : Glyphs → Shade → List ℕ
shade_glyph Letters shade = letter_of_shade shade
shade_glyph Blocks shade = block_of_shade shade

-- the letter of an area
abbrev pub area_letter : Area → List ℕ
area_letter Prefix = codes "p"
area_letter Fillers = codes "f"
area_letter Moving = codes "m"
area_letter Free = codes "-"

-- the terminal colour code of an area: blue, yellow, green, cyan
abbrev pub colour_of : Area → List ℕ
colour_of Prefix = codes "34"
colour_of Fillers = codes "33"
colour_of Moving = codes "32"
colour_of Free = codes "36"

-- a character, in the colour of an area if the style is coloured; 27 is escape
abbrev pub coloured : Style → Area → List ℕ → List ℕ
coloured style area glyph = if style.is_coloured
    then 27 ∷ codes "[" ++ (colour_of area ++ (codes "m" ++ (glyph ++ 27 ∷ codes "[0m"))) else glyph

-- the character of a cell in the row of shades, and in the row of areas
abbrev pub shade_mark : Style → Cell → List ℕ
shade_mark style cell = coloured style cell.area (shade_glyph style.glyphs (shade_of cell))

abbrev pub area_mark : Style → Cell → List ℕ
area_mark style cell = coloured style cell.area (area_letter cell.area)

-- the address of the first of these cells, or 0
abbrev pub first_address : List Cell → ℕ
first_address [] = 0
first_address (cell ∷ _) = cell.from

-- the axis at the end of the two lines of a row: the address of its first word, in words and in MiB, of 131,072 words each
abbrev pub words_axis : Bool → List Cell → List ℕ
words_axis has_axis cells = if has_axis then codes " " ++ decimal (first_address cells) else []

abbrev pub mib_text : ℕ → List ℕ
mib_text words = codes " " ++ (decimal (words / 131072) ++ (codes "." ++ (decimal (words % 131072 * 10 / 131072) ++ codes " MiB")))

abbrev pub mib_axis : Bool → List Cell → List ℕ
mib_axis has_axis cells = if has_axis then mib_text (first_address cells) else []

-- the line of shades of a row, which begins with the strip's name
abbrev pub shade_line : Style → Bool → List ℕ → List Cell → List ℕ
shade_line style has_axis name cells =
    name ++ (codes " |" ++ (flat_map (shade_mark style) cells ++ (codes "|" ++ (words_axis has_axis cells ++ codes "\n"))))

-- the line of areas of a row
abbrev pub area_line : Style → Bool → List Cell → List ℕ
area_line style has_axis cells =
    codes "       |" ++ (flat_map (area_mark style) cells ++ (codes "|" ++ (mib_axis has_axis cells ++ codes "\n")))

-- the two lines of a row
abbrev pub row_text : Style → Bool → List ℕ → List Cell → List ℕ
row_text style has_axis name cells = shade_line style has_axis name cells ++ area_line style has_axis cells

-- row i of rows of this width
abbrev pub row_of : ℕ → List Cell → ℕ → List Cell
row_of width cells i = slice_range cells (min (i * width) (length cells)) (min (i * width + width) (length cells))

-- the name before the first row, and as many blanks before the others
abbrev pub name_of_row : List ℕ → ℕ → List ℕ
name_of_row name i = if i == 0 then name else codes "      "

-- the rows of a strip
abbrev pub strip_text : Style → Shape → List ℕ → List Cell → List ℕ
strip_text style shape name cells =
    flat_map (λ i. row_text style shape.has_axis (name_of_row name i) (row_of (max shape.width 1) cells i))
    (range_with_len 0 (div_ceil (length cells) (max shape.width 1)))

-- the strip of the heap after its collection, if there is one
abbrev pub after_text : Style → Shape → Option (List Cell) → List ℕ
after_text style shape None = []
after_text style shape (Some cells) = strip_text style shape (codes "after ") cells

-- the legend of one shade
abbrev pub share_text : Glyphs → Shade → List ℕ → List ℕ
share_text glyphs shade name = codes " " ++ (shade_glyph glyphs shade ++ (codes " " ++ name))

-- the first line of the legend
abbrev pub shares_text : Glyphs → List ℕ
shares_text glyphs =
    codes "live:" ++ (share_text glyphs Empty (codes "none") ++ (share_text glyphs Low (codes "few")
    ++ (share_text glyphs Middle (codes "half") ++ (share_text glyphs High (codes "most")
    ++ (share_text glyphs Full (codes "all") ++ codes "\n")))))

-- whether two areas are the same
abbrev pub is_area : Area → Area → Bool
is_area Prefix Prefix = true
is_area Fillers Fillers = true
is_area Moving Moving = true
is_area Free Free = true
is_area _ _ = false

-- whether some cell has this area
abbrev pub has_area : List Cell → Area → Bool
has_area cells area = nat_lt 0 (count_by (λ (cell : Cell). is_area area cell.area) cells)

-- whether some cell of the strips has this area
abbrev pub occurs : List Cell → Option (List Cell) → Area → Bool
occurs before None area = has_area before area
occurs before (Some after) area = has_area before area || has_area after area

-- an entry of the legend of areas, if its area occurs
abbrev pub entry_text : Bool → List ℕ → List ℕ
entry_text is_there entry = if is_there then entry else []

-- the entries of the areas of the dense prefix, and of those above it
abbrev pub low_entries : (Area → Bool) → List ℕ
low_entries is_there = entry_text (is_there Prefix) (codes " p prefix") ++ entry_text (is_there Fillers) (codes " f prefix with fillers")

abbrev pub high_entries : (Area → Bool) → List ℕ
high_entries is_there = entry_text (is_there Moving) (codes " m moving") ++ entry_text (is_there Free) (codes " - free")

-- the second line of the legend: the areas that occur
abbrev pub areas_text : (Area → Bool) → List ℕ
areas_text is_there = codes "area:" ++ (low_entries is_there ++ (high_entries is_there ++ codes "\n"))

-- the two lines of the legend
abbrev pub legend_text : Glyphs → (Area → Bool) → List ℕ
legend_text glyphs is_there = shares_text glyphs ++ areas_text is_there

-- a picture: the figures, the strips and the legend
abbrev pub picture_text : Style → Shape → MapFigures → List Cell → Option (List Cell) → List ℕ
picture_text style shape figures before after =
    figures_text figures ++ (codes "\n" ++ (strip_text style shape (codes "before") before
    ++ (after_text style shape after ++ legend_text style.glyphs (occurs before after))))
