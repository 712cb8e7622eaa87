use Rattle.std.proofs.Common.{◌≡◌, ◌*◌, ℕ, List, [], ◌∷◌, false, length, length-append, refl, arith}
use Rattle.std.specs.Prelude.{flat_map}
use Rattle.heap_map.specs.declared.area.Area.{Area}
use Rattle.heap_map.specs.declared.area.Area.TheVariants.{Prefix, Fillers, Moving, Free}
use Rattle.heap_map.specs.declared.cell.Cell.{Cell}
use Rattle.heap_map.specs.declared.shade.Shade.{Shade}
use Rattle.heap_map.specs.declared.shade.Shade.TheVariants.{Empty, Low, Middle, High, Full}
use Rattle.heap_map.specs.declared.style.Glyphs.TheVariants.{Blocks, Letters}
use Rattle.heap_map.specs.Text.{area_letter, area_mark, block_of_shade, letter_of_shade, shade_mark, shade_of}
use Rattle.heap_map.proofs.laws.rows_have_a_character_for_each_cell.Goals as goal

-- a row of marks with this number of bytes each
row : (mark : Cell → List ℕ) (bytes : ℕ) → ((cell : Cell) → length (mark cell) ≡ bytes) → (cells : List Cell) → length (flat_map mark cells) ≡ bytes * length cells
row mark bytes each [] = omega arith
row mark bytes each (cell ∷ cells) =
    let both = length-append (mark cell) (flat_map mark cells) in
    let one = each cell in
    let more = row mark bytes each cells in
    omega arith

letter : (shade : Shade) → length (letter_of_shade shade) ≡ 1
letter Empty = refl
letter Low = refl
letter Middle = refl
letter High = refl
letter Full = refl

block : (shade : Shade) → length (block_of_shade shade) ≡ 3
block Empty = refl
block Low = refl
block Middle = refl
block High = refl
block Full = refl

area : (area : Area) → length (area_letter area) ≡ 1
area Prefix = refl
area Fillers = refl
area Moving = refl
area Free = refl

pub returns-clause-letters : goal.returns-clause-letters
returns-clause-letters c cells =
    let all = row (shade_mark (record { glyphs = Letters; is_coloured = false })) 1 (λ cell. letter (shade_of cell)) cells in
    omega (arith, all)

pub returns-clause-blocks : goal.returns-clause-blocks
returns-clause-blocks c cells = row (shade_mark (record { glyphs = Blocks; is_coloured = false })) 3 (λ cell. block (shade_of cell)) cells

pub returns-clause-areas : goal.returns-clause-areas
returns-clause-areas c glyphs cells =
    let all = row (area_mark (record { glyphs = glyphs; is_coloured = false })) 1 (λ cell. area cell.area) cells in
    omega (arith, all)
