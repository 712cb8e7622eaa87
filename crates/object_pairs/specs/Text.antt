-- What is printed of a comparison.
use Rattle.std.specs.Prelude.{ℕ, ◌+◌, ◌-◌, ◌/◌, ◌==◌, false, if◌then◌else◌, List, [], ◌∷◌, ◌++◌, codes, decimal, length, take}
use Rattle.std.specs.Fmt.{digits, format_spec, styled_decimal}
use Rattle.object_pairs.specs.Comparison.{conflicts_of, verdict_of}
use Rattle.object_pairs.specs.declared.comparison.Comparison.{Comparison}
use Rattle.object_pairs.specs.declared.comparison.Verdict.{Verdict}
use Rattle.object_pairs.specs.declared.comparison.Verdict.TheVariants.{Slid, Broken, Incomparable}
use Rattle.object_pairs.specs.declared.figures.SpaceFigures.{SpaceFigures}

-- a number, right-aligned in `width` columns
abbrev pub in_columns : ℕ → ℕ → List ℕ
in_columns width n = styled_decimal (format_spec 32 3 0 width 18446744073709551615) n

-- a space and a number
abbrev pub next_column : ℕ → List ℕ
next_column n = codes " " ++ in_columns 11 n

-- the bytes of the prefix of a space
abbrev pub prefix_bytes : SpaceFigures → ℕ
prefix_bytes space = space.prefix_end - space.start

-- the counts of objects
abbrev pub counts_text : Comparison → List ℕ
counts_text c =
    codes "objects before " ++ (decimal c.before ++ (codes " after " ++ (decimal c.after
    ++ (codes " paired " ++ (decimal c.paired ++ (codes " changed " ++ (decimal c.changed ++ codes "\n")))))))

-- the references in conflict
abbrev pub conflicts_text : Comparison → List ℕ
conflicts_text c =
    codes "conflicts " ++ (decimal (conflicts_of c) ++ (codes " cleared " ++ (decimal c.cleared
    ++ (codes " filled " ++ (decimal c.filled ++ (codes " elsewhere " ++ (decimal c.elsewhere ++ codes "\n")))))))

-- the number of a space, and its counts up to the descents
abbrev pub left_columns : ℕ → SpaceFigures → List ℕ
left_columns n space = in_columns 6 n ++ (next_column space.paired ++ (next_column space.stayed ++ next_column space.descents))

-- the holes of a space, and its prefix, of so many bytes
abbrev pub right_columns : SpaceFigures → ℕ → List ℕ
right_columns space bytes = next_column space.holes ++ (next_column space.prefix ++ (next_column bytes ++ next_column (bytes / 524288)))

-- where a space begins, in hexadecimal
abbrev pub start_column : ℕ → List ℕ
start_column start = codes "  @" ++ (digits 16 false start ++ codes "\n")

-- the row of the n-th space
abbrev pub row : ℕ → SpaceFigures → List ℕ
row n space = left_columns n space ++ (right_columns space (prefix_bytes space) ++ start_column space.start)

-- the rows of spaces, of which the first is the n-th
abbrev pub rows_from : ℕ → List SpaceFigures → List ℕ
rows_from n [] = []
rows_from n (space ∷ others) = row n space ++ rows_from (n + 1) others

-- how many spaces have no row, if there are some
abbrev pub more_text : ℕ → List ℕ
more_text count = if count == 0 then [] else codes "and " ++ (decimal count ++ codes " more\n")

-- the names of the columns, and the rows of the first 16 spaces
abbrev pub table_text : List SpaceFigures → List ℕ
table_text spaces =
    codes " space      paired      stayed    descents       holes      prefix       bytes     regions  start\n"
    ++ (rows_from 1 (take 16 spaces) ++ more_text (length spaces - 16))

-- the line of a verdict
abbrev pub verdict_text : Verdict → List ℕ
verdict_text Slid = codes "slid: each space keeps its order and its distances\n"
verdict_text Broken = codes "broken: a space has descents or holes\n"
verdict_text Incomparable = codes "not comparable: less than half of AFTER is paired, or more than 1 per cent is in conflict\n"

-- the whole report
abbrev pub comparison_text : Comparison → List ℕ
comparison_text c = counts_text c ++ (conflicts_text c ++ (table_text c.spaces.items ++ verdict_text (verdict_of c)))
