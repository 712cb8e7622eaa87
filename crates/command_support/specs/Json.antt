-- What commands print, as JSON.
use Rattle.std.specs.Prelude.{ℕ, Bool, List, [], ◌∷◌, ◌++◌, ◌==◌, codes, decimal, if◌then◌else◌}
use Rattle.command_support.specs.Classes.{class_after, class_piece}
use Rattle.command_support.specs.declared.json.class_place.ClassPlace.TheVariants.{Head}
use Rattle.command_support.specs.declared.difference.Difference.{Difference}
use Rattle.command_support.specs.declared.json.Column.{Column}
use Rattle.command_support.specs.declared.json.Column.TheVariants.{Region, Partial, Live, Destination, Count, Source}
use Rattle.command_support.specs.declared.json.Place.{Place}
use Rattle.command_support.specs.declared.json.Place.TheVariants.{Name, Value, FirstLine, NextLine, Before, In, Classes}

-- the column after it; after the last one it stays
abbrev pub next_column : Column → Column
next_column Region = Partial
next_column Partial = Live
next_column Live = Destination
next_column Destination = Count
next_column Count = Source
next_column Source = Source

-- what stands before a number of this column
abbrev pub column_name : Column → List ℕ
column_name Region = codes "{\"region\":"
column_name Partial = codes ",\"partial\":"
column_name Live = codes ",\"live\":"
column_name Destination = codes ",\"dest\":"
column_name Count = codes ",\"count\":"
column_name Source = codes ",\"source\":"

-- a space, a newline or another byte
abbrev pub by_byte : {X : Type 0} → ℕ → X → X → X → X
by_byte byte space newline other = if byte == 32 then space else (if byte == 10 then newline else other)

-- the place after this byte
abbrev pub after : Place → ℕ → Place
after Name byte = by_byte byte Value FirstLine Name
after Value byte = by_byte byte Name FirstLine Value
after FirstLine byte = if byte == 32 then FirstLine else (if byte == 110 then Classes Head else In Region)
after NextLine byte = if byte == 32 then NextLine else In Region
after (Before column) byte = if byte == 32 then Before column else In column
after (In column) byte = by_byte byte (Before (next_column column)) NextLine (In column)
after (Classes place) byte = Classes (class_after place byte)

-- the first byte of a number of this column; a hyphen stands for none
abbrev pub first_of : Column → ℕ → List ℕ
first_of column byte = column_name column ++ (if byte == 45 then codes "null" else byte ∷ [])

-- what a byte at this place adds to the object
abbrev pub piece : Place → ℕ → List ℕ
piece Name byte = by_byte byte (codes "\":") (codes "\":true") (if byte == 45 then codes "_" else byte ∷ [])
piece Value byte = by_byte byte (codes ",\"") [] (byte ∷ [])
piece FirstLine byte =
    if byte == 32 then [] else (if byte == 110 then codes ",\"classes\":[" else codes ",\"regions\":[" ++ first_of Region byte)
piece NextLine byte = if byte == 32 then [] else codes "," ++ first_of Region byte
piece (Before column) byte = if byte == 32 then [] else first_of column byte
piece (In column) byte = by_byte byte [] (codes "}") (byte ∷ [])
piece (Classes place) byte = class_piece place byte

-- the end of the object of a text that ends at this place
abbrev pub ending : Place → List ℕ
ending NextLine = codes "]}\n"
ending place = codes "}\n"

-- the rest of the object, for the rest of the text from this place on
abbrev pub rest_of : Place → List ℕ → List ℕ
rest_of place [] = ending place
rest_of place (byte ∷ rest) = piece place byte ++ rest_of (after place byte) rest

-- the object of a text that begins with a line of names and values, each with a space between, and goes on with lines of columns or
-- a histogram of classes; a name without a value is true, and has `_` for each hyphen
abbrev pub json_of : List ℕ → List ℕ
json_of text = codes "{\"" ++ rest_of Name text

-- what is shown of what a command prints: the object of it, or itself
abbrev pub as_shown : Bool → List ℕ → List ℕ
as_shown json text = if json then json_of text else text

-- the object of a difference at this number
abbrev pub placed : List ℕ → ℕ → List ℕ
placed place number = codes "{\"same\":false,\"differs\":\"" ++ (place ++ (codes "\",\"at\":" ++ (decimal number ++ codes "}\n")))

-- the object of the first difference between two images
abbrev pub difference_object : Difference → List ℕ
difference_object Difference.Shape = codes "{\"same\":false,\"differs\":\"shape\"}\n"
difference_object (Difference.Word address) = placed (codes "word") address
difference_object (Difference.Live index) = placed (codes "live") index
difference_object (Difference.Root index) = placed (codes "root") index
