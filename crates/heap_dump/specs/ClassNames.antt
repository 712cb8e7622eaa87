-- The names of the classes in a list of objects.
use Rattle.std.specs.Prelude.{ℕ, Bool, ◌-◌, ◌/◌, ◌%◌, false, ◌&&◌, ◌||◌, ◌==◌, nat_lt, nat_le, if◌then◌else◌, List, [], ◌∷◌, ◌++◌, flat_map, length, take, slice_get, slice_range, Option, None, Some, codes, count_by}
use Rattle.std.specs.Fmt.{digit_glyph, digits}
use Rattle.heap_dump.specs.declared.listing.class_kind.ClassKind.{ClassKind}
use Rattle.heap_dump.specs.declared.listing.class_kind.ClassKind.TheVariants.{Arrays, Classes, Instances}
use Rattle.heap_dump.specs.declared.listing.class_names.ClassNames.{ClassNames}
use Rattle.heap_dump.specs.declared.listing.class_names.NamedClass.{NamedClass}

-- the names of the numbers that are no class of the dump: arrays of an unknown class, arrays of primitive values, and classes
abbrev pub first_name : ℕ → List ℕ
first_name number =
    if number == 0 then codes "[?" else (if number == 1 then codes "[Z" else (if number == 2 then codes "[C" else
    (if number == 3 then codes "[F" else (if number == 4 then codes "[D" else (if number == 5 then codes "[B" else
    (if number == 6 then codes "[S" else (if number == 7 then codes "[I" else (if number == 8 then codes "[J" else
    (if number == 9 then codes "java.lang.Class" else codes "?")))))))))

-- the class of the dump with this number, if it is one
abbrev pub class_of : ClassNames → ℕ → Option NamedClass
class_of names number = if nat_lt number 10 then None else slice_get names.classes.items (number - 10)

-- a visible character but `\`
abbrev pub is_shown : ℕ → Bool
is_shown byte = (nat_le 33 byte && nat_le byte 91) || (nat_le 93 byte && nat_le byte 126)

-- a byte of a name: a dot for `/`, each other visible character but `\` as it is, and `\xNN` for any other byte
abbrev pub shown_byte : ℕ → List ℕ
shown_byte byte =
    if byte == 47 then codes "." else
    (if is_shown byte then byte ∷ [] else
    codes "\\x" ++ digit_glyph false (byte / 16) ∷ digit_glyph false (byte % 16) ∷ [])

-- the bytes of a name in the dump
abbrev pub inner_name : ClassNames → NamedClass → List ℕ
inner_name names class =
    if nat_le class.start class.end && nat_le class.end (length names.bytes.items)
    then slice_range names.bytes.items class.start class.end else []

-- a name of the class with this id: of more than 500 bytes the first 500, a mark, and the id
abbrev pub cut_name : ℕ → List ℕ → List ℕ
cut_name id name =
    if nat_le (length name) 500 then flat_map shown_byte name
    else flat_map shown_byte (take 500 name) ++ (codes "...@" ++ digits 16 false id)

-- a class without a name is shown by its id
abbrev pub shown_name : ClassNames → ℕ → Option NamedClass → List ℕ
shown_name names number None = first_name number
shown_name names number (Some class) =
    if nat_lt class.start class.end then cut_name class.id (inner_name names class) else codes "class@" ++ digits 16 false class.id

-- the name of the class with this number
abbrev pub name_of : ClassNames → ℕ → List ℕ
name_of names number = shown_name names number (class_of names number)

-- an id in hexadecimal
abbrev pub id_text : ℕ → List ℕ
id_text id = codes "0x" ++ digits 16 false id

-- how many lines a text ends
abbrev pub newlines : List ℕ → ℕ
newlines text = count_by (λ byte. byte == 10) text

-- what the objects are of a class with this number
abbrev pub kind_or : ℕ → Option NamedClass → ClassKind
kind_or number None = if number == 9 then Classes else Arrays
kind_or number (Some class) = class.kind

-- how many words larger such an object may be in the machine
abbrev pub padding_of : ClassKind → ℕ
padding_of Arrays = 2
padding_of Classes = 17
padding_of Instances = 1

abbrev pub most_padding : ClassNames → ℕ → ℕ
most_padding names number = padding_of (kind_or number (class_of names number))
