-- A histogram of classes, as a JSON list.
use Rattle.std.specs.Prelude.{ℕ, List, [], ◌∷◌, ◌++◌, ◌==◌, codes, if◌then◌else◌}
use Rattle.command_support.specs.declared.json.class_place.ClassColumn.{ClassColumn}
use Rattle.command_support.specs.declared.json.class_place.ClassColumn.TheVariants.{LiveObjects, LiveBytes, DeadObjects, DeadBytes, MachineBytes}
use Rattle.command_support.specs.declared.json.class_place.ClassPlace.{ClassPlace}
use Rattle.command_support.specs.declared.json.class_place.ClassPlace.TheVariants.{Head, First, Next, Number, Before, In, BeforeName, Name, Rest}

-- the place behind a number of this column
abbrev pub place_behind : ClassColumn → ClassPlace
place_behind LiveObjects = Before LiveBytes
place_behind LiveBytes = Before DeadObjects
place_behind DeadObjects = Before DeadBytes
place_behind DeadBytes = Before MachineBytes
place_behind MachineBytes = BeforeName

-- what stands before a number of this column
abbrev pub class_column_name : ClassColumn → List ℕ
class_column_name LiveObjects = codes "{\"live_objects\":"
class_column_name LiveBytes = codes ",\"live_bytes\":"
class_column_name DeadObjects = codes ",\"dead_objects\":"
class_column_name DeadBytes = codes ",\"dead_bytes\":"
class_column_name MachineBytes = codes ",\"machine_bytes\":"

-- a space, the first letter of `total`, or another byte
abbrev pub by_begin : {X : Type 0} → ℕ → X → X → X → X
by_begin byte space total other = if byte == 32 then space else (if byte == 116 then total else other)

-- the place after this byte
abbrev pub class_after : ClassPlace → ℕ → ClassPlace
class_after Head byte = if byte == 10 then First else Head
class_after First byte = by_begin byte First Rest Number
class_after Next byte = by_begin byte Next Rest Number
class_after Number byte = if byte == 58 then Before LiveObjects else Number
class_after (Before column) byte = if byte == 32 then Before column else In column
class_after (In column) byte = if byte == 32 then place_behind column else In column
class_after BeforeName byte = if byte == 32 then BeforeName else Name
class_after Name byte = if byte == 10 then Next else Name
class_after Rest byte = Rest

-- a byte of a name, with a backslash before a quote and before a backslash
abbrev pub escaped : ℕ → List ℕ
escaped byte = if byte == 34 then codes "\\\"" else (if byte == 92 then codes "\\\\" else byte ∷ [])

-- what a byte at this place adds to the object
abbrev pub class_piece : ClassPlace → ℕ → List ℕ
class_piece Head byte = []
class_piece First byte = by_begin byte [] (codes "]") []
class_piece Next byte = by_begin byte [] (codes "]") (codes ",")
class_piece Number byte = []
class_piece (Before column) byte = if byte == 32 then [] else class_column_name column ++ byte ∷ []
class_piece (In column) byte = if byte == 32 then [] else byte ∷ []
class_piece BeforeName byte = if byte == 32 then [] else codes ",\"class\":\"" ++ escaped byte
class_piece Name byte = if byte == 10 then codes "\"}" else escaped byte
class_piece Rest byte = []
