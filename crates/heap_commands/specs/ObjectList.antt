-- The list of the objects of an imported image.
use Rattle.std.specs.Prelude.{◌≡◌, ℕ, ◌*◌, ◌≤◌, Bool, if◌then◌else◌, List, ◌++◌, flat_map, length, codes, decimal}
use Rattle.heap_dump.specs.ClassNames.{id_text, name_of, newlines}
use Rattle.heap_dump.specs.declared.listing.class_names.ClassNames.{ClassNames}
use Rattle.heap_dump.specs.declared.listing.ListedObject.{ListedObject}
use Rattle.heap_commands.specs.Histogram.{bytes_of}

abbrev pub state_of : Bool → List ℕ
state_of is_live = if is_live then codes "live" else codes "dead"

-- `count` lines, which aren't long
pub record HasRows (text : List ℕ) (count : ℕ) : Type 0 where
  pub rows : newlines text ≡ count
  pub short : length text ≤ 2087 * count

module _ (names : ClassNames) where
  -- the line of an object: its address, its id in the dump in hexadecimal, its class, its bytes, and whether it is live
  abbrev pub object_line : ListedObject → List ℕ
  object_line object = (decimal object.address ++ codes " ") ++ (id_text object.id ++ (codes " " ++ (name_of names object.class
      ++ (codes " " ++ (decimal (bytes_of object.words) ++ (codes " " ++ (state_of object.is_live ++ codes "\n")))))))

  -- the lines of these objects
  abbrev pub list_text : List ListedObject → List ℕ
  list_text objects = flat_map object_line objects
