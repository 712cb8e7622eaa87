-- A frame: one allocation whose words are parts of one size, each of which is in its slot or out.
use Rattle.std.specs.Prelude.{◌≡◌, ℕ, ◌-◌, ◌*◌, ◌^◌, ◌<◌, ◌≤◌, List, length, map, Some, None}
use Rattle.std.specs.List.{range_with_len}
use Rattle.std.specs.Ptr.{Ptr}
use Rattle.raw_region.specs.declared.room.Room.{Room}
use Rattle.raw_region.specs.declared.block.TheConstants.{MAX_WORDS}
use Rattle.raw_region.specs.Cutting.{end_of}

-- a part by its number, among parts of `size` words that begin at `root`
pub record Place : Type 0 where
  pub root : Ptr
  pub size : ℕ
  pub index : ℕ

abbrev pub place_of : Ptr → ℕ → ℕ → Place
place_of root size index = record { root = root; size = size; index = index }

-- the block has the words of that part, and frees nothing
pub record IsPart (place : Place) (b : Room) : Type 0 where
  pub at : b.at ≡ end_of place.root (place.index * place.size)
  pub len : b.len ≡ place.size
  pub deed : b.deed ≡ None

-- the words of the parts from number k on, of n in all
pub record IsRest (root : Ptr) (size n k : ℕ) (b : Room) : Type 0 where
  pub at : b.at ≡ end_of root (k * size)
  pub len : b.len ≡ n * size - k * size
  pub deed : b.deed ≡ None

-- what a contract sees of a frame: where it begins, and the size and number of its parts
pub record FrameView : Type 0 where
  pub root : Ptr
  pub size : ℕ
  pub count : ℕ

abbrev pub part_of : FrameView → ℕ → Place
part_of f index = place_of f.root f.size index

-- the deed has no words, lies at the root, and may free those of all parts; there is a slot for each part, in order
pub record IsFrame (deed : Room) (root : Ptr) (size : ℕ) (slots : List Place) : Type 0 where
  pub begins : root ≡ deed.at
  pub some : 1 ≤ size
  pub most : size ≤ MAX_WORDS
  pub fits : length slots * size < 2 ^ 60
  pub empty : deed.len ≡ 0
  pub frees : deed.deed ≡ Some (deed.at, length slots * size)
  pub slots_are : slots ≡ map (place_of deed.at size) (range_with_len 0 (length slots))
