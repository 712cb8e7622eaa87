-- Room whose first words are written.
use Rattle.std.specs.Prelude.{ℕ, ◌-◌, List}
use Rattle.std.specs.Borrow.{full_share, u64, Array}
use Rattle.std.specs.Ptr.{Ptr, lies_at}
use denote.RawPtr.{room_for}
use mir.Syntax.{w64, ty_int, ty_array}
use base.Fml.{Fml, fsep}
use Rattle.raw_region.specs.Block.{Deed, right, is_length}
use Rattle.raw_region.specs.Cutting.{end_of}

-- i of n words at p, which are ws, room for the others, and the right to free an allocation, or none
abbrev pub filling_owns : Deed → Ptr → ℕ → ℕ → List ℕ → Fml
filling_owns deed p n i ws = fsep (is_length n) (fsep (lies_at (Array u64 i) full_share p ws) (fsep (room_for (ty_array (ty_int w64) (n - i)) (end_of p i)) (right deed)))
