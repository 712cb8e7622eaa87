-- The objects of a heap, and their references.
use Rattle.std.specs.Prelude.{ℕ, ◌+◌, Bool, ◌&&◌, ◌||◌, ◌==◌, nat_le, nat_lt, if◌then◌else◌, List, [], length, map, min, slice_range}
use Rattle.object_pairs.specs.declared.graph.Object.{Object}
use Rattle.object_pairs.specs.declared.graph.Root.{Root}

abbrev pub ids : List Object → List ℕ
ids objects = map (λ o. o.id) objects

-- both are of one class, and have as many references and as many bytes of data
abbrev pub is_alike : Object → Object → Bool
is_alike a b = (a.class == b.class) && ((a.references == b.references) && (a.data_bytes == b.data_bytes))

-- the index behind the last reference of an object
abbrev pub last_of : Object → ℕ
last_of object = min (object.first + object.references) 18446744073709551615

-- the references of an object, among those of its graph
abbrev pub references_of : List ℕ → Object → List ℕ
references_of references object =
    if nat_le (last_of object) (length references) then slice_range references object.first (last_of object) else []

-- a root is of a lower kind than another, or of its kind at a lower place
abbrev pub comes_before : Root → Root → Bool
comes_before a b = nat_lt a.kind b.kind || ((a.kind == b.kind) && nat_lt a.place b.place)
