-- The spaces of a heap: objects between wide gaps.
use Rattle.std.specs.Prelude.{ℕ, ◌+◌, ◌-◌, ◌*◌, Bool, ◌||◌, ◌==◌, nat_lt, nat_le, if◌then◌else◌, List, filter, length, map, slice_index}
use Rattle.std.specs.List.{range_with_len}
use Rattle.object_pairs.specs.Conflicts.{held}
use Rattle.object_pairs.specs.Graph.{ids}
use Rattle.object_pairs.specs.declared.graph.Object.{Object}

-- a gap behind this address is wide: it lies more than 4,096 bytes behind an object, whose references have 8 bytes
abbrev pub reach : Object → ℕ
reach object = held (held (object.id + (object.references * 8 + 4096)) + object.data_bytes)

-- a space begins with the i-th object: it is the first, or behind a wide gap
abbrev pub begins : List Object → ℕ → Bool
begins objects i = (i == 0) || nat_lt (slice_index (map reach objects) (i - 1)) (slice_index (ids objects) i)

-- the indexes of the objects with which spaces begin
abbrev pub starts_of : List Object → List ℕ
starts_of objects = filter (begins objects) (range_with_len 0 (length objects))

-- the index behind the last object of the k-th of these spaces
abbrev pub end_of_space : List ℕ → ℕ → ℕ → ℕ
end_of_space starts count k = if nat_lt (k + 1) (length starts) then slice_index starts (k + 1) else count
