-- Where objects were, and where they are.
use Rattle.std.specs.Prelude.{ℕ, ◌+◌, ◌-◌, ◌==◌, if◌then◌else◌, List, filter_map, Option, None, Some, slice_index}
use Rattle.std.specs.List.{range_with_len}
use Rattle.object_pairs.specs.Graph.{ids}
use Rattle.object_pairs.specs.Spaces.{begins}
use Rattle.object_pairs.specs.declared.graph.Object.{Object}
use Rattle.object_pairs.specs.declared.moves.Move.{Move}

-- the distance from an object to the next one of its space, or 0 from the last one
abbrev pub step_at : List Object → ℕ → ℕ
step_at objects i = if begins objects (i + 1) then 0 else slice_index (ids objects) (i + 1) - slice_index (ids objects) i

module _ (before after : List Object) where
  -- the move of the i-th object before to the j-th after
  abbrev pub move_to : ℕ → ℕ → Move
  move_to i j = record {
    from = slice_index (ids before) i;
    to = slice_index (ids after) j;
    from_step = step_at before i;
    to_step = step_at after j;
  }

module _ (before after : List Object) (partners : List ℕ) where
  -- the move of the i-th object before, if it has a partner
  abbrev pub move_of : ℕ → Option Move
  move_of i = if slice_index partners i == 0 then None else Some (move_to before after i (slice_index partners i - 1))

  -- the moves of the paired objects from an index up to another, in their order
  abbrev pub moves_in : ℕ → ℕ → List Move
  moves_in first end = filter_map move_of (range_with_len first (end - first))
