-- The figures of a space, from the moves of its paired objects.
use Rattle.std.specs.Prelude.{ℕ, ◌+◌, ◌-◌, Bool, not, ◌&&◌, ◌==◌, nat_le, nat_lt, if◌then◌else◌, List, count_by, drop, length, map, position, slice_index, unwrap_or}
use Rattle.std.specs.List.{zip}
use Rattle.object_pairs.specs.Conflicts.{held}
use Rattle.object_pairs.specs.declared.figures.SpaceFigures.{SpaceFigures}
use Rattle.object_pairs.specs.declared.moves.Move.{Move}

-- an object is where it was
abbrev pub stays : Move → Bool
stays m = m.from == m.to

-- each move but the last, and the next one
abbrev pub next_to_each : List Move → List (Move × Move)
next_to_each moves = zip moves (drop 1 moves)

-- how many objects are below the one that was before them
abbrev pub descents_of : List Move → ℕ
descents_of moves = count_by (λ x. nat_lt x.1.to x.0.to) (next_to_each moves)

-- how many objects but the last have another distance to the next object than before
abbrev pub holes_of : List Move → ℕ
holes_of moves = count_by (λ x. not (x.0.from_step == x.0.to_step)) (next_to_each moves)

-- where the next object behind the k-th of these is, or begins
abbrev pub end_of : List Move → ℕ → ℕ
end_of moves k = held (slice_index (map (λ m. m.to) moves) k + slice_index (map (λ m. m.to_step) moves) k)

-- the k-th of these slid down, to a place at `end` or behind it
abbrev pub slid_behind : List Move → ℕ → ℕ → Bool
slid_behind moves end k =
    nat_lt k (length moves) && (nat_le end (slice_index (map (λ m. m.to) moves) k)
    && nat_le (slice_index (map (λ m. m.to) moves) k) (slice_index (map (λ m. m.from) moves) k))

-- where a prefix of `count` objects ends: where the next object slid, or where the object behind the prefix begins
abbrev pub prefix_end : ℕ → List Move → ℕ → ℕ
prefix_end start moves count =
    if count == 0 then start else (if slid_behind moves (end_of moves (count - 1)) count
    then slice_index (map (λ m. m.to) moves) count else end_of moves (count - 1))

-- how many objects stayed before the first one that moved
abbrev pub prefix_of : List Move → ℕ
prefix_of moves = unwrap_or (position (λ m. not (stays m)) moves) (length moves)

abbrev pub figures_of : ℕ → List Move → SpaceFigures
figures_of start moves = record {
  start = start;
  paired = length moves;
  stayed = count_by stays moves;
  descents = descents_of moves;
  holes = holes_of moves;
  prefix = prefix_of moves;
  prefix_end = prefix_end start moves (prefix_of moves);
}
