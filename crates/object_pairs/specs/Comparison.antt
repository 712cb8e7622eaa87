-- What two dumps say of a collection.
use Rattle.std.specs.Prelude.{◌≡◌, ℕ, ◌+◌, ◌-◌, ◌/◌, Bool, true, false, not, ◌&&◌, ◌==◌, nat_le, if◌then◌else◌, List, count_by, length, map, slice_index}
use Rattle.std.specs.List.{list_all, range_with_len}
use Rattle.object_pairs.specs.Conflicts.{changed_in, conflicts_in, held}
use Rattle.object_pairs.specs.Figures.{figures_of}
use Rattle.object_pairs.specs.Graph.{ids}
use Rattle.object_pairs.specs.Moves.{moves_in}
use Rattle.object_pairs.specs.Spaces.{end_of_space, starts_of}
use Rattle.object_pairs.specs.declared.comparison.Comparison.{Comparison}
use Rattle.object_pairs.specs.declared.comparison.Verdict.{Verdict}
use Rattle.object_pairs.specs.declared.comparison.Verdict.TheVariants.{Slid, Broken, Incomparable}
use Rattle.object_pairs.specs.declared.figures.SpaceFigures.{SpaceFigures}
use Rattle.object_pairs.specs.declared.graph.Graph.{Graph}
use Rattle.object_pairs.specs.declared.graph.Object.{Object}
use Rattle.object_pairs.specs.declared.paired.conflict.Conflict.TheVariants.{Cleared, Filled, Elsewhere}

-- the figures of the k-th space of the heap before, from its objects' moves
abbrev pub figures_at : List Object → List Object → List ℕ → ℕ → SpaceFigures
figures_at before after partners k =
    figures_of (slice_index (ids before) (slice_index (starts_of before) k))
    (moves_in before after partners (slice_index (starts_of before) k) (end_of_space (starts_of before) (length before) k))

-- the counts of objects, of pairs, of references in conflict and of changed data, and the figures of each space
pub record IsComparison (before after : Graph) (partners : List ℕ) (comparison : Comparison) : Type 0 where
  pub before_count : comparison.before ≡ length before.objects.items
  pub after_count : comparison.after ≡ length after.objects.items
  pub paired : comparison.paired ≡ count_by (λ partner. not (partner == 0)) partners
  pub cleared : comparison.cleared ≡ conflicts_in Cleared before after partners
  pub filled : comparison.filled ≡ conflicts_in Filled before after partners
  pub elsewhere : comparison.elsewhere ≡ conflicts_in Elsewhere before after partners
  pub changed : comparison.changed ≡ changed_in before.objects.items after.objects.items partners
  pub spaces : comparison.spaces.items ≡ map (figures_at before.objects.items after.objects.items partners)
      (range_with_len 0 (length (starts_of before.objects.items)))

-- how many references are in conflict
abbrev pub conflicts_of : Comparison → ℕ
conflicts_of c = held (held (c.cleared + c.filled) + c.elsewhere)

-- at least half of the objects after are paired, and no more than 1 per cent and ten of their references are in conflict
abbrev pub are_comparable : Comparison → Bool
are_comparable c =
    not (c.paired == 0) && (nat_le (c.after / 2) c.paired && nat_le (conflicts_of c) (held (c.paired / 100 + 10)))

-- a space keeps its order and its distances
abbrev pub is_dense : SpaceFigures → Bool
is_dense space = (space.descents == 0) && (space.holes == 0)

abbrev pub verdict_of : Comparison → Verdict
verdict_of c = if are_comparable c then (if list_all is_dense c.spaces.items then Slid else Broken) else Incomparable

-- the exit status of a verdict
abbrev pub status_of : Verdict → ℕ
status_of Slid = 0
status_of Broken = 1
status_of Incomparable = 3
