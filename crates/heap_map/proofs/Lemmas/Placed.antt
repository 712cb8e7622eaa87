-- The objects of the compacted heap, by those of the heap.
use Rattle.std.proofs.Common.{◌≡◌, ◌<◌, ◌≤◌, ◌+◌, ◌*◌, ◌/◌, ℕ, ap₂, arith}
use Rattle.std.specs.Prelude.{nat_lt}
use Rattle.std.proofs.lemmas.Bool.{cond-false, cond-true, lt-ltb, le-ltb}
use Rattle.std.proofs.lemmas.List.{get_or-map}
use Rattle.std.proofs.lemmas.Nat.{le-div}
use Rattle.std.proofs.Math.Nat.{div-mul-le_self}
use Rattle.object_heap.specs.Layout.{size_in}
use Rattle.object_heap.specs.HeapImage.{HeapImage, end_of, live_words}
use Rattle.summary.specs.Compaction.{compact}
use Rattle.summary.specs.LiveObjects.{object_at, object_count}
use Rattle.summary.specs.NewAddresses.{new_address, new_end_of, next_at, prefix_end, stays}
use Rattle.summary.specs.SameGraph.{IsSameGraph}
use Rattle.summary.specs.WordMoves.{slid}
use Rattle.heap_map.specs.Cells.{area_of, cell_between}

module _ (image : HeapImage) where
  pub place : (i : ℕ) → i < object_count image → object_at (compact image) i ≡ new_address image (object_at image i)
  place i inside = get_or-map (new_address image) image.live i 0 0 inside

  pub end : (i : ℕ) → i < object_count image → IsSameGraph image (compact image)
      → end_of (compact image) (object_at (compact image) i) ≡ new_end_of image (object_at image i)
  end i inside graph = ap₂ (λ p w. p + size_in image.layout w) (place i inside) (graph.headers i inside)

  -- an object of the dense prefix keeps its address
  pub stays-put : (a : ℕ) → a < prefix_end image → new_address image a ≡ a
  stays-put a low = cond-true (stays image a) a (next_at image a) (lt-ltb a (prefix_end image) low)

  -- any other moves to the prefix end or above
  pub goes-up : (a : ℕ) → prefix_end image ≤ a → new_address image a + 0 ≡ slid image (a + 0) → prefix_end image ≤ new_address image a
  goes-up a high counted =
      let e : slid image (a + 0) ≡ prefix_end image + live_words image (prefix_end image) (a + 0) = cond-false (nat_lt (a + 0) (prefix_end image)) (a + 0) (prefix_end image + live_words image (prefix_end image) (a + 0)) (le-ltb (a + 0) (prefix_end image) (omega arith)) in
      omega (arith, counted, e)

-- each cell begins at or after the start of the one before it
pub starts-ascend : (words n i : ℕ) → 0 < n → i * words / n ≤ (i + 1) * words / n
starts-ascend words n i some = le-div (i * words / n) ((i + 1) * words) n some (omega (arith, div-mul-le_self (i * words) n))

-- equal cells, by their parts
pub cell-same : (heap : HeapImage) (prefix top from to prefix' top' from' to' live : ℕ)
    → prefix ≡ prefix' → top ≡ top' → from ≡ from' → to ≡ to' → live ≡ live_words heap from to
    → record { from = from; to = to; live = live; area = area_of prefix top from to live } ≡ cell_between heap prefix' top' from' to'
cell-same heap prefix top from to prefix' top' from' to' live p t f o l = cc
