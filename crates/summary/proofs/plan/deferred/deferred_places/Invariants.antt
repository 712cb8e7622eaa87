use Rattle.std.proofs.Common.{◌≡◌, ℕ, ◌<◌, ◌≤◌, map}
use Rattle.std.specs.List.{range_with_len}
use Rattle.object_heap.specs.HeapImage.{start_of}
use Rattle.summary.specs.LiveObjects.{object_count, object_at}
use Rattle.summary.specs.NewAddresses.{new_address}
use Rattle.summary.specs.Plan.{place_in}
use Rattle.summary.specs.RegionData.{deferred}
use Rattle.summary.proofs.plan.deferred.deferred_places.Given as goal

abbrev pub invariant-loop-d : goal.invariant-loop-d
invariant-loop-d l = record {
  made : l.places.items ≡ map (λ d. place_in l.image d (deferred l.image d)) (range_with_len 0 l.d);
  within : l.placed ≤ object_count l.image;
  known : (i : ℕ) → i < l.placed → new_address l.image (object_at l.image i) < start_of l.image l.d;
}
