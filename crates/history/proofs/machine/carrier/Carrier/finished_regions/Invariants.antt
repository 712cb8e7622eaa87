use Rattle.std.proofs.Common.{◌≡◌, ℕ, ◌-◌, ◌*◌, ◌<◌, ◌≤◌, length}
use Rattle.std.specs.Prelude.{map, reverse, slice_index}
use Rattle.std.specs.List.{range_with_len}
use Rattle.object_heap.specs.HeapImage.{region_count, region_words}
use Rattle.summary.specs.Compaction.{compacted_word, moved_word}
use Rattle.summary.specs.RegionData.{region_addresses}
use Rattle.history.proofs.machine.carrier.Carrier.finished_regions.Given as goal

-- the words below region r are there, and the regions from it on are made
abbrev pub invariant-loop-r : goal.invariant-loop-r
invariant-loop-r l = record {
  few : l.r ≤ region_count l.self.plan.now;
  long : length l.heap.items ≡ l.r * region_words l.self.plan.now;
  moved : (a : ℕ) → a < l.r * region_words l.self.plan.now → slice_index l.heap.items a ≡ moved_word l.self.plan.now a;
  made : reverse l.regions.items ≡ map (λ k. map (compacted_word l.self.plan.now) (region_addresses l.self.plan.now k)) (range_with_len l.r (region_count l.self.plan.now - l.r));
}

abbrev pub decreases-loop-r : goal.decreases-loop-r
decreases-loop-r l = l.r
