use Rattle.std.proofs.Common.{◌<◌, ◌≤◌, ◌+◌, ◌-◌, ℕ}
use Rattle.std.specs.Prelude.{IsTrue}
use Rattle.std.specs.List.{list_any, range_with_len}
use Rattle.object_heap.specs.HeapImage.{heap_words, reference_at, leads_to}
use Rattle.heap_marking.specs.Spread.{IsPart, IsSpread}
use Rattle.heap_marking.proofs.marking.part.Part.follow.Given as goal

-- the first fields are visited
abbrev pub invariant-loop-next : goal.invariant-loop-next
invariant-loop-next l = record {
  spread : IsSpread l.fn.log (heap_words l.heap) (λ b. list_any (λ f. leads_to (reference_at l.heap l.fn.object.address f) b) (range_with_len 0 (l.next - (l.fn.object.address + 1)))) l.initial.self l.self;
  part : IsPart l.fn.log (heap_words l.heap) l.self;
  formed : IsTrue l.self.well_formed → IsTrue l.initial.self.well_formed × ((f : ℕ) → f < l.next - (l.fn.object.address + 1) → reference_at l.heap l.fn.object.address f ≤ heap_words l.heap);
  low : l.fn.object.address + 1 ≤ l.next;
  high : l.next ≤ l.end;
}

-- each turn visits a row of one word or more
abbrev pub decreases-loop-next : goal.decreases-loop-next
decreases-loop-next l = l.end - l.next
