use Rattle.std.proofs.Common.{◌≡◌, ◌<◌, ◌≤◌, ◌+◌, ◌-◌, ℕ}
use Rattle.std.specs.Prelude.{IsTrue}
use Rattle.std.specs.List.{list_any, range_with_len}
use Rattle.object_heap.specs.HeapImage.{reference_at, leads_to}
use Rattle.heap_marking.specs.Marking.{IsGrown}
use Rattle.heap_marking.proofs.marking.Marking.follow.Given as goal

-- the first fields are visited
abbrev pub invariant-loop-next : goal.invariant-loop-next
invariant-loop-next l = record {
  grown : IsGrown l.initial.self.words (λ b. list_any (λ f. leads_to (reference_at l.heap l.fn.object.address f) b) (range_with_len 0 (l.next - (l.fn.object.address + 1)))) l.initial.self.bits l.self.bits l.initial.self.stack.items l.self.stack.items;
  formed : IsTrue l.self.well_formed → IsTrue l.initial.self.well_formed × ((f : ℕ) → f < l.next - (l.fn.object.address + 1) → reference_at l.heap l.fn.object.address f ≤ l.initial.self.words);
  low : l.fn.object.address + 1 ≤ l.next;
  high : l.next ≤ l.end;
  words : l.self.words ≡ l.initial.self.words;
}

-- each turn visits a row of one word or more
abbrev pub decreases-loop-next : goal.decreases-loop-next
decreases-loop-next l = l.end - l.next
