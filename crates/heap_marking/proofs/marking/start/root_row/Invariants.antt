use Rattle.std.proofs.Common.{◌≡◌, ◌<◌, ℕ, true, length, take}
use Rattle.std.specs.List.{list_any}
use Rattle.object_heap.specs.HeapImage.{leads_to}
use Rattle.heap_marking.specs.Spread.{Sends, AreSent}
use Rattle.heap_marking.proofs.marking.start.root_row.Given as goal

abbrev pub invariant-loop-root : goal.invariant-loop-root
invariant-loop-root l = record {
  count : length l.row ≡ l.fn.count;
  sent : (b : ℕ) → b < l.fn.words → list_any (λ w. leads_to w b) (take l.root-index l.roots) ≡ true → Sends l.fn.log l.row b;
  sound : AreSent l.fn.log l.fn.words (λ b. list_any (λ w. leads_to w b) (take l.root-index l.roots)) l.row;
}
