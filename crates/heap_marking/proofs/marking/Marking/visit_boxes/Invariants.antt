use Rattle.std.proofs.Common.{◌≡◌, take}
use Rattle.std.specs.Prelude.{IsTrue}
use Rattle.std.specs.List.{list_any}
use Rattle.object_heap.specs.HeapImage.{leads_to}
use Rattle.heap_marking.specs.Marking.{IsGrown}
use Rattle.heap_marking.proofs.marking.Marking.visit_boxes.Given as goal

-- the first boxes are visited
abbrev pub invariant-loop-k : goal.invariant-loop-k
invariant-loop-k l = record {
  grown : IsGrown l.initial.self.words (λ b. list_any (λ references. list_any (λ w. leads_to w b) references) (take l.k l.boxes)) l.initial.self.bits l.self.bits l.initial.self.stack.items l.self.stack.items;
  well_formed : IsTrue l.self.well_formed → IsTrue l.initial.self.well_formed;
  words : l.self.words ≡ l.initial.self.words;
}
