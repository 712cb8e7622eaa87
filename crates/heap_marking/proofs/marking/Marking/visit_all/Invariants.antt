use Rattle.std.proofs.Common.{◌≡◌, ◌≤◌, take, All}
use Rattle.std.specs.Prelude.{IsTrue}
use Rattle.std.specs.List.{list_any}
use Rattle.object_heap.specs.HeapImage.{leads_to}
use Rattle.heap_marking.specs.Marking.{IsGrown}
use Rattle.heap_marking.proofs.marking.Marking.visit_all.Given as goal

-- the first references are visited
abbrev pub invariant-loop-reference : goal.invariant-loop-reference
invariant-loop-reference l = record {
  grown : IsGrown l.initial.self.words (λ b. list_any (λ w. leads_to w b) (take l.reference-index l.references)) l.initial.self.bits l.self.bits l.initial.self.stack.items l.self.stack.items;
  inside : IsTrue l.inside → All (λ w. w ≤ l.initial.self.words) (take l.reference-index l.references);
  well_formed : l.self.well_formed ≡ l.initial.self.well_formed;
  words : l.self.words ≡ l.initial.self.words;
}
