use Rattle.std.proofs.Common.{◌≡◌, ◌≤◌, take, All}
use Rattle.std.specs.Prelude.{IsTrue}
use Rattle.std.specs.List.{list_any}
use Rattle.object_heap.specs.HeapImage.{leads_to}
use Rattle.heap_marking.specs.Spread.{IsPart, IsSpread}
use Rattle.heap_marking.proofs.marking.part.Part.visit_all.Given as goal

-- the first references are visited
abbrev pub invariant-loop-reference : goal.invariant-loop-reference
invariant-loop-reference l = record {
  spread : IsSpread l.fn.log l.fn.words (λ b. list_any (λ w. leads_to w b) (take l.reference-index l.references)) l.initial.self l.self;
  part : IsPart l.fn.log l.fn.words l.self;
  inside : IsTrue l.inside → All (λ w. w ≤ l.fn.words) (take l.reference-index l.references);
  well_formed : l.self.well_formed ≡ l.initial.self.well_formed;
}
