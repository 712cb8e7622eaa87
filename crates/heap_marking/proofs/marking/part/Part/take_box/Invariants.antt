use Rattle.std.proofs.Common.{◌≡◌, ◌&&◌, take}
use Rattle.std.specs.List.{list_any}
use Rattle.object_heap.specs.HeapImage.{leads_to}
use Rattle.heap_marking.specs.Spread.{is_in, IsPart, IsSpread}
use Rattle.heap_marking.proofs.marking.part.Part.take_box.Given as goal

-- the first references are taken
abbrev pub invariant-loop-reference : goal.invariant-loop-reference
invariant-loop-reference l = record {
  spread : IsSpread l.fn.log l.fn.words (λ b. list_any (λ w. leads_to w b) (take l.reference-index l.references) && is_in l.fn.log l.initial.self b) l.initial.self l.self;
  part : IsPart l.fn.log l.fn.words l.self;
  out : l.self.out ≡ l.initial.self.out;
  well_formed : l.self.well_formed ≡ l.initial.self.well_formed;
}
