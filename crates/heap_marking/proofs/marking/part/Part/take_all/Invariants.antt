use Rattle.std.proofs.Common.{◌≡◌, ◌&&◌, ◌/◌, ◌^◌, take}
use Rattle.heap_marking.specs.Boxes.{arrives}
use Rattle.heap_marking.specs.Spread.{is_in, IsPart, IsSpread}
use Rattle.heap_marking.proofs.marking.part.Part.take_all.Given as goal

-- the first rows are taken
abbrev pub invariant-loop-boxes : goal.invariant-loop-boxes
invariant-loop-boxes l = record {
  spread : IsSpread l.fn.log l.fn.words (λ b. arrives (take l.boxes-index l.sent) (l.initial.self.first / 2 ^ l.fn.log) b && is_in l.fn.log l.initial.self b) l.initial.self l.self;
  part : IsPart l.fn.log l.fn.words l.self;
  out : l.self.out ≡ l.initial.self.out;
  well_formed : l.self.well_formed ≡ l.initial.self.well_formed;
}
