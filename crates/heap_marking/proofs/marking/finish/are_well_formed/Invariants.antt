use Rattle.std.proofs.Common.{◌≡◌, true, take, All}
use Rattle.heap_marking.proofs.marking.finish.are_well_formed.Given as goal

abbrev pub invariant-loop-part : goal.invariant-loop-part
invariant-loop-part l = record {
  fine : All (λ p. p.well_formed ≡ true) (take l.part-index l.parts);
}
