use Rattle.std.proofs.Common.{◌≡◌, false, take, All}
use Rattle.heap_marking.proofs.marking.rounds.has_failed.Given as goal

abbrev pub invariant-loop-part : goal.invariant-loop-part
invariant-loop-part l = record {
  fine : All (λ p. p.failed ≡ false) (take l.part-index l.parts);
}
