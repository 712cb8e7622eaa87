use Rattle.std.proofs.Common.{take}
use Rattle.scheduler.specs.Scheduler.{ArePairCounts}
use Rattle.scheduler.proofs.moves.tallies.count_sources.Given as goal

abbrev pub invariant-loop-destination : goal.invariant-loop-destination
invariant-loop-destination l = ArePairCounts l.moves (λ pair. pair.0) (take l.destination-index l.moves.pairs) l.counts.items
