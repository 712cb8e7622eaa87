use Rattle.std.proofs.Common.{take}
use Rattle.scheduler.specs.Scheduler.{ArePairCounts}
use Rattle.scheduler.proofs.moves.tallies.count_readers.Given as goal

abbrev pub invariant-loop-source : goal.invariant-loop-source
invariant-loop-source l = ArePairCounts l.moves (λ pair. pair.1) (take l.source-index l.moves.pairs) l.counts.items
