use Rattle.std.proofs.Common.{◌≡◌}
use Rattle.std.specs.Prelude.{map, sum}
use Rattle.std.specs.List.{range_with_len}
use Rattle.object_pairs.specs.Conflicts.{conflicts_at, held}
use Rattle.object_pairs.proofs.paired.Paired.conflicts.Given as goal

abbrev pub invariant-loop-index : goal.invariant-loop-index
invariant-loop-index l =
    l.conflicts ≡ held (sum (map (conflicts_at l.kind l.self.before.now l.self.after.now l.self.pairing.now.partners.items) (range_with_len 0 l.index)))
