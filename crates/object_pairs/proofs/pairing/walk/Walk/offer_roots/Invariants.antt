use Rattle.std.proofs.Common.{◌+◌, length}
use Rattle.object_pairs.specs.Pairing.{IsPairing}
use Rattle.object_pairs.proofs.pairing.walk.Walk.offer_roots.Given as goal

abbrev pub invariant-loop-one : goal.invariant-loop-one
invariant-loop-one l = IsPairing l.before.objects.items l.after.objects.items l.self.pairing

abbrev pub decreases-loop-one : goal.decreases-loop-one
decreases-loop-one l = length l.sources + length l.targets
