use Rattle.object_pairs.specs.Pairing.{IsPairing}
use Rattle.object_pairs.proofs.pairing.walk.Walk.follow_all.Given as goal

abbrev pub invariant-loop-place : goal.invariant-loop-place
invariant-loop-place l = IsPairing l.before.objects.items l.after.objects.items l.self.pairing
