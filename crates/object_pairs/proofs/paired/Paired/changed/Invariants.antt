use Rattle.std.proofs.Common.{◌≡◌, cond}
use Rattle.std.specs.Prelude.{map, sum}
use Rattle.std.specs.List.{range_with_len}
use Rattle.object_pairs.specs.Conflicts.{changed_at, held}
use Rattle.object_pairs.proofs.paired.Paired.changed.Given as goal

abbrev pub invariant-loop-index : goal.invariant-loop-index
invariant-loop-index l =
    l.changed ≡ held (sum (map (λ i. cond (changed_at l.self.before.now.objects.items l.self.after.now.objects.items l.self.pairing.now.partners.items i) 1 0) (range_with_len 0 l.index)))
