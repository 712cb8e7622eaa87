use Rattle.std.proofs.Common.{◌≡◌}
use Rattle.std.specs.Prelude.{map}
use Rattle.std.specs.List.{range_with_len}
use Rattle.object_pairs.specs.Comparison.{figures_at}
use Rattle.object_pairs.proofs.comparison.spaces_of.Given as goal

abbrev pub invariant-loop-index : goal.invariant-loop-index
invariant-loop-index l =
    l.spaces.items ≡ map (figures_at l.paired.before.now.objects.items l.paired.after.now.objects.items l.paired.pairing.now.partners.items) (range_with_len 0 l.index)
