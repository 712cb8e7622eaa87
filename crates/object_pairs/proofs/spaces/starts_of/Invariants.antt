use Rattle.std.proofs.Common.{◌≡◌}
use Rattle.std.specs.Prelude.{filter}
use Rattle.std.specs.List.{range_with_len}
use Rattle.object_pairs.specs.Spaces.{begins}
use Rattle.object_pairs.proofs.spaces.starts_of.Given as goal

abbrev pub invariant-loop-index : goal.invariant-loop-index
invariant-loop-index l = l.starts.items ≡ filter (begins l.objects) (range_with_len 0 l.index)
