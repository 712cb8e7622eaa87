use Rattle.std.proofs.Common.{◌≡◌, take, true}
use Rattle.std.specs.List.{list_all}
use Rattle.object_pairs.specs.Comparison.{is_dense}
use Rattle.object_pairs.proofs.comparison.Comparison.is_dense.Given as goal

abbrev pub invariant-loop-space : goal.invariant-loop-space
invariant-loop-space l = list_all is_dense (take l.space-index l.self.spaces.items) ≡ true
