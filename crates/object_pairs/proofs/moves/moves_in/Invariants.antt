use Rattle.std.proofs.Common.{◌≡◌, ◌≤◌}
use Rattle.std.specs.Prelude.{max}
use Rattle.object_pairs.specs.Moves.{moves_in}
use Rattle.object_pairs.proofs.moves.moves_in.Given as goal

abbrev pub invariant-loop-index : goal.invariant-loop-index
invariant-loop-index l = record {
  moves : l.moves.items ≡ moves_in l.paired.before.now.objects.items l.paired.after.now.objects.items l.paired.pairing.now.partners.items l.first l.index;
  within : l.index ≤ max l.first l.end;
}
