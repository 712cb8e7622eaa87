use Rattle.std.proofs.Common.{◌≡◌, take}
use Rattle.std.specs.Prelude.{map}
use Rattle.summary.specs.Compaction.{redirected}
use Rattle.plain_compaction.proofs.plainly.new_roots.Given as goal

abbrev pub invariant-loop-w : goal.invariant-loop-w
invariant-loop-w l = l.roots.items ≡ map (redirected l.image) (take l.w-index l.w-items)
