use Rattle.std.proofs.Common.{◌≡◌, ◌+◌, take}
use Rattle.std.specs.Prelude.{map}
use Rattle.heap_image.proofs.upgrading.roots_to.Given as goal

abbrev pub invariant-loop-a : goal.invariant-loop-a
invariant-loop-a l = l.roots.items ≡ map (λ a. a + 1) (take l.a-index l.live)
