use Rattle.std.proofs.Common.{◌≡◌, ◌++◌, take, codes}
use Rattle.std.specs.Prelude.{flat_map}
use Rattle.heap_text.specs.Text.{reference_text}
use Rattle.heap_text.proofs.writing.write_roots.Given as goal

abbrev pub invariant-loop-root : goal.invariant-loop-root
invariant-loop-root l = l.text.items ≡ l.fn.text.items ++ (codes "roots" ++ flat_map reference_text (take l.root-index l.roots))
