use Rattle.std.specs.Prelude.{take}
use Rattle.std.specs.List.{concat}
use Rattle.heap_dump.specs.Weak.{AreNull, slots_of}
use Rattle.heap_dump.proofs.heap.weak.are_null.Given as goal

abbrev pub invariant-loop-reference : goal.invariant-loop-reference
invariant-loop-reference l = AreNull (slots_of (take l.reference-index l.weak)) (concat l.regions)
