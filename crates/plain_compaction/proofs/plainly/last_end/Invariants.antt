use Rattle.std.proofs.Common.{◌≡◌, take}
use Rattle.std.specs.Prelude.{fold}
use Rattle.object_heap.specs.HeapImage.{end_of}
use Rattle.plain_compaction.proofs.plainly.last_end.Given as goal

abbrev pub invariant-loop-a : goal.invariant-loop-a
invariant-loop-a l = l.end ≡ fold (λ _ a. end_of l.image a) 0 (take l.a-index l.a-items)
