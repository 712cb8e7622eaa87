use Rattle.std.proofs.Common.{◌≡◌, take}
use Rattle.std.specs.Prelude.{sum_by}
use Rattle.object_heap.specs.HeapImage.{size_at}
use Rattle.heap_dump.specs.Totals.{held}
use Rattle.heap_commands.proofs.shared.live_share.live_words.Given as goal

abbrev pub invariant-loop-a : goal.invariant-loop-a
invariant-loop-a l = l.words ≡ held (sum_by (size_at l.image) (take l.a-index l.image.live))
