use Rattle.std.proofs.Common.{◌≡◌, ◌≤◌, ◌-◌}
use Rattle.std.specs.Prelude.{count_by}
use Rattle.std.specs.List.{range_with_len}
use Rattle.object_heap.specs.HeapImage.{is_dead_word}
use Rattle.plain_compaction.proofs.plainly.dead_words.Given as goal

abbrev pub invariant-loop-q : goal.invariant-loop-q
invariant-loop-q l = (l.count ≡ count_by (is_dead_word l.image) (range_with_len l.from (l.q - l.from))) × (l.count ≤ l.q - l.from)
