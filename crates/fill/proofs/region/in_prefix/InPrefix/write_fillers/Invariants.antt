use Rattle.std.proofs.Common.{◌-◌, ◌≤◌, ◌≡◌, length}
use Rattle.object_heap.specs.HeapImage.{word_at}
use Rattle.fill.specs.WordBlocks.{IsSplitAt}
use Rattle.fill.specs.CopiedWords.{copied_word}
use Rattle.fill.proofs.region.in_prefix.InPrefix.write_fillers.Given as goal

abbrev pub invariant-loop-at : goal.invariant-loop-at
invariant-loop-at l = record {
  low : l.self.site.span.start ≤ l.at;
  high : l.at ≤ l.self.site.span.end;
  split : IsSplitAt (copied_word l.self.site.guide.now) (word_at l.self.site.guide.now) l.self.site.span.start l.words l.at;
  same_length : length l.words ≡ length l.initial.words;
}

abbrev pub decreases-loop-at : goal.decreases-loop-at
decreases-loop-at l = l.self.site.span.end - l.at
