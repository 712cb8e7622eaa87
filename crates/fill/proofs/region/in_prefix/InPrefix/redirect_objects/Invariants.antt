use Rattle.std.proofs.Common.{◌-◌, ◌≤◌, ◌≡◌, length}
use Rattle.object_heap.specs.HeapImage.{heap_words}
use Rattle.summary.specs.WordMoves.{slid}
use Rattle.summary.specs.Compaction.{moved_word}
use Rattle.fill.specs.WordBlocks.{IsSplitAt}
use Rattle.fill.specs.CopiedWords.{copied_word}
use Rattle.fill.specs.Objects.{IsPassed}
use Rattle.fill.proofs.region.in_prefix.InPrefix.redirect_objects.Given as goal

abbrev pub invariant-loop-a : goal.invariant-loop-a
invariant-loop-a l = record {
  in_heap : l.from ≤ heap_words l.self.site.guide.now;
  low : l.self.site.span.start ≤ slid l.self.site.guide.now l.from;
  passed : IsPassed l.self.site.guide.now l.from;
  split : IsSplitAt (moved_word l.self.site.guide.now) (copied_word l.self.site.guide.now) l.self.site.span.start l.words (slid l.self.site.guide.now l.from);
  same_length : length l.words ≡ length l.initial.words;
}

abbrev pub decreases-loop-a : goal.decreases-loop-a
decreases-loop-a l = heap_words l.self.site.guide.now - l.from
