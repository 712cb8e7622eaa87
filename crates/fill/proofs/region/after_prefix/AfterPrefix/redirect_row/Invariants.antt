use Rattle.std.proofs.Common.{◌-◌, ◌≤◌, ◌≡◌, length}
use Rattle.summary.specs.Compaction.{moved_word}
use Rattle.fill.specs.WordBlocks.{IsSplitAt}
use Rattle.fill.specs.CopiedWords.{copied_word}
use Rattle.fill.specs.Objects.{IsBetween}
use Rattle.fill.proofs.region.after_prefix.AfterPrefix.redirect_row.Given as goal

abbrev pub invariant-loop-at : goal.invariant-loop-at
invariant-loop-at l = record {
  low : l.self.site.span.start ≤ l.at;
  between : IsBetween l.self.site.guide.now l.at;
  split : IsSplitAt (moved_word l.self.site.guide.now) (copied_word l.self.site.guide.now) l.self.site.span.start l.words l.at;
  same_length : length l.words ≡ length l.initial.words;
}

abbrev pub decreases-loop-at : goal.decreases-loop-at
decreases-loop-at l = l.limit - l.at
