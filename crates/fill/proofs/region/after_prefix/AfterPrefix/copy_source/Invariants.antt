use Rattle.std.proofs.Common.{◌-◌, ◌≡◌, ◌≤◌, length}
use Rattle.summary.specs.NewAddresses.{prefix_end}
use Rattle.summary.specs.WordMoves.{slid}
use Rattle.claim_board.specs.RegionBoards.{original_words}
use Rattle.fill.specs.WordBlocks.{IsSplitAt}
use Rattle.fill.specs.SlidWords.{held_word, slid_word}
use Rattle.fill.proofs.region.after_prefix.AfterPrefix.copy_source.Given as goal

abbrev pub invariant-loop-from : goal.invariant-loop-from
invariant-loop-from l = record {
  after : l.read.start ≤ l.from;
  inside : l.from ≤ l.read.end;
  after_prefix : prefix_end l.self.site.guide.now ≤ l.from;
  place : l.to ≡ slid l.self.site.guide.now l.from;
  low : l.self.site.span.start ≤ l.to;
  high : l.to ≤ l.self.site.span.end;
  split : IsSplitAt (slid_word l.self.site.guide.now (original_words l.self.board.now)) (held_word l.self.site.guide.now (original_words l.self.board.now)) l.self.site.span.start l.words l.to;
  same_length : length l.words ≡ length l.initial.words;
}

abbrev pub decreases-loop-from : goal.decreases-loop-from
decreases-loop-from l = l.read.end - l.from
