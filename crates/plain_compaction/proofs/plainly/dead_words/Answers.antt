use Rattle.std.proofs.Common.{arith, ◌∙◌, sym, ap}
use Rattle.std.specs.Prelude.{not}
use Rattle.object_heap.specs.HeapImage.{is_dead_word}
use Rattle.plain_compaction.proofs.Lemmas.Counts.{count_by-more_yes, count_by-more_no}
use Rattle.plain_compaction.proofs.plainly.dead_words.Goals as goal
use Rattle.plain_compaction.proofs.plainly.dead_words.Goals.{then-not-is_live_word, else-not-is_live_word}

pub loop-q-preserved : goal.loop-q-preserved
loop-q-preserved c = elim c.if-not-is_live_word.branch [
  | then-not-is_live_word w ↦ let more = count_by-more_yes (is_dead_word c.args.image.now) c.args.from c.loop-q.q c.loop-q.auto.q (ap not (sym c.is_live_word.ensures ∙ w.if-not-is_live_word.true)) in rw w.count-is (omega arith, omega arith)
  | else-not-is_live_word w ↦ let more = count_by-more_no (is_dead_word c.args.image.now) c.args.from c.loop-q.q c.loop-q.auto.q (ap not (sym c.is_live_word.ensures ∙ w.if-not-is_live_word.false)) in rw w.count-is (omega arith, omega arith)
]
