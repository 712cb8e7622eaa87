use Rattle.std.proofs.Common.{◌≡◌, ℕ, ◌<◌, ◌≤◌, sym, ◌∙◌, ap, arith}
use Rattle.object_heap.specs.HeapImage.{HeapImage, word_at}
use Rattle.summary.specs.Compaction.{compact}
use Rattle.verification.proofs.Lemmas.Comparing.{gap_zero, tally_to}
use Rattle.verification.proofs.Lemmas.Placing.{filler_first}
use Rattle.verification.proofs.comparison_explained.WordComparison.compare_filler.Goals.{then-p-from, else-p-from}
use Rattle.verification.proofs.comparison_explained.WordComparison.compare_filler.Goals as goal

pub loop-p-preserved : goal.loop-p-preserved
loop-p-preserved c =
    let before : HeapImage = c.args.self.now.before.now in
    let after : HeapImage = c.args.self.now.after.now in
    let from : ℕ = c.args.from in
    let to : ℕ = c.args.to in
    let p : ℕ = c.loop-p.p in
    let low : from ≤ p = c.loop-p.auto.p in
    let high : p < to = c.loop-p-test.true in
    let some : from < to = omega (arith, low, high) in
    let run = c.fillers_by_runs.ensures.compacted_run before c.image_is_valid.ensures.live_list from to (c.requires.run some) in
    let wanted : word_at (compact before) p ≡ c.if-p-from.expected = elim c.if-p-from.branch [
      | then-p-from w ↦ ap (word_at (compact before)) w.if-p-from.true ∙ filler_first before from to some run ∙ sym w.filler-expected.ensures ∙ sym w.expected-is
      | else-p-from w ↦ gap_zero before from to p some run low high w.if-p-from.false ∙ sym w.expected-is
    ] in
    c.in_ok-compare.ensures.tally (word_at (compact before)) (word_at after) wanted (sym c.word.ensures) c.loop-p.invariant

pub returns : goal.returns
returns c =
    let end : c.loop-p.p ≡ c.args.to = (let high = c.loop-p.auto.p-end c.requires.ordered in let low = c.loop-p-test.false in omega arith) in
    tally_to c.loop-p.p c.args.to end c.loop-p.invariant
