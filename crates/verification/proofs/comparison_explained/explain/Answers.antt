use Rattle.std.proofs.Common.{List, sym, ◌∙◌, subst}
use Rattle.object_heap.specs.HeapImage.{HeapImage, heap_words, word_at}
use Rattle.summary.specs.Compaction.{compact}
use Rattle.verification.specs.Explanation.{limit_of}
use Rattle.verification.specs.Tally.{IsTally}
use Rattle.verification.specs.declared.difference_tally.OtherWord.{OtherWord}
use Rattle.verification.proofs.Lemmas.Tallies.{listed_inside}
use Rattle.verification.proofs.comparison_explained.explain.Goals as goal

pub explain_each-requires : goal.explain_each-requires
explain_each-requires g c =
    let before : HeapImage = c.args.before.now in
    let after : HeapImage = c.args.after.heap.now in
    record {
      inside = listed_inside (word_at (compact before)) (word_at after) c.limit-limit.result (heap_words before) c.as_slice.result.now c.limit-limit.ensures.inside
          (c.as_slice.ensures.value ∙ c.in_ok-tally.ensures.listed);
    }

pub returns-clause-explanation : goal.returns-clause-explanation
returns-clause-explanation g c =
    let before : HeapImage = c.args.before.now in
    let after : HeapImage = c.args.after.heap.now in
    record {
      tally = subst (λ (xs : List OtherWord). IsTally (word_at (compact before)) (word_at after) (limit_of c.args.below_top before) c.in_ok-tally.tally.count xs c.in_ok-tally.tally.last)
          (sym (c.in_ok-first.ensures.words ∙ c.as_slice.ensures.value))
          (subst (λ n. IsTally (word_at (compact before)) (word_at after) n c.in_ok-tally.tally.count c.in_ok-tally.tally.first.items c.in_ok-tally.tally.last) c.limit-limit.ensures.value c.in_ok-tally.ensures);
      words = c.in_ok-first.ensures.explained;
      live = c.other_live.ensures;
      root = c.other_root.ensures;
    }
