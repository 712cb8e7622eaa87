use Rattle.std.proofs.Common.{rules}
use Rattle.std.proofs.Common.{◌+◌, ap, ◌∙◌, arith}
use Rattle.raw_region.specs.Region.{with_words, part}
use Rattle.raw_region.proofs.Lemmas.Parts.{with_words-more}
use Rattle.raw_region.proofs.chunks.move_down.Goals as goal

pub loop-moved-preserved : goal.loop-moved-preserved
loop-moved-preserved c =
    let before = c.loop-moved.invariant in
    let step = c.move_first-moved.ensures in
    let old = c.args.words.now in
    let from = c.args.from in
    let to = c.args.to in
    let moved = c.loop-moved.moved in
    let count = c.move_first-moved.result in
    let source = c.requires.source in
    let within = step.within in
    let so_far = before.within in
    record {
      within = search rules;
      same_length = search rules;
      value = step.value
          ∙ ap (λ words. with_words words (to + moved) (part words (from + moved) count)) before.value
          ∙ with_words-more old from to moved count c.requires.downward (omega arith);
    }
