use Rattle.std.proofs.Common.{rules, ◌≡◌, ◌∙◌, ◌+◌, ◌-◌, ap, take, drop, arith, take_all, length-drop}
use Rattle.std.specs.Prelude.{flat_map}
use Rattle.object_heap.specs.HeapImage.{word_at}
use Rattle.heap_text.specs.Text.{addresses_between, number_text}
use Rattle.heap_text.proofs.Lemmas.TextSteps.{prepend_word}
use Rattle.heap_text.proofs.word_row.write_number_row.Goals as goal

pub loop-place-preserved : goal.loop-place-preserved
loop-place-preserved c =
    let l = c.loop-place in
    let put = c.put_number-begin in
    let next : l.place ≡ l.place - 1 + 1 = omega (arith, c.loop-place-test.true) in
    record {
      from = omega (arith, c.loop-place-test.true);
      to = omega (arith, l.invariant.to);
      begin = omega (arith, put.ensures.before, l.invariant.begin);
      room = omega (arith, put.ensures.near, l.invariant.room, l.invariant.to, c.loop-place-test.true);
      text = prepend_word (λ a. number_text (word_at c.args.image.now a)) (drop put.result put.new.row) (drop l.begin l.row) (l.place - 1) l.place c.args.to
          (omega (arith, l.invariant.to, c.loop-place-test.true)) next l.invariant.text (rw c.word.ensures at put.ensures.text);
    }

pub returns : goal.returns
returns c =
    let l = c.loop-place in
    let at : l.place ≡ c.args.from = omega (arith, l.invariant.from, c.loop-place-test.false) in
    let whole : take (352 - l.begin) (drop l.begin l.row) ≡ flat_map (λ a. number_text (word_at c.args.image.now a)) (addresses_between c.args.from c.args.to) =
    take_all (352 - l.begin) (drop l.begin l.row) (omega (arith, length-drop l.begin l.row))
    ∙ (l.invariant.text ∙ ap (λ p. flat_map (λ a. number_text (word_at c.args.image.now a)) (addresses_between p c.args.to)) at) in
    search (rules, whole)
