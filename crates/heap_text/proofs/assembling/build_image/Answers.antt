use Rattle.std.proofs.Common.{◌≡◌, ◌∙◌, ap, sym}
use Rattle.object_heap.specs.Version.{has_roots}
use Rattle.object_heap.specs.HeapImage.{HeapImage}
use Rattle.heap_text.specs.ImageBytes.{bytes_left, Gives}
use Rattle.heap_text.specs.Text.{text_of}
use Rattle.heap_text.proofs.Lemmas.ImageSteps.{bytes_are, tail_few, tails_same, text_error}
use Rattle.std.proofs.lemmas.Result.{err_from_is_err_and}
use Rattle.heap_text.proofs.assembling.build_image.Goals as goal

pub returns-in_err-check_live_objects-clause-accepts : goal.returns-in_err-check_live_objects-clause-accepts
returns-in_err-check_live_objects-clause-accepts c image valid is p =
    let gives : Gives image c.in_ok-bytes.bytes = bytes_are image c.args.heap p valid (bytes_left c.in_ok-bytes.bytes) c.front-front.result c.numbers_after_words-tail.result.now
    (c.front-front.ensures (tail_few image c.args.heap p (c.text_tells_its_size.ensures.fitting image valid) valid))
    (tails_same (has_roots c.args.heap.version) c.numbers_after_words-tail.result.now c.as_slice.result.now c.args.heap.roots.items c.as_slice-2.result.now c.args.heap.live.items
    c.numbers_after_words-tail.ensures c.as_slice.ensures.value c.as_slice-2.ensures.value)
    c.in_ok-bytes.ensures in
    let found : c.in_ok-image.image ≡ image = c.in_ok-image.ensures.accepts image valid gives in
    let lists : c.as_slice-3.result.now ≡ c.live.result.now = c.as_slice-3.ensures.value ∙ (p.live ∙ sym (c.live.ensures.value ∙ ap (λ (i : HeapImage). i.live) found)) in
    let no = c.in_err-check_live_objects.ensures.accepts lists in
    absurd (let none : ⊥ = cc in none)

pub returns-in_err-check_spelling-clause-accepts : goal.returns-in_err-check_spelling-clause-accepts
returns-in_err-check_spelling-clause-accepts c image valid is p =
    let gives : Gives image c.in_ok-bytes.bytes = bytes_are image c.args.heap p valid (bytes_left c.in_ok-bytes.bytes) c.front-front.result c.numbers_after_words-tail.result.now
    (c.front-front.ensures (tail_few image c.args.heap p (c.text_tells_its_size.ensures.fitting image valid) valid))
    (tails_same (has_roots c.args.heap.version) c.numbers_after_words-tail.result.now c.as_slice.result.now c.args.heap.roots.items c.as_slice-2.result.now c.args.heap.live.items
    c.numbers_after_words-tail.ensures c.as_slice.ensures.value c.as_slice-2.ensures.value)
    c.in_ok-bytes.ensures in
    let found : c.in_ok-image.image ≡ image = c.in_ok-image.ensures.accepts image valid gives in
    let right : c.args.text.now ≡ text_of c.in_ok-image.image = is ∙ ap text_of (sym found) in
    let e = err_from_is_err_and c.from_residual-in_err-check_spelling.result c.from_residual-in_err-check_spelling.ensures.1 in
    rw (e.1, e.2) (text_error c.in_err-check_spelling.field-0.0 _ _ (c.in_err-check_spelling.ensures.accepts right))

pub returns-clause-accepts : goal.returns-clause-accepts
returns-clause-accepts c image valid is p =
    let gives : Gives image c.in_ok-bytes.bytes = bytes_are image c.args.heap p valid (bytes_left c.in_ok-bytes.bytes) c.front-front.result c.numbers_after_words-tail.result.now
    (c.front-front.ensures (tail_few image c.args.heap p (c.text_tells_its_size.ensures.fitting image valid) valid))
    (tails_same (has_roots c.args.heap.version) c.numbers_after_words-tail.result.now c.as_slice.result.now c.args.heap.roots.items c.as_slice-2.result.now c.args.heap.live.items
    c.numbers_after_words-tail.ensures c.as_slice.ensures.value c.as_slice-2.ensures.value)
    c.in_ok-bytes.ensures in
    c.in_ok-image.ensures.accepts image valid gives
