use Rattle.std.proofs.Common.{◌≡◌, ap, sym, ◌∙◌, arith}
use Rattle.object_heap.specs.Header.{size_of}
use Rattle.object_heap.specs.HeapImage.{size_at, word_at}
use Rattle.history.proofs.machine.references.is_deferred.Goals as goal

pub overflow_add-last : goal.overflow_add-last
overflow_add-last c =
    let fits = c.new_words_fit.ensures c.args.plan.now c.region_words-size.ensures.valid c.args.a c.requires.live in
    let few = c.region_words-size.ensures.valid.limits.few_words in
    let size : c.from.result ≡ size_at c.args.plan.now c.args.a = c.from.ensures ∙ (c.size.ensures ∙ ap size_of c.requires.header) ∙ sym (c.planned_image_is_own.ensures.sizes (word_at c.args.plan.now c.args.a)) in
    omega (arith, fits.0, fits.1)
