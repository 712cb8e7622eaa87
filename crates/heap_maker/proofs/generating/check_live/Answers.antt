use Rattle.std.proofs.Common.{◌≡◌, ◌∙◌, ap, sym, arith}
use Rattle.object_heap.specs.HeapImage.{HeapImage, heap_words, live_words}
use Rattle.heap_maker.proofs.generating.check_live.Goals as goal

pub returns : goal.returns
returns c =
    let image : HeapImage = c.args.image.now in
    let planned : c.live_words-live_words.result ≡ c.args.room.live = omega arith in
    let counted : c.live_words-live_words.result ≡ live_words image 0 (heap_words image) =
    c.live_words-live_words.ensures ∙ ap (λ m. live_words m 0 c.len.result) c.in_ok-of.ensures ∙ ap (λ n. live_words image 0 n) c.len.ensures.value in
    sym counted ∙ planned
