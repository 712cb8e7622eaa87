use Rattle.std.proofs.Common.{◌≡◌, ◌+◌, ◌/◌, ◌<◌, ℕ, true, false, length, sym, ◌∙◌, ap, subst, arith}
use Rattle.std.specs.Prelude.{MatchOption}
use Rattle.object_heap.specs.HeapImage.{HeapImage, heap_words, is_live_word}
use Rattle.object_heap.specs.Bits.{has}
use Rattle.mark_bitmap.specs.Marks.{IsObjectOver}
use Rattle.mark_bitmap.proofs.Lemmas.Runs.{live-inside}
use Rattle.mark_bitmap.proofs.Lemmas.Over.{object_over-is}
use Rattle.mark_bitmap.proofs.marks.Marks.object_over.Goals as goal

pub last_below-requires : goal.last_below-requires
last_below-requires c =
    let image : HeapImage = c.self.inside.image.value in
    let a : ℕ = c.args.a in
    let live : is_live_word image a ≡ true = sym (c.self.invariant.bits.live_bits a) ∙ sym (c.contains.ensures ∙ ap (λ bits. has bits a) c.deref.ensures) ∙ c.if-not-contains.false in
    let inside : a < heap_words image = live-inside image c.self.invariant.valid a live in
    let room : length c.self.inside.begins ≡ heap_words image / 64 + 1 = c.self.invariant.bits.begins_room in
    omega arith

pub returns : goal.returns
returns c =
    let image : HeapImage = c.self.inside.image.value in
    let a : ℕ = c.args.a in
    let live : is_live_word image a ≡ true = sym (c.self.invariant.bits.live_bits a) ∙ sym (c.contains.ensures ∙ ap (λ bits. has bits a) c.deref.ensures) ∙ c.if-not-contains.false in
    let over = object_over-is image c.self.invariant.valid c.self.inside.begins c.self.invariant.bits.begin_bits a live c.last_below.result c.last_below.ensures in
    subst (λ i. MatchOption c.last_below.result (is_live_word i a ≡ false) (IsObjectOver i a)) c.self.view_is over
