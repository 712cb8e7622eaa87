use Rattle.std.proofs.Common.{◌≡◌, ℕ, ◌+◌, ◌<◌, Bool, List, length, get_or, sym, ap, ◌∙◌, subst, arith}
use Rattle.std.proofs.lemmas.List.{with_items_is}
use Rattle.object_heap.specs.Header.{references_of}
use Rattle.object_heap.specs.HeapImage.{HeapImage, heap_words, word_at, references_at}
use Rattle.summary.specs.NewAddresses.{new_address}
use Rattle.summary.specs.Compaction.{is_deferred}
use Rattle.history.specs.Carrier.{AreSet}
use Rattle.history.proofs.Lemmas.Carrying.{AreFlagsOf, late_test, contains_at, late_more, late_same}
use Rattle.history.proofs.machine.references.late_references.Goals as goal
use Rattle.history.proofs.machine.references.late_references.Goals.{then-is_deferred, else-is_deferred}

pub set_after-requires : goal.set_after-requires
set_after-requires c =
    let image : HeapImage = c.args.image.now in
    let valid = c.live-a-items.ensures.valid in
    let same : c.live-a-items.result.now ≡ image.live = c.live-a-items.ensures.value in
    let inside : c.loop-a.a-index < length image.live = rw same at c.loop-a-test.true in
    let a : ℕ = get_or image.live c.loop-a.a-index 0 in
    let at : get_or c.live-a-items.result.now c.loop-a.a-index 0 ≡ a = ap (λ (xs : List ℕ). get_or xs c.loop-a.a-index 0) same in
    let fits = c.new_words_fit.ensures image valid a (contains_at image valid c.loop-a.a-index inside) in
    let begin : c.new_address-begin.result ≡ new_address image a = c.new_address-begin.ensures ∙ (ap (λ (i : HeapImage). new_address i (get_or c.live-a-items.result.now c.loop-a.a-index 0)) c.requires.plan ∙ ap (new_address image) at) in
    let count : c.references.result ≡ references_at image a = c.references.ensures ∙ ap references_of (c.word-header.ensures ∙ ap (word_at image) at) ∙ sym (c.image_is_own.ensures.references (word_at image a)) in
    let long : length c.deref_mut.result.now ≡ heap_words image = ap (length {A = Bool}) c.deref_mut.ensures.value ∙ c.loop-a.invariant.all in
    omega (arith, fits.1, fits.3)

pub loop-a-preserved : goal.loop-a-preserved
loop-a-preserved c =
    let image : HeapImage = c.args.image.now in
    let valid = c.live-a-items.ensures.valid in
    let same : c.live-a-items.result.now ≡ image.live = c.live-a-items.ensures.value in
    let inside : c.loop-a.a-index < length image.live = rw same at c.loop-a-test.true in
    let a : ℕ = get_or image.live c.loop-a.a-index 0 in
    let at : get_or c.live-a-items.result.now c.loop-a.a-index 0 ≡ a = ap (λ (xs : List ℕ). get_or xs c.loop-a.a-index 0) same in
    let is : c.is_deferred.result ≡ is_deferred image a = c.is_deferred.ensures ∙ (ap (λ (i : HeapImage). is_deferred i (get_or c.live-a-items.result.now c.loop-a.a-index 0)) c.requires.plan ∙ ap (is_deferred image) at) in
    elim c.if-is_deferred.branch [
      | then-is_deferred w ↦
          let begin : w.new_address-begin.result ≡ new_address image a = w.new_address-begin.ensures ∙ (ap (λ (i : HeapImage). new_address i (get_or c.live-a-items.result.now c.loop-a.a-index 0)) c.requires.plan ∙ ap (new_address image) at) in
          let count : w.references.result ≡ references_at image a = w.references.ensures ∙ ap references_of (c.word-header.ensures ∙ ap (word_at image) at) ∙ sym (c.image_is_own.ensures.references (word_at image a)) in
          let set : AreSet c.loop-a.flags.items w.set_after.new.flags w.new_address-begin.result (w.new_address-begin.result + w.references.result) =
          subst (λ (xs : List Bool). AreSet xs w.set_after.new.flags w.new_address-begin.result (w.new_address-begin.result + w.references.result)) w.deref_mut.ensures.value w.set_after.ensures in
          let long : length w.set_after.new.flags ≡ c.loop-a.flags.len = omega (arith, set.all, c.loop-a.flags.ok.0) in
          let items : c.if-is_deferred.flags.items ≡ w.set_after.new.flags = ap (λ v. v.items) w.flags-is ∙ with_items_is c.loop-a.flags w.set_after.new.flags long in
          subst (λ (xs : List Bool). AreFlagsOf image (late_test image) (c.loop-a.a-index + 1) xs) (sym items)
          (late_more image valid c.loop-a.a-index w.new_address-begin.result w.references.result c.loop-a.flags.items w.set_after.new.flags inside c.loop-a.invariant set begin count (sym is ∙ w.if-is_deferred.true))
      | else-is_deferred w ↦
          subst (λ (xs : List Bool). AreFlagsOf image (late_test image) (c.loop-a.a-index + 1) xs) (sym (ap (λ v. v.items) w.flags-is))
          (late_same image valid c.loop-a.a-index c.loop-a.flags.items inside c.loop-a.invariant (sym is ∙ w.if-is_deferred.false))
    ]
