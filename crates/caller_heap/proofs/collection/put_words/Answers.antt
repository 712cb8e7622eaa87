use Rattle.std.proofs.Common.{◌≡◌, ℕ, ◌+◌, ◌-◌, ◌*◌, ◌<◌, ◌≤◌, List, ◌++◌, length, take, drop, sym, ◌∙◌, ap, subst, arith}
use Rattle.std.proofs.Math.Seq.{take-add}
use Rattle.std.proofs.lemmas.Slice.{take-put_mid}
use borrow.Rule.Slice.PartMut.{put_mid}
use Rattle.object_heap.specs.HeapImage.{HeapImage, IsValid, heap_words, region_count, region_words}
use Rattle.caller_heap.proofs.Lemmas.Regions.{region_fits, region_long}
use Rattle.caller_heap.proofs.collection.put_words.Goals as goal

pub loop-r-preserved : goal.loop-r-preserved
loop-r-preserved c =
    let image : HeapImage = c.args.image.now in
    let size : ℕ = c.region_words-size.result in
    let r : ℕ = c.loop-r.r in
    let start : ℕ = r * size in
    let old : List ℕ = c.loop-r.words in
    let new : List ℕ = c.copy_from_slice.new.self in
    let sized : size ≡ region_words image = c.region_words-size.ensures.value in
    let valid : IsValid image = c.region_words-size.ensures.valid in
    let below : r < region_count image = omega (arith, c.loop-r-test.true, c.regions-r-end.ensures.value) in
    let fits : r * region_words image + region_words image ≤ heap_words image = region_fits image valid r below in
    let kept = c.loop-r.auto.words in
    let inside : start + size ≤ length old = subst (λ n. r * n + n ≤ length old) (sym sized) (omega (arith, fits, kept, c.requires)) in
    let block = c.copy_from_slice.ensures.after ∙ c.words.ensures.value ∙ c.region.ensures in
    let part : new ≡ take size (drop start image.words) = block ∙ ap (λ n. take n (drop (r * n) image.words)) (sym sized) in
    let long : length new ≡ size = ap length block ∙ region_long image valid r below ∙ sym sized in
    let next : (r + 1) * size ≡ start + size = omega arith in
    ap (λ n. take n (put_mid start (start + size - start) old new)) next
    ∙ take-put_mid start (start + size - start) old new (start + size) (omega arith) (omega arith)
    ∙ ap (λ xs. xs ++ new) c.loop-r.invariant
    ∙ ap (λ xs. take start image.words ++ xs) part
    ∙ sym (take-add start size image.words)
    ∙ ap (λ n. take n image.words) (sym next)
