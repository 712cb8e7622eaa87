use Rattle.std.proofs.Common.{◌≡◌, ℕ, ◌+◌, ◌-◌, ◌<◌, List, [], ◌∷◌, ◌++◌, length, get_or, map, take, ap, ◌∙◌, sym, arith}
use Rattle.std.proofs.lemmas.List.{length-set, map_more, take_more_set}
use Rattle.object_heap.specs.HeapImage.{HeapImage, end_of, size_at}
use Rattle.mark_bitmap.proofs.objects.last_words_by_headers.Goals as goal

pub loop-i-preserved : goal.loop-i-preserved
loop-i-preserved c =
    let image : HeapImage = c.args.image.now in
    let objects : List ℕ = c.args.objects.now in
    let lasts : List ℕ = c.loop-i.lasts in
    let i : ℕ = c.loop-i.i in
    let a : ℕ = get_or objects i 0 in
    let last : ℕ = a + c.size_at.result - 1 in
    let inside : i < length objects = c.loop-i-test.true in
    let long : length lasts ≡ 64 = c.loop-i.invariant.0 in (
      length-set lasts i last ∙ long,
      take_more_set lasts i last (omega arith)
          ∙ ap (λ (l : List ℕ). l ++ last ∷ []) c.loop-i.invariant.1
          ∙ ap (λ n. map (λ b. end_of image b - 1) (take i objects) ++ (a + n - 1) ∷ []) (c.size_at.ensures ∙ ap (λ h. size_at h a) c.requires.heap)
          ∙ sym (map_more (λ b. end_of image b - 1) objects i 0 inside),
    )
