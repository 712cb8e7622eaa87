use Rattle.std.proofs.Common.{◌≡◌, ◌∙◌, ◌+◌, ◌*◌, ◌≤◌, subst, sym, ap, get_or, length, [], ℕ, ◌<◌, ◌/◌, ◌%◌, arith}
use Rattle.object_heap.specs.HeapImage.{HasLiveList, HeapImage}
use Rattle.heap_marking.proofs.Lemmas.SoundObjects.{all_sound}
use Rattle.heap_marking.proofs.noted_pieces.NotedPieces.into_sizes.Goals as goal

pub returns-then-are_all_noted-clause-sound : goal.returns-then-are_all_noted-clause-sound
returns-then-are_all_noted-clause-sound c =
    let known = c.self.invariant in
    let image : HeapImage = c.self.inside.heap in
    let sizes = c.in_ok-sizes.sizes.items in
    let room : length image.live ≤ 64 * length sizes = let made = c.in_ok-sizes.ensures.count in let count = known.count in omega arith in
    let objects = known.objects in
    let each = subst (λ xs. (i : ℕ) → i < c.self.inside.objects → 0 < get_or (get_or xs (i / 64) []) (i % 64) 0) c.as_slice.ensures.value (c.are_all_noted.ensures c.if-are_all_noted.true) in
    subst HasLiveList c.self.view_is (all_sound image sizes room (c.in_ok-sizes.ensures.noted image known.same) (λ i l. each i (omega (arith, objects, l))))
