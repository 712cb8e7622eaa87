use Rattle.std.proofs.Common.{subst, get_or, length, [], ℕ, ◌<◌, ◌/◌, ◌%◌}
use Rattle.object_heap.specs.HeapImage.{with_live}
use Rattle.heap_marking.proofs.Lemmas.SoundObjects.{all_sound}
use Rattle.heap_marking.proofs.soundness.sizes_if_sound.Goals as goal

pub returns-then-are_all_noted-clause-sound : goal.returns-then-are_all_noted-clause-sound
returns-then-are_all_noted-clause-sound g c =
    let noted = c.in-Ok.ensures in
    let sizes = c.in-Ok.sizes.items in
    let some = subst (λ xs. (i : ℕ) → i < length c.args.live.now → 0 < get_or (get_or xs (i / 64) []) (i % 64) 0) c.as_slice.ensures.value (c.are_all_noted.ensures c.if-are_all_noted.true) in
    all_sound (with_live c.args.heap.now c.args.live.now) sizes noted.room noted.noted some
