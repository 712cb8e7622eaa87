use Rattle.std.proofs.Common.{◌≡◌, true, get_or, sym, subst}
use Rattle.object_heap.specs.HeapImage.{HeapImage, is_null_or_live}
use Rattle.history.proofs.machine.carrier.Carrier.new_roots.Goals as goal

pub redirected-requires : goal.redirected-requires
redirected-requires c =
    subst (λ (i : HeapImage). is_null_or_live i (get_or c.roots-w-items.result.now c.loop-w.w-index 0) ≡ true) (sym c.requires.image) (c.roots-w-items.ensures.live c.loop-w.w-index 0 c.loop-w-test.true)
