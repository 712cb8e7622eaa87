use Rattle.std.proofs.Common.{of_calls, rules, ◌≡◌, ◌≤◌, ◌<◌, ℕ, List, ltb, length, get_or, sym, subst, arith}
use Rattle.std.specs.List.Sorted.{IsNonDecreasingBy}
use Rattle.std.proofs.lemmas.Bool.{ltb-true, ltb-false}
use Rattle.std.proofs.lemmas.Fn.{always_returns_same}
use Rattle.std.proofs.lemmas.Grind.{get_or_default_zero}
use Rattle.std.proofs.lemmas.List.Sorted.{IsPartitionedBy-ltb}
use Rattle.object_heap.specs.HeapImage.{HeapImage}
use Rattle.mark_bitmap.proofs.Lemmas.PartBits.{ascending}
use Rattle.mark_bitmap.proofs.objects.first_from.Goals as goal

pub returns : goal.returns
returns c =
    let image : HeapImage = c.args.image.now in
    let live : List ℕ = c.live.result.now in
    let same : live ≡ image.live = c.live.ensures.value in
    let rises : IsNonDecreasingBy (λ a. a) image.live = λ i j d le lt.
    let first : i < length image.live = omega arith in
    rw (get_or_default_zero image.live i d first, get_or_default_zero image.live j d lt) (ascending image c.live.ensures.valid i j le lt)
    in
    let point = c.partition_point.ensures.partitioned (λ a. ltb a c.args.address) (always_returns_same _ _ _ (λ a r f k. search (rules, of_calls))) (IsPartitionedBy-ltb (λ a. a) live c.args.address (subst (IsNonDecreasingBy (λ a. a)) (sym same) rises)) in
    let inside : c.partition_point.result ≤ length live = c.partition_point.ensures.bound in
    record {
      inside = rw same at inside;
      before = λ j l. rw (sym same) (ltb-true (get_or live j 0) c.args.address (point.0 j 0 (omega arith) l));
      behind = λ j le lt. rw (sym same) (ltb-false (get_or live j 0) c.args.address (point.1 j 0 le (rw same lt)));
    }
