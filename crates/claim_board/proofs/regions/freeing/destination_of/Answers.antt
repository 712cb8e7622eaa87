use Rattle.std.proofs.Common.{of_calls, rules, ℕ, List, sym, subst, arith, nat_lt}
use Rattle.std.specs.Prelude.{not}
use Rattle.std.specs.List.Sorted.{IsPartitionedBy}
use Rattle.std.proofs.lemmas.Fn.{always_returns_same}
use Rattle.claim_board.proofs.Lemmas.Homes.{partitions, destination_is}
use Rattle.claim_board.proofs.regions.freeing.destination_of.Goals as goal

pub overflow_sub-result : goal.overflow_sub-result
overflow_sub-result c =
    let p = c.args.pair in
    let m = c.requires.0 in
    let parted = subst (λ (fs : List ℕ). IsPartitionedBy (λ (f : ℕ). not (nat_lt p f)) fs) (sym c.as_slice.ensures.value) (partitions m c.requires.1 c.args.places.now c.requires.2 p c.requires.3) in
    let point = c.partition_point.ensures.partitioned (λ (f : ℕ). not (nat_lt p f)) (always_returns_same _ _ _ (λ a r f k. search (rules, of_calls))) parted in
    let is = destination_is m c.requires.1 c.args.places.now c.requires.2 p c.requires.3 c.partition_point.result (rw c.as_slice.ensures.value at c.partition_point.ensures.bound) (rw c.as_slice.ensures.value at point) in
    omega arith

pub returns : goal.returns
returns c = λ m table places lt.
    let p = c.args.pair in
    let parted = subst (λ (fs : List ℕ). IsPartitionedBy (λ (f : ℕ). not (nat_lt p f)) fs) (sym c.as_slice.ensures.value) (partitions m table c.args.places.now places p lt) in
    let point = c.partition_point.ensures.partitioned (λ (f : ℕ). not (nat_lt p f)) (always_returns_same _ _ _ (λ a r f k. search (rules, of_calls))) parted in
    let is = destination_is m table c.args.places.now places p lt c.partition_point.result (rw c.as_slice.ensures.value at c.partition_point.ensures.bound) (rw c.as_slice.ensures.value at point) in
    omega arith
