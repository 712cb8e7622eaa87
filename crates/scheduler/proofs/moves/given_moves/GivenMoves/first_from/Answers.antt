use Rattle.std.proofs.Common.{of_calls, rules, ◌≡◌, ◌≤◌, ℕ, List, length, sym, ap, ◌∙◌, subst, arith}
use Rattle.std.proofs.lemmas.Fn.{always_returns_same}
use Rattle.scheduler.specs.MoveTable.{MoveTable, IsAscending, is_before}
use Rattle.scheduler.proofs.Lemmas.Pairs.{IsBefore_partitions}
use Rattle.scheduler.proofs.moves.given_moves.GivenMoves.first_from.Goals as goal

pub returns : goal.returns
returns c =
    let q : ℕ × ℕ = (c.args.destination, c.args.source) in
    let all : IsAscending c.as_slice.result.now = subst (λ (ps : List (ℕ × ℕ)). IsAscending ps) (sym c.as_slice.ensures.value) c.self.invariant.ascending in
    let point = c.partition_point.ensures.partitioned (λ pair. is_before pair q) (always_returns_same _ _ _ (λ a r f k. search (rules, of_calls))) (IsBefore_partitions c.as_slice.result.now q all) in
    let same : c.as_slice.result.now ≡ c.args.self.now.pairs = c.as_slice.ensures.value ∙ ap (λ (m : MoveTable). m.pairs) c.self.view_is in
    let inside : c.partition_point.result ≤ length c.as_slice.result.now = c.partition_point.ensures.bound in
    record { inside = rw same at inside; before = λ k d lt. rw (sym same) (point.0 k d (omega arith) lt); after = λ k d le lt. rw (sym same) (point.1 k d le (rw same lt)) }
