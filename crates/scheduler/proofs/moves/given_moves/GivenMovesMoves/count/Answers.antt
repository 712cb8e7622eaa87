use Rattle.std.proofs.Common.{◌≡◌, ◌≤◌, ℕ, List, ap, ◌∙◌, arith}
use Rattle.std.specs.Prelude.{count_by}
use Rattle.scheduler.specs.MoveTable.{has_source}
use Rattle.scheduler.proofs.moves.given_moves.GivenMovesMoves.count.Goals as goal

pub overflow_cast-result : goal.overflow_cast-result
overflow_cast-result c =
    let n : c.count_of.result ≡ count_by (has_source c.args.source) c.self.inside.pairs.items = c.count_of.ensures ∙ ap (λ (ps : List (ℕ × ℕ)). count_by (has_source c.args.source) ps) c.deref.ensures.value in
    let two : count_by (has_source c.args.source) c.self.inside.pairs.items ≤ 2 = c.self.invariant.two c.args.source in
    omega arith
