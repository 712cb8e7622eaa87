use Rattle.std.proofs.Common.{◌≤◌, ◌++◌, ◌∷◌, [], ℕ, List, sym, ap, ◌∙◌, arith}
use Rattle.scheduler.specs.MoveTable.{MoveTable, region_count}
use Rattle.scheduler.proofs.Lemmas.Pairs.{pairs_before-source, pairs_before-region}
use Rattle.scheduler.proofs.moves.given_moves.push_pairs.Goals as goal

pub overflow_add-from : goal.overflow_add-from
overflow_add-from g c =
    let few : region_count (g.M.Moves.table c.args.moves.now) ≤ 1048576 = c.requires.lawful.few in
    omega (arith, c.in-Some.ensures.inside)

pub loop-source-smaller : goal.loop-source-smaller
loop-source-smaller g c = omega (arith, c.in-Some.ensures.inside, c.in-Some.ensures.least.0)

pub loop-source-preserved : goal.loop-source-preserved
loop-source-preserved g c =
    let m : MoveTable = g.M.Moves.table c.args.moves.now in
    c.in_ok-push.ensures.items
    ∙ (ap (λ (ps : List (ℕ × ℕ)). ps ++ (c.args.destination, c.in-Some.source) ∷ []) c.loop-source.invariant
    ∙ sym (pairs_before-source m c.args.destination c.loop-source.from c.in-Some.source c.requires.lawful c.in-Some.ensures.least.0 c.in-Some.ensures.least.1 c.in-Some.ensures.least.2))

pub returns : goal.returns
returns g c =
    let m : MoveTable = g.M.Moves.table c.args.moves.now in
    c.loop-source.invariant ∙ pairs_before-region m c.args.destination c.loop-source.from c.in_default.ensures.least
