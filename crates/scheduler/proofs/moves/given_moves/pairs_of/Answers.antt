use Rattle.std.proofs.Common.{◌≡◌, ℕ, sym, ap, ◌∙◌, arith}
use Rattle.scheduler.specs.MoveTable.{MoveTable, region_count, pairs_before}
use Rattle.scheduler.proofs.Lemmas.Pairs.{pairs_before-opening, pairs_before-whole}
use Rattle.scheduler.proofs.moves.given_moves.pairs_of.Goals as goal

pub loop-destination-init : goal.loop-destination-init
loop-destination-init g c = c.in_ok-pairs.ensures.items ∙ sym (pairs_before-opening (g.M.Moves.table c.args.moves.now))

pub returns : goal.returns
returns g c =
    let m : MoveTable = g.M.Moves.table c.args.moves.now in
    let last : c.loop-destination.destination ≡ region_count m = let n = c.requires.number in omega arith in
    c.shrink_to_fit.ensures.items ∙ c.loop-destination.invariant ∙ (ap (λ (d : ℕ). pairs_before m d 0) last ∙ pairs_before-whole m c.requires.lawful)
