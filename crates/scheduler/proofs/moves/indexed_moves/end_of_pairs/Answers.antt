use Rattle.std.proofs.Common.{ℕ, ap, ◌∙◌}
use Rattle.std.proofs.lemmas.List.{get_or_default}
use Rattle.scheduler.proofs.Lemmas.Indexes.{first_of_next}
use Rattle.scheduler.proofs.moves.indexed_moves.end_of_pairs.Goals as goal

pub returns-else-pairs-place : goal.returns-else-pairs-place
returns-else-pairs-place c =
    first_of_next c.args.pairs.now c.args.destination c.args.first c.loop-place.place c.requires.ascending c.requires.first c.loop-place.invariant.from c.loop-place.invariant.inside c.loop-place.invariant.own
    (λ lt e one. c.if-pairs-place.false (ap (λ (p : ℕ × ℕ). p.0) (get_or_default c.args.pairs.now c.loop-place.place (0, 0) e lt) ∙ one))
