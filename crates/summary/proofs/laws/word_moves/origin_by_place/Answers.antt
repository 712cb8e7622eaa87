use Rattle.summary.proofs.laws.word_moves.origin_by_place.Goals as goal
use Rattle.summary.proofs.Lemmas.Words.{origin-above, origin-live, origin-dead, origin-top}

pub returns : goal.returns
returns c = record { above = origin-above; live = origin-live; dead = origin-dead; top = origin-top }
