use Rattle.summary.proofs.laws.word_moves.moves_by_counting.Goals as goal
use Rattle.summary.proofs.Lemmas.Moves.{word_moves-live}

pub returns : goal.returns
returns c = word_moves-live
