use Rattle.summary.proofs.laws.live_words.words_of_objects.Goals as goal
use Rattle.summary.proofs.Lemmas.Words.{owner, is_live, live_below, one_owner}
use Rattle.summary.proofs.Lemmas.Steps.{place-ordered}

pub returns : goal.returns
returns c = record { owner = owner; live = is_live; below = live_below; one = one_owner; ordered = place-ordered }
