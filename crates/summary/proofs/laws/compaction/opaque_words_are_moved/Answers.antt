use Rattle.summary.proofs.laws.compaction.opaque_words_are_moved.Goals as goal
use Rattle.summary.proofs.Lemmas.Places.{place-kept, moved-unchanged, compacted-unchanged}

pub returns : goal.returns
returns c = record { moved = moved-unchanged; compacted = compacted-unchanged; place = place-kept }
