use Rattle.summary.proofs.laws.deferred_objects.update_then_clear.Goals as goal
use Rattle.summary.proofs.Lemmas.Updates.{updated-compacted, updated-words, late-told, told-late, moved-same, moved-late, late-below, late-header, late-once, updated-block}

pub returns : goal.returns
returns c = record { word = updated-compacted; words = updated-words; late = late-told; are_late = told-late; same = moved-same; redirected = moved-late; below = late-below; header = late-header; once = late-once; blocks = updated-block }
