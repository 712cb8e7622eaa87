use Rattle.coded_redirection.proofs.laws.coded_words_are_compacted.Goals as goal
use Rattle.coded_redirection.proofs.Lemmas.Redirected.{compacted-redirected, compacted-in_words}

pub returns : goal.returns
returns c = record { word = compacted-redirected c.plan_laws.ensures; words = compacted-in_words c.plan_laws.ensures }
