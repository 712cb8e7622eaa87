use Rattle.summary.proofs.laws.dense_prefix.prefix_end_is_greatest.Goals as goal
use Rattle.summary.proofs.Lemmas.Prefix.{prefix_end_is}

pub returns : goal.returns
returns c = prefix_end_is
