use Rattle.summary.proofs.laws.compaction.compaction_keeps_the_graph.Goals as goal
use Rattle.summary.proofs.Lemmas.Graph.{compact-IsSameGraph}

pub returns : goal.returns
returns c = compact-IsSameGraph
