use Rattle.coded_redirection.proofs.laws.reached_objects_are_a_live_list.Goals as goal
use Rattle.coded_redirection.proofs.Lemmas.Reached.{reached_in_heap, reachable-same}

pub returns : goal.returns
returns c = record {
  live_list = λ coding heap image other roots. reached_in_heap coding heap image other roots (c.reachable_is_the_least_closed.ensures.closed image roots);
  reachable = reachable-same;
}
