use Rattle.object_heap.proofs.Lemmas.Reaches.{reachable-IsClosed, reachable-least, reachable-ascending}
use Rattle.object_heap.proofs.laws.reachable_is_the_least_closed.Goals as goal

pub returns-clause-closed : goal.returns-clause-closed
returns-clause-closed c = reachable-IsClosed

pub returns-clause-least : goal.returns-clause-least
returns-clause-least c = reachable-least

pub returns-clause-ascending : goal.returns-clause-ascending
returns-clause-ascending c = reachable-ascending
