use Rattle.heap_image.proofs.Lemmas.InOrder.{reachable-in_order}
use Rattle.heap_image.proofs.Lemmas.RootedFaults.{dangling_is_beyond}
use Rattle.heap_image.proofs.laws.faults_of_roots.Goals as goal

pub returns-clause-order : goal.returns-clause-order
returns-clause-order c = reachable-in_order

pub returns-clause-references : goal.returns-clause-references
returns-clause-references c = λ image none. dangling_is_beyond image image.live (c.reachable_is_the_least_closed.ensures.closed image image.live) none
