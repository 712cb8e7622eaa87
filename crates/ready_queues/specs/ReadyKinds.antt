-- The two kinds of queues of ready regions.
use Rattle.ready_queues.specs.Ready.{Queue}
use Rattle.ready_queues.specs.declared.ready.AnyQueue.{AnyQueue}
use Rattle.ready_queues.specs.declared.ready.AnyQueue.TheVariants.{Own, Shared}

-- what a queue of either kind is seen as
abbrev pub view_of : AnyQueue → Queue
view_of (Own queue) = queue
view_of (Shared queue) = queue
