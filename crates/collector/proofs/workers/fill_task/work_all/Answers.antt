use denote.Param.Send.{sendable}
use Rattle.std.proofs.Crossing.{crosses}
use Rattle.collector.proofs.Lemmas.Crossing.{shared_sync, worker_send}
use Rattle.collector.proofs.workers.fill_task.work_all.Goals as goal

pub for_each_mut-requires-sync-F : goal.for_each_mut-requires-sync-F
for_each_mut-requires-sync-F g c =
    let desk = c.type_bounds.sync-D in
    let gate = c.type_bounds.sync-G in
    let wait = c.type_bounds.sync-W in
    search (crosses, sendable, shared_sync) depth 60 fits 20000

pub for_each_mut-requires-send-T : goal.for_each_mut-requires-send-T
for_each_mut-requires-send-T g c κs within =
    search (crosses, sendable, worker_send) depth 60 fits 20000
