use Rattle.std.proofs.lemmas.Result.{IfOk-weaker}
use Rattle.std.specs.Prelude.{IsTrue}
use Rattle.heap_marking.specs.Marking.{AreReached, AreReachedWell, IsFinished}
use Rattle.heap_marking.proofs.marking.mark_in_threads.Goals as goal

pub finish-requires : goal.finish-requires
finish-requires g c = (c.args.roots.now, c.in_ok-marking.ensures)

pub returns-clause-reached : goal.returns-clause-reached
returns-clause-reached g c = IfOk-weaker c.finish.result (IsFinished c.args.heap.now c.args.roots.now) (λ m. AreReached c.args.heap.now c.args.roots.now m.bits) (λ m done. done.reached) (c.finish.ensures c.args.roots.now c.in_ok-marking.ensures)

pub returns-clause-well_formed : goal.returns-clause-well_formed
returns-clause-well_formed g c = IfOk-weaker c.finish.result (IsFinished c.args.heap.now c.args.roots.now) (λ m. IsTrue m.well_formed → AreReachedWell c.args.heap.now c.args.roots.now) (λ m done. done.well_formed) (c.finish.ensures c.args.roots.now c.in_ok-marking.ensures)
