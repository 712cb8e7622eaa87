use Rattle.std.proofs.Common.{◌≡◌, Some, sym, subst}
use Rattle.std.proofs.lemmas.List.Elements.{All-pop}
use Rattle.scheduling_tests.specs.declared.threads.Worker.{Worker}
use Rattle.claim_board.specs.Boards.{identity, board_of, AllOf}
use Rattle.scheduling_tests.proofs.Lemmas.Passes.{all_push}
use Rattle.scheduling_tests.proofs.threads.gather.Goals as goal

pub loop-worker-preserved : goal.loop-worker-preserved
loop-worker-preserved c =
    let z = identity c.args.board.now in
    let i = c.loop-worker.invariant in
    let left = All-pop (λ (w : Worker). board_of w.pass ≡ z) c.loop-worker.workers.items c.pop.new.self.items (Some c.in-Some.worker) c.in-Some.ensures.items i.0 in
    (left.0, subst (AllOf z) (sym c.in_ok-push.ensures.items) (all_push z c.loop-worker.passes.items c.in-Some.worker.pass i.1 left.1))
