use Rattle.std.proofs.Common.{◌≡◌, ℕ, ◌+◌, ◌<◌, List, length, ◌∙◌, arith}
use Rattle.std.proofs.lemmas.List.{length-set}
use Rattle.std.proofs.lemmas.List.Elements.{All-set}
use Rattle.summary.specs.RegionData.{fill_count}
use Rattle.claim_board.specs.Boards.{board_of, worker}
use Rattle.claim_board.specs.RegionBoards.{identity}
use Rattle.collector.specs.declared.workers.worker.Worker.{Worker}
use Rattle.collector.specs.Rest.{Rests, Leaves}
use Rattle.collector.proofs.Lemmas.Meeting.{placed, at_rest}
use Rattle.collector.proofs.workers.fill_left.fill_held.Goals as goal

pub fill_held-requires-clause-board : goal.fill_held-requires-clause-board
fill_held-requires-clause-board g c = let h = c.loop-worker.invariant in h.seats c.loop-worker.worker-index c.worker-item.result (omega (arith, c.loop-worker-test.true, h.long))

pub fill_held-requires-clause-left : goal.fill_held-requires-clause-left
fill_held-requires-clause-left g c = let h = c.loop-worker.invariant in h.rest c.loop-worker.worker-index c.worker-item.result (omega arith) (omega (arith, c.loop-worker-test.true, h.long))

pub loop-worker-preserved : goal.loop-worker-preserved
loop-worker-preserved g c =
    let i : ℕ = c.loop-worker.worker-index in
    let h = c.loop-worker.invariant in
    let all : List Worker = c.loop-worker.workers in
    let item : Worker = c.worker-item.result in
    let new : Worker = c.fill_held.new.worker in
    let f = c.fill_held.ensures in
    let board = g.D.HasBoard.keeps c.args.task.now.shared.now.desk in
    let survey = c.args.task.now.shared.now.survey in
    let IsSeated : Worker → Type 0 = λ w. board_of w.seat.pass ≡ identity board in
    let inside : i < length all = omega (arith, c.loop-worker-test.true, h.long) in
    let long : length (Rattle.std.proofs.Common.set all i new) ≡ length all = length-set all i new in
    record {
      number = omega (arith, h.number);
      long = long ∙ h.long;
      seats = All-set IsSeated all i new f.board h.seats;
      numbered = λ k w below. placed (λ (j : ℕ) (v : Worker). worker v.seat.pass ≡ j) all i new k w inside (f.rest.0 ∙ h.numbered i item inside)
          (λ _. h.numbered k w (omega (arith, below, long)));
      done = λ k w below. placed (λ (j : ℕ) (v : Worker). j < i + 1 → Rests v.seat.pass) all i new k w inside (λ _. f.rest.1)
          (λ apart under. h.done k w (omega (arith, under, apart))) below;
      rest = λ k w behind below. placed (λ (j : ℕ) (v : Worker). i < j → Leaves board (fill_count survey) v.result v.seat.pass) all i new k w inside
          (λ under. absurd (omega (arith, under))) (λ _ _. h.rest k w (omega (arith, behind)) (omega (arith, below, long))) (omega (arith, behind));
    }

pub returns-clause-bare : goal.returns-clause-bare
returns-clause-bare g c =
    let h = c.loop-worker.invariant in
    λ k w below. (h.done k w (omega (arith, below, c.loop-worker-test.false, h.long))).1

pub returns-clause-rest : goal.returns-clause-rest
returns-clause-rest g c =
    let h = c.loop-worker.invariant in
    at_rest c.loop-worker.workers h.numbered (λ k w below. (h.done k w (omega (arith, below, c.loop-worker-test.false, h.long))).0)
