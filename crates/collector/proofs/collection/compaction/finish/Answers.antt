use Rattle.std.proofs.Common.{◌≡◌, ℕ, List, [], ◌∷◌, ◌++◌, length, sym, refl, subst, arith}
use Rattle.std.specs.Prelude.{All}
use Rattle.std.proofs.lemmas.Bool.{false≢true}
use Rattle.std.proofs.lemmas.List.{length-map}
use Rattle.std.proofs.lemmas.List.Elements.{All-push}
use Rattle.scheduler.specs.MoveTable.{MoveTable}
use Rattle.scheduler.specs.State.{AllAreSettled}
use Rattle.scheduler.specs.History.{IsLegal, state_of}
use Rattle.claim_board.specs.declared.pass.Pass.{Pass}
use Rattle.claim_board.specs.Boards.{board_of, caller, held, AllStand}
use Rattle.claim_board.specs.RegionBoards.{moves, worker_count, identity}
use Rattle.collector.specs.declared.workers.worker.Worker.{Worker}
use Rattle.collector.specs.Rest.{HasAllCalls, callers_of}
use Rattle.collector.proofs.Lemmas.Passes.{all_of, all_bare, front_and_last}
use Rattle.collector.proofs.Lemmas.Finishing.{all_settled, stands_with, more_calls}
use Rattle.collector.proofs.Lemmas.Settled.{none_left}
use Rattle.collector.proofs.collection.compaction.finish.Goals as goal

pub loop-worker-preserved : goal.loop-worker-preserved
loop-worker-preserved c =
    let i = c.loop-worker.invariant in
    let IsOfBoard : Pass → Type 0 = λ p. board_of p ≡ identity c.args.board in
    let IsBare : Pass → Type 0 = λ p. held p ≡ [] in
    let front : List Worker = c.pop.new.self.items in
    let last : Worker = c.in-Some.worker in
    let both = front_and_last (λ (w : Worker). IsOfBoard w.seat.pass) c.loop-worker.workers.items front last c.in-Some.ensures.items i.workers in
    let bare = front_and_last (λ (w : Worker). IsBare w.seat.pass) c.loop-worker.workers.items front last c.in-Some.ensures.items i.bare in
    let pass : Pass = c.into_pass.result in
    let same : pass ≡ last.seat.pass = c.into_pass.ensures in
    let own : IsOfBoard pass = subst IsOfBoard (sym same) both.1 in
    let own_bare : IsBare pass = subst IsBare (sym same) bare.1 in
    record {
      workers = both.0;
      bare = bare.0;
      passes = subst (All IsOfBoard) (sym c.push_reserved.ensures.items) (All-push IsOfBoard c.loop-worker.passes.items pass i.passes own);
      passes_bare = subst (All IsBare) (sym c.push_reserved.ensures.items) (All-push IsBare c.loop-worker.passes.items pass i.passes_bare own_bare);
      room = let n = c.in-Some.ensures.cases in let l = c.push_reserved.ensures.len in let k = c.push_reserved.ensures.capacity in let r = i.room in omega arith;
      count = let n = c.in-Some.ensures.cases in let l = c.push_reserved.ensures.len in let r = i.count in omega arith;
      calls = λ log stand all.
          let s = stands_with log c.loop-worker.passes.items last.seat.pass (subst (λ (p : Pass). AllStand log (c.loop-worker.passes.items ++ p ∷ [])) same (subst (AllStand log) c.push_reserved.ensures.items stand)) in
          i.calls log s.0 (subst (λ ws. HasAllCalls log (callers_of ws)) (sym c.in-Some.ensures.items) (more_calls log front last all s.1));
    }

pub finish-requires-clause-all : goal.finish-requires-clause-all
finish-requires-clause-all c = all_of (identity c.args.board) c.loop-worker.passes.items c.loop-worker.invariant.passes

pub finish-requires-clause-bare : goal.finish-requires-clause-bare
finish-requires-clause-bare c = all_bare c.loop-worker.passes.items c.loop-worker.invariant.passes_bare

pub unreachable-requires : goal.unreachable-requires
unreachable-requires c =
    let e = c.in_default-finish.ensures.history in
    let m : MoveTable = moves c.args.board in
    let last = c.loop-worker.workers in
    let none : length last.items ≡ 0 = omega (arith, c.in_default.ensures.cases, last.ok.0) in
    let all : HasAllCalls e.0 (callers_of c.args.workers.items) = c.loop-worker.invariant.calls e.0 e.2 (λ k d inside. absurd (omega (arith, inside, none, length-map last.items (λ (w : Worker). caller w.seat.pass)))) in
    let legal : IsLegal m c.args.workers.len e.0 = subst (λ (n : ℕ). IsLegal m n e.0) (sym c.requires.all) e.1 in
    let count : c.loop-worker.passes.len ≡ worker_count c.args.board = omega (arith, c.loop-worker.invariant.count, c.in_default.ensures.cases, c.requires.all) in
    false≢true (e.3.1 (count, all_settled m (state_of e.0) (c.requires.filled e.0 legal all)))

pub returns-clause-settled : goal.returns-clause-settled
returns-clause-settled c =
    let e = c.in-Some-finish.ensures.history in
    let m = moves c.args.board in
    subst (λ log. AllAreSettled m (state_of log)) (sym e.4) (none_left m (state_of e.0) (e.3.0 refl).1)
