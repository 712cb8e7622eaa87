use Rattle.std.proofs.Common.{◌≡◌, ℕ, length, sym, ap, ◌∙◌, subst, arith}
use Rattle.std.specs.Prelude.{OnOk}
use Rattle.claim_board.specs.RegionBoards.{moves}
use Rattle.collector.specs.Rest.{IsFilled, callers_of}
use Rattle.collector.proofs.Lemmas.Failing.{front_of}
use Rattle.collector.proofs.collection.compaction.Compaction.fill_left.Goals as goal

pub returns-clause-filled : goal.returns-clause-filled
returns-clause-filled g c =
    let m = moves (g.D.HasBoard.keeps c.args.self.now.shared.desk) in
    let workers = c.args.self.now.workers in
    let before = c.as_mut_slice.result.now in
    let after = c.fill_left.new.workers in
    let count : length before ≡ workers.len = ap length c.as_mut_slice.ensures.value ∙ sym workers.ok.0 in
    let kept : length after ≡ length before = c.fill_left.auto.workers in
    let own : workers.len ≡ length after = omega (arith, kept, count) in
    subst (λ ws. OnOk c.fill_left.result (IsFilled m workers.len (callers_of ws))) (sym (front_of workers.len after _ own))
    (subst (λ (n : ℕ). OnOk c.fill_left.result (IsFilled m n (callers_of after))) count c.fill_left.ensures.filled)
