use Rattle.std.proofs.Common.{◌≡◌, ◌+◌, ◌-◌, ℕ, arith}
use Rattle.std.proofs.lemmas.Result.{on_ok_weaker}
use Rattle.heap_marking.proofs.Lemmas.Starts.{rooted}
use Rattle.heap_marking.proofs.marking.start.send_root.Goals as goal

pub returns-clause-sent : goal.returns-clause-sent
returns-clause-sent c =
    let w : ℕ = c.args.root in
    let a : ℕ = w - 1 in
    let same : w ≡ a + 1 = omega arith in
    on_ok_weaker c.send.result (rooted c.args.log c.args.words w a c.args.row.now c.send.new.self same) c.send.ensures.sent
