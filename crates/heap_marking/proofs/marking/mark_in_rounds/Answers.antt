use Rattle.std.proofs.lemmas.Result.{IfOk-weaker}
use Rattle.heap_marking.specs.Marking.{IsUnderway}
use Rattle.heap_marking.specs.Rounds.{IsContinued}
use Rattle.heap_marking.proofs.marking.mark_in_rounds.Goals as goal

pub returns : goal.returns
returns g c =
    let image = c.args.heap.now in
    let roots = c.args.roots.now in
    IfOk-weaker c.marking.result (IsContinued image c.run.new.self) (IsUnderway image roots)
    (λ m goes. record { words = goes.words; marking = goes.marking roots (c.in_ok-run.ensures.state roots c.in_ok-rounds.ensures.state) }) c.marking.ensures
