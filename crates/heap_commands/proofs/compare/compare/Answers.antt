use Rattle.std.proofs.lemmas.Result.{IfOk-weaker}
use Rattle.heap_commands.proofs.compare.compare.Goals as goal

pub returns : goal.returns
returns c = IfOk-weaker c.compare_heaps.result _ _
    (λ report is. (c.number_classes.new.one.graph, c.number_classes.new.other.graph, c.args.manner.json, report.verdict, is))
    c.compare_heaps.ensures
