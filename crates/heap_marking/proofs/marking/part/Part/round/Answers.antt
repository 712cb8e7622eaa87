use Rattle.std.proofs.Common.{inr}
use Rattle.heap_marking.specs.declared.marking.part.Part.{Part}
use Rattle.heap_marking.proofs.Lemmas.Running.{running_worked}
use Rattle.heap_marking.proofs.marking.part.Part.round.Goals as goal

pub returns-in-Ok : goal.returns-in-Ok
returns-in-Ok c =
    let p : Part = c.try_round.new.self in
    inr (running_worked c.args.log c.args.heap.now c.args.sent.now c.args.self.now p p.stack.items c.in-Ok.work c.in-Ok.ensures)
