use Rattle.heap_dump.proofs.Lemmas.Sums.{with_dead, with_live}
use Rattle.heap_dump.proofs.totals.Totals.with.Goals as goal

pub returns-then-object : goal.returns-then-object
returns-then-object c = λ objects was.
    with_live c.args.self objects c.args.object.now c.saturating_add.result c.saturating_add-then-object.result c.saturating_add-machine_words.result was c.saturating_add-machine_words.ensures
    c.if-object.true c.saturating_add.ensures c.saturating_add-then-object.ensures

pub returns-else-object : goal.returns-else-object
returns-else-object c = λ objects was.
    with_dead c.args.self objects c.args.object.now c.saturating_add-else-object.result c.saturating_add-else-object-2.result c.saturating_add-machine_words.result was c.saturating_add-machine_words.ensures
    c.if-object.false c.saturating_add-else-object.ensures c.saturating_add-else-object-2.ensures
