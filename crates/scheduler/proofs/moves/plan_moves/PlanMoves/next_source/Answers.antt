use Rattle.std.proofs.Common.{◌<◌, ap, ◌∙◌, arith}
use Rattle.object_heap.specs.HeapImage.{region_count}
use Rattle.summary.specs.Plan.{sources_from}
use Rattle.scheduler.proofs.Lemmas.ImageTables.{regions-fill}
use Rattle.scheduler.proofs.Lemmas.ImageSources.{none_past, next_is, all_inside}
use Rattle.scheduler.proofs.moves.plan_moves.PlanMoves.next_source.Goals as goal

pub returns-then-from-regions-clause-least : goal.returns-then-from-regions-clause-least
returns-then-from-regions-clause-least c = none_past c.plan_laws.ensures c.args.self.now c.regions.ensures.valid c.args.destination c.args.from (let e = c.regions.ensures.value in let l = c.if-from-regions.true in omega arith)

pub overflow_add-destination : goal.overflow_add-destination
overflow_add-destination c =
    let inside : c.args.destination < region_count c.args.self.now = rw (regions-fill c.args.self.now) at c.requires in
    let e = c.regions.ensures.value in
    let r = c.regions.type_inv in
    omega arith

pub returns-clause-least : goal.returns-clause-least
returns-clause-least c =
    next_is c.plan_laws.ensures c.args.self.now c.regions.ensures.valid c.args.destination c.args.from c.reads_from.result c.next.new.self c.next.result
    (c.reads_from.ensures ∙ ap (sources_from c.args.self.now c.args.destination) c.max.ensures)
    c.next.ensures.steps

pub returns-clause-inside : goal.returns-clause-inside
returns-clause-inside c =
    rw (regions-fill c.args.self.now)
    (all_inside c.plan_laws.ensures c.args.self.now c.regions.ensures.valid c.args.destination c.args.from c.next.result (returns-clause-least c))
