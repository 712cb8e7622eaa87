use Rattle.std.proofs.Common.{◌<◌, sym, ap, ◌∙◌}
use Rattle.std.specs.Prelude.{nat_lt}
use Rattle.object_heap.specs.HeapImage.{region_count}
use Rattle.scheduler.proofs.Lemmas.ImageTables.{regions-fill, flag-is}
use Rattle.scheduler.proofs.moves.plan_moves.PlanMoves.to_fill.Goals as goal

pub returns : goal.returns
returns c =
    let image = c.args.self.now in
    let inside : c.args.region < region_count image = rw (regions-fill image) at c.requires in
    ap (nat_lt c.args.region) c.fill_regions.ensures ∙ sym (flag-is image c.args.region inside ∙ c.plan_laws.ensures.to_fill-count image c.args.region)
