use Rattle.std.proofs.Common.{sym, ap, ◌∙◌}
use Rattle.summary.specs.declared.region_data.RegionData.{RegionData}
use Rattle.scheduler.proofs.Lemmas.ImageTables.{regions-fill, readers-are}
use Rattle.scheduler.proofs.moves.plan_moves.PlanMoves.count.Goals as goal

pub region-requires : goal.region-requires
region-requires c = rw (regions-fill c.args.self.now) at c.requires

pub returns : goal.returns
returns c = ap (λ (r : RegionData). r.count) c.region.ensures ∙ sym (readers-are c.args.self.now c.args.source (rw (regions-fill c.args.self.now) at c.requires))
