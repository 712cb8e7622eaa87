use Rattle.object_heap.proofs.Lemmas.RegionLogs.{region_few, place_by_mask}
use Rattle.object_heap.proofs.laws.regions_by_log.Goals as goal

pub returns : goal.returns
returns c = record { few = region_few; place = place_by_mask }
