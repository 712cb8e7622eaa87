use Rattle.scheduler.proofs.Lemmas.GoingOnCounts.{finds_room}
use Rattle.scheduler.proofs.laws.going_on.freed_regions_find_room.Goals as goal

pub returns : goal.returns
returns c = finds_room
