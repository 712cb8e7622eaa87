use Rattle.object_heap.proofs.Lemmas.Layouts.{coded-leads, coded-stays, coded-fits}
use Rattle.object_heap.proofs.laws.coded_references_are_redirected.Goals as goal

pub returns : goal.returns
returns c = record { leads = coded-leads; stays = coded-stays; fits = coded-fits }
