use Rattle.std.proofs.Common.{subst}
use Rattle.object_heap.specs.HeapImage.{HeapImage}
use Rattle.collector.specs.NewPlaces.{IsNewPlace}
use Rattle.collector.proofs.slide.Slide.new_place.Goals as goal

pub returns : goal.returns
returns c = subst (λ (i : HeapImage). IsNewPlace i c.args.address c.of.result) c.places.ensures c.of.ensures
