use Rattle.std.proofs.Common.{◌≡◌, ap, subst}
use Rattle.std.specs.Prelude.{Option, Some, None, IfSome, unwrap_or}
use Rattle.object_heap.specs.HeapImage.{HeapImage}
use Rattle.collector.specs.NewPlaces.{IsNewPlace}
use Rattle.collector.specs.Sessions.{image_of}
use Rattle.collector.specs.declared.session.share.Share.{Share}
use Rattle.caller_heap.proofs.part.Part.new_place.Goals as goal

if_some : {X : Type 0} (o : Option X) (P Q : X → Type 0) → ((x : X) → P x → Q x) → IfSome o P → IfSome o Q
if_some None P Q h p = tt
if_some (Some x) P Q h p = h x p

pub returns-in-Some-clause-share : goal.returns-in-Some-clause-share
returns-in-Some-clause-share c =
    let places : HeapImage = c.in-Some.places in
    if_some c.args.self.now.share (λ (share : Share). Some places ≡ Some (image_of share)) (λ (share : Share). IsNewPlace (image_of share) c.args.address c.of.result)
    (λ share e. subst (λ (i : HeapImage). IsNewPlace i c.args.address c.of.result) (ap (λ (o : Option HeapImage). unwrap_or o places) e) c.of.ensures)
    c.in-Some.ensures.share
