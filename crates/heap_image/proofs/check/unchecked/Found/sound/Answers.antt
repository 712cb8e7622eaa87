use Rattle.std.proofs.Common.{subst}
use Rattle.std.specs.Prelude.{IfSome}
use Rattle.object_heap.specs.HeapImage.{HasLiveList, with_live}
use Rattle.heap_image.proofs.Lemmas.Faultless.{first_object_fault-None}
use Rattle.heap_image.proofs.check.unchecked.Found.sound.Goals as goal

pub returns-clause-faults : goal.returns-clause-faults
returns-clause-faults c =
    let image = with_live c.args.heap.now c.args.self.live.items in
    record { ok = first_object_fault-None image (subst (λ o. IfSome o (λ _. HasLiveList image)) c.in-Some.is c.requires.sound); fault = tt }
