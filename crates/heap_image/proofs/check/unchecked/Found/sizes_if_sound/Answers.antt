use Rattle.std.proofs.Common.{Option, Some, None, ◌≡◌, subst, List, ℕ}
use Rattle.std.specs.Prelude.{IfSome}
use Rattle.object_heap.specs.HeapImage.{HeapImage, HasLiveList, with_live}
use Rattle.heap_image.specs.ImageText.{first_object_fault}
use Rattle.heap_image.proofs.Lemmas.Faultless.{first_object_fault-None}
use Rattle.heap_image.proofs.check.unchecked.Found.sizes_if_sound.Goals as goal

-- an answer for this live list shows that no object is at fault
faultless : {X : Type 0} (heap : HeapImage) (live listed : List ℕ) (answer : Option X) → listed ≡ live → IfSome answer (λ _. HasLiveList (with_live heap listed)) → IfSome answer (λ _. first_object_fault (with_live heap live) ≡ None)
faultless heap live listed (Some x) e sound = first_object_fault-None (with_live heap live) (subst (λ xs. HasLiveList (with_live heap xs)) e sound)
faultless heap live listed None e sound = sound

pub returns-then-self-clause-ok : goal.returns-then-self-clause-ok
returns-then-self-clause-ok g c = faultless c.args.heap.now c.args.self.now.live.items c.as_slice-live.result.now c.sizes_if_sound.result c.as_slice-live.ensures.value c.sizes_if_sound.ensures.sound

pub returns-clause-ok : goal.returns-clause-ok
returns-clause-ok g c = faultless c.args.heap.now c.args.self.now.live.items c.as_slice-live.result.now c.sizes_if_sound-2.result c.as_slice-live.ensures.value c.sizes_if_sound-2.ensures.sound
