use Rattle.std.proofs.Common.{◌≡◌, ◌<◌, length, get_or, sym, ◌∙◌, ap, subst}
use Rattle.object_heap.specs.HeapImage.{heap_words}
use Rattle.heap_marking.specs.Spread.{AreRows}
use Rattle.heap_marking.specs.Rounds.{IsPartAt}
use Rattle.heap_marking.proofs.marking.rounds.Rounds.turn_all.Goals as goal

pub for_each_mut-requires-clause-accepts : goal.for_each_mut-requires-clause-accepts
for_each_mut-requires-clause-accepts g c = λ κs within i p l is.
    let log = c.args.self.now.log in
    let image = c.args.heap.now in
    let parts = c.args.self.now.parts.items in
    let value = c.as_mut_slice.ensures.value in
    let low : i < length parts = subst (λ xs. i < length xs) value l in
    let here : p.now ≡ get_or parts i p.now = is ∙ ap (λ xs. get_or xs i p.now) value in
    let at = subst (IsPartAt log image i) (sym here) (c.requires.layout.parts_are i p.now low) in
    record { part = at.part; waiting = at.waiting; rows = subst (AreRows log (heap_words image)) (sym c.as_slice-sent.ensures.value) c.requires.layout.boxes }
