use Rattle.std.proofs.Common.{◌≡◌, ◌<◌, sym, ◌∙◌, ap, subst}
use Rattle.std.specs.Prelude.{All}
use Rattle.object_heap.specs.HeapImage.{heap_words}
use Rattle.coded_marking.specs.Marking.{Marks}
use Rattle.coded_marking.proofs.Lemmas.Listed.{set_inside}
use Rattle.coded_marking.proofs.marking.Marking.live.Goals as goal

pub sizes_of-requires : goal.sizes_of-requires
sizes_of-requires c =
    let t = c.self.inside.tracing in
    let are : t.words ≡ heap_words c.args.heap.now = ap (λ (m : Marks). m.words) c.self.view_is ∙ sym c.requires in
    subst (λ n. All (λ a. a < n) c.as_slice.result.now) are
    (subst (All (λ a. a < t.words)) (sym (c.as_slice.ensures.value ∙ c.in_ok-addresses.ensures)) (set_inside t.words t.marked))
