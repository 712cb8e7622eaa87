use Rattle.std.proofs.Common.{refl, sym, subst, le_of_eq}
use Rattle.std.specs.Prelude.{None}
use Rattle.object_heap.specs.HeapImage.{HeapImage, HasLiveList, heap_words}
use Rattle.object_heap.specs.Layout.{IsLayout}
use Rattle.mark_bitmap.specs.OpaqueObjects.{opaque_image}
use Rattle.summary.specs.NewAddresses.{new_live}
use Rattle.summary.specs.Redirection.{RedirectsReferences}
use Rattle.summary.specs.SameGraph.{IsSameGraph}
use Rattle.coded_redirection.specs.SamePlan.{HasSamePlan, HasSameWords}
use Rattle.coded_redirection.proofs.Lemmas.Collected.{planned, graph-of_heap}
use Rattle.coded_redirection.proofs.laws.collected_heaps_keep_the_graph.Goals as goal

pub returns : goal.returns
returns c = λ coding heap roots log allowance regions live sizes coded fit reached sounds are small apart dead after goes.
    let image : HeapImage = planned heap log allowance live in
    let other : HeapImage = opaque_image log allowance regions live sizes in
    let plan : HasSamePlan image other = c.opaque_objects_have_their_sizes.ensures.plan image regions sizes are small (c.opaque_objects_have_their_sizes.ensures.inside log allowance regions live sizes apart) in
    let same : HasSameWords heap image = record { layout = refl; words = refl } in
    let lives : HasLiveList image = c.reached_objects_are_a_live_list.ensures.live_list coding heap image other roots coded (le_of_eq fit.all) sounds reached same plan.objects apart in
    let lawful : RedirectsReferences heap.layout (heap_words heap) =
    c.layouts_redirect_references.ensures.lawful heap.layout (heap_words heap) (subst (λ l. IsLayout l (heap_words heap)) (sym coded) (c.layouts_are_lawful.ensures.coded coding (heap_words heap) fit)) in
    let graph = c.coded_slide_keeps_the_graph.ensures coding image other coded lives lawful plan dead after goes None in
    let new = c.objects_of_the_same_sizes_slide_alike.ensures.new_live image other plan in
    graph-of_heap heap log allowance live after (new_live other) (subst (λ ls. IsSameGraph image (record image { words = after; live = ls; roots = None })) (sym new) graph)
