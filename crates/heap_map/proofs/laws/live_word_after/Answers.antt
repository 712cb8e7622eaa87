use Rattle.std.proofs.Common.{◌≡◌, ◌∙◌, ◌<◌, true, false, sym, inl, inr, arith}
use Rattle.std.proofs.lemmas.Bool.{cases_Bool, false_from_ne_true}
use Rattle.std.proofs.lemmas.Bool.Decides.{leb_tells}
use Rattle.object_heap.specs.HeapImage.{is_live_word}
use Rattle.summary.specs.Compaction.{compact}
use Rattle.summary.specs.LiveObjects.{object_at, object_count}
use Rattle.summary.specs.NewAddresses.{prefix_end}
use Rattle.heap_map.proofs.Lemmas.Placed.{end, goes-up, place, stays-put}
use Rattle.heap_map.proofs.laws.live_word_after.Goals as goal

pub returns-clause-moved : goal.returns-clause-moved
returns-clause-moved c image valid p low high =
    let list = valid.live_list in
    let new_list = (c.compaction_is_valid.ensures image valid).live_list in
    let graph = c.compaction_keeps_the_graph.ensures image list (record { leads = valid.lawful.leads; stays = valid.lawful.stays }) in
    let at = c.no_gaps_above_the_prefix.ensures image list p low high in
    let is = place image at.0 at.1 in
    let ends = end image at.0 at.1 graph in
    c.words_of_objects.ensures.live (compact image) new_list at.0 p (omega (arith, graph.objects, at.1)) (omega (arith, is, at.2)) (omega (arith, ends, at.3))

pub returns-clause-free : goal.returns-clause-free
returns-clause-free c image valid p above =
    let list = valid.live_list in
    let new_list = (c.compaction_is_valid.ensures image valid).live_list in
    let graph = c.compaction_keeps_the_graph.ensures image list (record { leads = valid.lawful.leads; stays = valid.lawful.stays }) in
    false_from_ne_true (is_live_word (compact image) p) (λ lives.
    let at = c.words_of_objects.ensures.owner (compact image) new_list p lives in
    let inside : at.0 < object_count image = omega (arith, graph.objects, at.1) in
    let ends = end image at.0 inside graph in
    let below = c.objects_keep_their_order.ensures.below image list at.0 inside in
    omega (arith, ends, at.3, below))

pub returns-clause-below : goal.returns-clause-below
returns-clause-below c image valid p below =
    let list = valid.live_list in
    let new_list = (c.compaction_is_valid.ensures image valid).live_list in
    let graph = c.compaction_keeps_the_graph.ensures image list (record { leads = valid.lawful.leads; stays = valid.lawful.stays }) in
    elim (cases_Bool (is_live_word image p)) [
      | inl lives ↦
          let at = c.words_of_objects.ensures.owner image list p lives in
          let is = place image at.0 at.1 in
          let ends = end image at.0 at.1 graph in
          let put = stays-put image (object_at image at.0) (omega (arith, at.2)) in
          c.words_of_objects.ensures.live (compact image) new_list at.0 p (omega (arith, graph.objects, at.1)) (omega (arith, is, put, at.2)) (omega (arith, ends, put, at.3)) ∙ sym lives
      | inr dead ↦
          false_from_ne_true (is_live_word (compact image) p) (λ lives.
          let at = c.words_of_objects.ensures.owner (compact image) new_list p lives in
          let inside : at.0 < object_count image = omega (arith, graph.objects, at.1) in
          let is = place image at.0 inside in
          let ends = end image at.0 inside graph in
          let some = (list.sound at.0 0 inside).header in
          let counted = c.new_address_by_counting.ensures image list at.0 0 inside some in
          elim (leb_tells (prefix_end image) (object_at image at.0)) [
            | inl up ↦
                let high = goes-up image (object_at image at.0) up.1 counted in
                omega (arith, high, is, at.2)
            | inr low ↦
                let put = stays-put image (object_at image at.0) (omega (arith, low.1)) in
                let alive = c.words_of_objects.ensures.live image list at.0 p inside (omega (arith, is, put, at.2)) (omega (arith, ends, put, at.3)) in
                let no : true ≡ false = sym alive ∙ dead in
                cc
          ]) ∙ sym dead
    ]
