use Rattle.object_heap.specs.HeapImage.{HeapImage}
use Rattle.verification.proofs.comparison.objects_are_placed.Goals as goal

pub returns : goal.returns
returns c =
    let image : HeapImage = c.args.image.now in
    let valid = c.image_is_valid.ensures in
    let list = valid.live_list in
    record {
      valid = valid;
      own = c.image_is_own.ensures;
      below_end = (c.prefix_end_is_greatest.ensures image).below_end;
      owner = c.words_of_objects.ensures.owner image list;
      live = c.words_of_objects.ensures.live image list;
      ordered = c.words_of_objects.ensures.ordered image list;
      counted = c.new_address_by_counting.ensures image list;
      apart = c.objects_keep_their_order.ensures.apart image list;
      below = c.objects_keep_their_order.ensures.below image list;
      covered = c.no_gaps_above_the_prefix.ensures image list;
      top = c.regions_to_fill.ensures.top image list;
      object = c.compaction_by_objects.ensures.object image list;
    }
