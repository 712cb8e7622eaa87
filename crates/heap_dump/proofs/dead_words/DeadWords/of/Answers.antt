use Rattle.std.proofs.Common.{◌≡◌, get_or, false, sym, ◌∙◌}
use Rattle.std.proofs.lemmas.List.{get_or_default}
use Rattle.heap_dump.specs.Totals.{gap_before, padding_before, wide_gap_before}
use Rattle.heap_dump.specs.declared.listing.ListedObject.{ListedObject}
use Rattle.heap_dump.proofs.Lemmas.Gaps.{end_more, gap_here, most_more, padding_here, sum_more, wide_here}
use Rattle.heap_dump.proofs.dead_words.DeadWords.of.Goals as goal

pub loop-object-preserved : goal.loop-object-preserved
loop-object-preserved c =
    let names = c.args.names.now in
    let objects = c.args.objects.now in
    let i = c.loop-object.object-index in
    let none : ListedObject = record { address = 0; id = 0; words = 0; machine_words = 0; class = 0; is_live = false } in
    let object = get_or objects i none in
    let below = c.loop-object-test.true in
    let is : object ≡ get_or objects i object = get_or_default objects i none object below in
    let so_far = c.loop-object.invariant in
    let gap : c.saturating_sub-gap.result ≡ gap_before names objects i = c.saturating_sub-gap.ensures ∙ gap_here names objects i object below is c.loop-object.end so_far.end in
    record {
      end = c.saturating_add-end.ensures ∙ sym (end_more names objects i object below is);
      most = c.most_padding-most.ensures ∙ sym (most_more names objects i object below is);
      padding = sum_more (padding_before names objects) i c.parted-narrow.result.0 c.loop-object.padding c.saturating_add-padding.result
          (c.parted-narrow.ensures.padding ∙ padding_here names objects i c.saturating_sub-gap.result c.loop-object.most gap so_far.most) so_far.padding c.saturating_add-padding.ensures;
      gaps = sum_more (wide_gap_before names objects) i c.parted-narrow.result.1 c.loop-object.gaps c.saturating_add-gaps.result
          (c.parted-narrow.ensures.wider ∙ wide_here names objects i c.saturating_sub-gap.result c.loop-object.most gap so_far.most) so_far.gaps c.saturating_add-gaps.ensures;
    }
