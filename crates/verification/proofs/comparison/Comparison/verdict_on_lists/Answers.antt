use Rattle.object_heap.specs.HeapImage.{HeapImage}
use Rattle.summary.specs.LiveObjects.{object_count, object_at}
use Rattle.verification.specs.Verdict.{root_count, root_at}
use Rattle.verification.proofs.Lemmas.Searching.{all_alike, least}
use Rattle.verification.proofs.Lemmas.Telling.{live_same, live_other, places, new_root, root_other, roots_same}
use Rattle.verification.proofs.comparison.Comparison.verdict_on_lists.Goals as goal

pub returns-in-Some : goal.returns-in-Some
returns-in-Some g c =
    let before : HeapImage = c.args.self.now.before.now in
    let after : HeapImage = c.args.self.now.after.now in
    let long = c.blocks_of_regions.ensures.compacted_length before in
    live_other before after long c.in-Some.i (least (places before after long) (object_at after) (object_count before) c.in-Some.i c.in-Some.ensures)

pub returns-in-Some-first_other : goal.returns-in-Some-first_other
returns-in-Some-first_other g c =
    let before : HeapImage = c.args.self.now.before.now in
    let after : HeapImage = c.args.self.now.after.now in
    let long = c.blocks_of_regions.ensures.compacted_length before in
    let live = all_alike (places before after long) (object_at after) (object_count before) c.in_default.ensures in (
      live_same before after long c.args.self.now.shape live,
      root_other before after long c.in-Some-first_other.i (least (new_root before after long) (root_at after) (root_count before) c.in-Some-first_other.i c.in-Some-first_other.ensures),
    )

pub returns-in-None : goal.returns-in-None
returns-in-None g c =
    let before : HeapImage = c.args.self.now.before.now in
    let after : HeapImage = c.args.self.now.after.now in
    let long = c.blocks_of_regions.ensures.compacted_length before in
    let live = all_alike (places before after long) (object_at after) (object_count before) c.in_default.ensures in (
      live_same before after long c.args.self.now.shape live,
      roots_same before after long c.args.self.now.shape (all_alike (new_root before after long) (root_at after) (root_count before) c.in-None.ensures),
    )
