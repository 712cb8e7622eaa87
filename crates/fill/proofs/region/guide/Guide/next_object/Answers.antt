use Rattle.std.proofs.Common.{◌∙◌, subst}
use Rattle.std.specs.Prelude.{MatchOption}
use Rattle.object_heap.specs.HeapImage.{HeapImage}
use Rattle.object_heap.specs.Bits.{NoneBetween, IsFirstBetween}
use Rattle.mark_bitmap.specs.Marks.{is_begin}
use Rattle.fill.proofs.Lemmas.Steps.{next-from_begin}
use Rattle.fill.proofs.region.guide.Guide.next_object.Goals as goal

pub returns-clause-first : goal.returns-clause-first
returns-clause-first c = next-from_begin c.args.self.now c.args.from c.args.to c.next_begin_before.result
    (subst (λ (image : HeapImage). MatchOption c.next_begin_before.result (NoneBetween (is_begin image) c.args.from c.args.to) (IsFirstBetween (is_begin image) c.args.from c.args.to)) (c.self.invariant ∙ c.self.view_is) c.next_begin_before.ensures)
