-- What calls answer about an image.
use Rattle.std.specs.Prelude.{◌≡◌}
use Rattle.object_heap.specs.HeapImage.{HeapImage}
use Rattle.summary.specs.NewAddresses.{prefix_end, new_top}
use Rattle.summary.specs.RegionData.{fill_count}
use Rattle.pcompact_c.specs.declared.answer.PcompactAnswer.{PcompactAnswer}

-- the figures of the collection of an image
pub record IsSummaryOf (image : HeapImage) (answer : PcompactAnswer) : Type 0 where
  pub prefix : answer.prefix_end ≡ prefix_end image
  pub top : answer.new_top ≡ new_top image
  pub filled : answer.filled_regions ≡ fill_count image
