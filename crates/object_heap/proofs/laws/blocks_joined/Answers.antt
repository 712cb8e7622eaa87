use Rattle.std.proofs.Common.{◌^◌}
use Rattle.object_heap.proofs.Lemmas.RegionLogs.{region_some}
use Rattle.object_heap.proofs.Lemmas.BlockWords.{length-concat, concat_part, count, block_below}
use Rattle.object_heap.proofs.laws.blocks_joined.Goals as goal

pub returns : goal.returns
returns c = record {
  words = λ log blocks are. length-concat (2 ^ log) blocks are;
  count = λ log blocks are. count (2 ^ log) (region_some log) blocks are;
  parts = λ log blocks are r l. concat_part (2 ^ log) blocks are r l;
  below = λ log blocks are a l. block_below (2 ^ log) (region_some log) blocks are a l;
}
