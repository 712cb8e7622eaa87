use Rattle.std.proofs.Common.{ap, ◌∙◌}
use Rattle.std.specs.Prelude.{map, option_map}
use Rattle.std.specs.List.{range_with_len}
use Rattle.object_heap.specs.HeapImage.{region_count, block_of}
use Rattle.heap_image.proofs.Lemmas.Blocks.{blocks_are}
use Rattle.heap_image.proofs.image.Image.into_parts.Goals as goal

pub returns-clause-blocks : goal.returns-clause-blocks
returns-clause-blocks c =
    let i = c.self.inside in
    blocks_are c.blocks_joined.ensures.count c.blocks_joined.ensures.parts i.version i.region_log i.allowance i.regions.items i.live.items (option_map (λ v. v.items) i.roots) c.self.invariant.parts
    ∙ ap (λ image. map (block_of image) (range_with_len 0 (region_count image))) c.self.view_is
