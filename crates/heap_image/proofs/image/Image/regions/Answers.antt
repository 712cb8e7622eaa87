use Rattle.std.proofs.Common.{ap, ◌∙◌, sym, arith}
use Rattle.std.specs.Prelude.{option_map}
use Rattle.object_heap.specs.HeapImage.{region_count}
use Rattle.heap_image.proofs.Lemmas.Parts.{few_blocks}
use Rattle.heap_image.proofs.image.Image.regions.Goals as goal

pub overflow_cast-result : goal.overflow_cast-result
overflow_cast-result c =
    let i = c.self.inside in
    let few = few_blocks i.version i.region_log i.allowance i.regions.items i.live.items (option_map (λ v. v.items) i.roots) c.self.invariant.parts (c.blocks_joined.ensures.count i.region_log i.regions.items c.self.invariant.parts.whole) in
    let e = i.regions.ok.0 in
    omega arith

pub returns-clause-value : goal.returns-clause-value
returns-clause-value c =
    let i = c.self.inside in
    c.len.ensures ∙ i.regions.ok.0 ∙ sym (c.blocks_joined.ensures.count i.region_log i.regions.items c.self.invariant.parts.whole) ∙ ap region_count c.self.view_is
