use Rattle.std.proofs.Common.{◌*◌, ◌%◌, ◌^◌, ap, ◌∙◌}
use Rattle.std.specs.Prelude.{option_map}
use Rattle.object_heap.specs.HeapImage.{heap_words}
use Rattle.heap_image.proofs.Lemmas.Parts.{len_fits}
use Rattle.heap_image.proofs.image.Image.len.Goals as goal

pub returns-clause-value : goal.returns-clause-value
returns-clause-value c =
    let i = c.self.inside in
    ap (λ n. n * 2 ^ i.region_log % 18446744073709551616) (c.len.ensures ∙ i.regions.ok.0)
    ∙ len_fits i.version i.region_log i.allowance i.regions.items i.live.items (option_map (λ v. v.items) i.roots) c.self.invariant.parts (c.blocks_joined.ensures.words i.region_log i.regions.items c.self.invariant.parts.whole)
    ∙ ap heap_words c.self.view_is
