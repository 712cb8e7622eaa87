use Rattle.std.proofs.Common.{◌<◌, ap, ◌∙◌, sym, subst, arith, []}
use Rattle.std.proofs.lemmas.List.{get_or_default}
use Rattle.object_heap.specs.HeapImage.{region_count, block_of}
use Rattle.heap_image.proofs.image.Image.region.Goals as goal

pub index-requires : goal.index-requires
index-requires c =
    let i = c.self.inside in
    let is = c.blocks_joined.ensures.count i.region_log i.regions.items c.self.invariant.parts.whole in
    let l = subst (λ n. c.args.r < n) (ap region_count (sym c.self.view_is) ∙ is) c.requires in
    let e = i.regions.ok.0 in
    omega arith

pub returns : goal.returns
returns c =
    let i = c.self.inside in
    let is = c.blocks_joined.ensures.count i.region_log i.regions.items c.self.invariant.parts.whole in
    let l = subst (λ n. c.args.r < n) (ap region_count (sym c.self.view_is) ∙ is) c.requires in
    c.index.ensures
    ∙ get_or_default i.regions.items c.args.r c.index.result.now [] l
    ∙ sym (c.blocks_joined.ensures.parts i.region_log i.regions.items c.self.invariant.parts.whole c.args.r l)
    ∙ ap (λ image. block_of image c.args.r) c.self.view_is
