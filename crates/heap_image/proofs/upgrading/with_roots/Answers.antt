use Rattle.std.proofs.Common.{ℕ, ◌+◌, sym, ◌∙◌, ap, Some}
use Rattle.std.specs.Prelude.{map, option_map}
use Rattle.object_heap.specs.HeapImage.{HeapImage, versioned_image_of}
use Rattle.object_heap.specs.declared.version.Version.TheVariants.{Two}
use Rattle.heap_image.proofs.Lemmas.Upgrades.{upgraded-IsValid, upgraded-rootless}
use Rattle.heap_image.proofs.upgrading.with_roots.Goals as goal

pub into_image-requires : goal.into_image-requires
into_image-requires c =
    let parts = c.into_parts-parts.result in
    let old = c.into_parts-parts.ensures in
    let image : HeapImage = versioned_image_of parts.version parts.region_log parts.allowance parts.regions.items parts.live.items (option_map (λ v. v.items) parts.roots) in
    let e = c.requires.roots ∙ ap (λ (i : HeapImage). map (λ (a : ℕ). a + 1) i.live) old.whole in
    record { regions = old.parts.whole; valid = upgraded-IsValid image old.parts.valid (c.live_objects_are_reached.ensures image old.parts.valid.live_list) (sym (ap (λ (i : HeapImage). i.roots) old.whole) ∙ c.requires.none) c.args.roots.items e }

pub returns : goal.returns
returns c =
    c.into_image.ensures
    ∙ ap (λ (i : HeapImage). record i { version = Two; roots = Some c.args.roots.items }) (sym c.into_parts-parts.ensures.whole)
    ∙ upgraded-rootless c.args.image c.args.roots.items c.requires.none c.requires.listed c.requires.roots
