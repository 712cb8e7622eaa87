use Rattle.std.proofs.Common.{sym, ◌∙◌, ap}
use Rattle.std.specs.Option.{is_some}
use Rattle.std.specs.Prelude.{option_map}
use Rattle.object_heap.specs.HeapImage.{HeapImage, versioned_image_of}
use Rattle.heap_image.specs.Upgrade.{in_version_three}
use Rattle.heap_image.proofs.Lemmas.Upgrades.{in_version_three-IsValid}
use Rattle.heap_image.proofs.upgrading.in_version_three.Goals as goal

pub into_image-requires : goal.into_image-requires
into_image-requires c =
    let parts = c.into_parts-parts.result in
    let old = c.into_parts-parts.ensures in
    let image : HeapImage = versioned_image_of parts.version parts.region_log parts.allowance parts.regions.items parts.live.items (option_map (λ v. v.items) parts.roots) in
    record { regions = old.parts.whole; valid = in_version_three-IsValid image old.parts.valid (sym (ap (λ (i : HeapImage). is_some i.roots) old.whole) ∙ c.requires) }

pub returns : goal.returns
returns c = c.into_image.ensures ∙ ap in_version_three (sym c.into_parts-parts.ensures.whole)
