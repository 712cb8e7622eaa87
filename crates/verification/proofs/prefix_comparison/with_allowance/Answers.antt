use Rattle.std.specs.Prelude.{option_map}
use Rattle.object_heap.specs.HeapImage.{versioned_image_of}
use Rattle.verification.proofs.Lemmas.Allowances.{allowing_valid}
use Rattle.verification.proofs.prefix_comparison.with_allowance.Goals as goal

pub into_image-requires-clause-valid : goal.into_image-requires-clause-valid
into_image-requires-clause-valid c =
    let parts = c.into_parts-parts.result in
    allowing_valid (versioned_image_of parts.version parts.region_log parts.allowance parts.regions.items parts.live.items (option_map (λ v. v.items) parts.roots)) c.args.allowance
    c.ranges.allowance.fits c.into_parts-parts.ensures.parts.valid
