use Rattle.std.proofs.Common.{◌≡◌, ℕ, List, map, sym, subst, ap, ◌∙◌}
use Rattle.std.specs.Prelude.{option_map}
use Rattle.std.specs.List.{range_with_len}
use Rattle.object_heap.specs.HeapImage.{IsValid, AreBlocks, region_count, block_of, versioned_image_of}
use Rattle.collector.proofs.Lemmas.Regions.{blocks_by}
use Rattle.collector.proofs.collection.preparing.with_regions.Goals as goal
use Rattle.collector.proofs.collection.preparing.with_regions.Goals.{After-planned_image_is_valid}

-- the regions are the image's
again : (c : After-planned_image_is_valid) → c.args.regions.items ≡ map (block_of c.args.plan.now) (range_with_len 0 (region_count c.args.plan.now))
again c = blocks_by (block_of c.args.plan.now) (region_count c.args.plan.now) c.args.regions.items c.requires.count c.requires.words

pub into_image-requires-clause-regions : goal.into_image-requires-clause-regions
into_image-requires-clause-regions c = subst (AreBlocks c.args.parts.region_log) (sym (again c)) c.requires.parts.blocks

pub into_image-requires-clause-valid : goal.into_image-requires-clause-valid
into_image-requires-clause-valid c =
    let parts = c.args.parts in
    subst (λ (xs : List (List ℕ)). IsValid (versioned_image_of parts.version parts.region_log parts.allowance xs parts.live.items (option_map (λ v. v.items) parts.roots))) (sym (again c))
    (subst IsValid c.requires.parts.whole c.planned_image_is_valid.ensures)

pub returns : goal.returns
returns c =
    let parts = c.args.parts in
    c.into_image.ensures ∙ (ap (λ (xs : List (List ℕ)). versioned_image_of parts.version parts.region_log parts.allowance xs parts.live.items (option_map (λ v. v.items) parts.roots)) (again c.before.before)
    ∙ sym c.requires.parts.whole)
