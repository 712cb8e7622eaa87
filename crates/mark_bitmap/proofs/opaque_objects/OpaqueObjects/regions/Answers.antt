use Rattle.std.proofs.Common.{ℕ, ◌^◌, ◌≤◌, sym, ◌∙◌, ap, arith}
use Rattle.std.proofs.Math.Nat.{one-le-pow}
use Rattle.object_heap.specs.HeapImage.{region_count}
use Rattle.mark_bitmap.proofs.Lemmas.Opaque.{regions_are}
use Rattle.mark_bitmap.proofs.opaque_objects.OpaqueObjects.regions.Goals as goal

pub returns-clause-value : goal.returns-clause-value
returns-clause-value c =
    let log : ℕ = c.self.inside.region_log in
    let some : 1 ≤ 2 ^ log = one-le-pow log 2 (omega arith) in
    sym (regions_are log c.self.inside.allowance c.self.inside.regions c.self.inside.live.now c.self.inside.sizes.now (omega arith)) ∙ ap region_count c.self.view_is
