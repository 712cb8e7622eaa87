use Rattle.std.proofs.Common.{◌≡◌, ◌<◌, ℕ, List, length, get_or, ap, ◌∙◌, arith}
use Rattle.std.specs.Prelude.{slice_index}
use Rattle.std.proofs.lemmas.List.{get_or_default}
use Rattle.scheduler.specs.MoveTable.{MoveTable, region_count, Slides}
use Rattle.scheduler.proofs.Lemmas.Openings.{ArePairCounts-more, tally_le}
use Rattle.scheduler.proofs.moves.tallies.count_sources.Goals as goal

pub overflow_add-index_mut : goal.overflow_add-index_mut
overflow_add-index_mut c =
    let m : MoveTable = c.args.moves.now in
    let i : ℕ = c.loop-destination.destination-index in
    let same : c.pairs-destination-items.result.now ≡ m.pairs = c.pairs-destination-items.ensures in
    let lt : i < length m.pairs = rw same at c.loop-destination-test.true in
    let slide : Slides m.fill (get_or m.pairs i (0, 0)) = c.regions.ensures.lawful.slide i (0, 0) lt in
    let down : (get_or m.pairs i (0, 0)).0 < (get_or m.pairs i (0, 0)).1 = slide.0 in
    let inside : (get_or m.pairs i (0, 0)).1 < region_count m = slide.1 in
    let inside' : (get_or m.pairs i (0, 0)).0 < region_count m = omega arith in
    let at : c.index_mut.result.now ≡ slice_index c.loop-destination.counts.items (get_or m.pairs i (0, 0)).0 =
    c.index_mut.ensures.value ∙ (ap (λ (ps : List (ℕ × ℕ)). get_or c.loop-destination.counts.items (get_or ps i (0, 0)).0 c.index_mut.result.now) same ∙ get_or_default c.loop-destination.counts.items (get_or m.pairs i (0, 0)).0 c.index_mut.result.now 0 (rw c.loop-destination.invariant.all inside')) in
    let le = tally_le m (λ pair. pair.0) m.pairs i (get_or m.pairs i (0, 0)).0 c.loop-destination.counts.items (omega arith) inside' c.loop-destination.invariant in
    let fits = rw same at c.pairs-destination-items.type_inv.0 in
    omega arith

pub loop-destination-preserved : goal.loop-destination-preserved
loop-destination-preserved c =
    let m : MoveTable = c.args.moves.now in
    let i : ℕ = c.loop-destination.destination-index in
    let same : c.pairs-destination-items.result.now ≡ m.pairs = c.pairs-destination-items.ensures in
    let lt : i < length m.pairs = rw same at c.loop-destination-test.true in
    let slide : Slides m.fill (get_or m.pairs i (0, 0)) = c.regions.ensures.lawful.slide i (0, 0) lt in
    let down : (get_or m.pairs i (0, 0)).0 < (get_or m.pairs i (0, 0)).1 = slide.0 in
    let inside : (get_or m.pairs i (0, 0)).1 < region_count m = slide.1 in
    let inside' : (get_or m.pairs i (0, 0)).0 < region_count m = omega arith in
    let at : c.index_mut.result.now ≡ slice_index c.loop-destination.counts.items (get_or m.pairs i (0, 0)).0 =
    c.index_mut.ensures.value ∙ (ap (λ (ps : List (ℕ × ℕ)). get_or c.loop-destination.counts.items (get_or ps i (0, 0)).0 c.index_mut.result.now) same ∙ get_or_default c.loop-destination.counts.items (get_or m.pairs i (0, 0)).0 c.index_mut.result.now 0 (rw c.loop-destination.invariant.all inside')) in
    rw (at, same) (ArePairCounts-more m (λ pair. pair.0) m.pairs i (0, 0) c.loop-destination.counts.items lt inside' c.loop-destination.invariant)
