use Rattle.std.proofs.Common.{◌≡◌, ◌<◌, ℕ, List, length, get_or, ap, ◌∙◌, arith}
use Rattle.std.specs.Prelude.{slice_index}
use Rattle.std.proofs.lemmas.List.{get_or_default}
use Rattle.scheduler.specs.MoveTable.{MoveTable, region_count, Slides}
use Rattle.scheduler.proofs.Lemmas.Openings.{ArePairCounts-more, tally_le}
use Rattle.scheduler.proofs.moves.tallies.count_readers.Goals as goal

pub overflow_add-index_mut : goal.overflow_add-index_mut
overflow_add-index_mut c =
    let m : MoveTable = c.args.moves.now in
    let i : ℕ = c.loop-source.source-index in
    let same : c.pairs-source-items.result.now ≡ m.pairs = c.pairs-source-items.ensures in
    let lt : i < length m.pairs = rw same at c.loop-source-test.true in
    let slide : Slides m.fill (get_or m.pairs i (0, 0)) = c.regions.ensures.lawful.slide i (0, 0) lt in
    let down : (get_or m.pairs i (0, 0)).0 < (get_or m.pairs i (0, 0)).1 = slide.0 in
    let inside : (get_or m.pairs i (0, 0)).1 < region_count m = slide.1 in
    let inside' : (get_or m.pairs i (0, 0)).1 < region_count m = omega arith in
    let at : c.index_mut.result.now ≡ slice_index c.loop-source.counts.items (get_or m.pairs i (0, 0)).1 =
    c.index_mut.ensures.value ∙ (ap (λ (ps : List (ℕ × ℕ)). get_or c.loop-source.counts.items (get_or ps i (0, 0)).1 c.index_mut.result.now) same ∙ get_or_default c.loop-source.counts.items (get_or m.pairs i (0, 0)).1 c.index_mut.result.now 0 (rw c.loop-source.invariant.all inside')) in
    let le = tally_le m (λ pair. pair.1) m.pairs i (get_or m.pairs i (0, 0)).1 c.loop-source.counts.items (omega arith) inside' c.loop-source.invariant in
    let fits = rw same at c.pairs-source-items.type_inv.0 in
    omega arith

pub loop-source-preserved : goal.loop-source-preserved
loop-source-preserved c =
    let m : MoveTable = c.args.moves.now in
    let i : ℕ = c.loop-source.source-index in
    let same : c.pairs-source-items.result.now ≡ m.pairs = c.pairs-source-items.ensures in
    let lt : i < length m.pairs = rw same at c.loop-source-test.true in
    let slide : Slides m.fill (get_or m.pairs i (0, 0)) = c.regions.ensures.lawful.slide i (0, 0) lt in
    let down : (get_or m.pairs i (0, 0)).0 < (get_or m.pairs i (0, 0)).1 = slide.0 in
    let inside : (get_or m.pairs i (0, 0)).1 < region_count m = slide.1 in
    let inside' : (get_or m.pairs i (0, 0)).1 < region_count m = omega arith in
    let at : c.index_mut.result.now ≡ slice_index c.loop-source.counts.items (get_or m.pairs i (0, 0)).1 =
    c.index_mut.ensures.value ∙ (ap (λ (ps : List (ℕ × ℕ)). get_or c.loop-source.counts.items (get_or ps i (0, 0)).1 c.index_mut.result.now) same ∙ get_or_default c.loop-source.counts.items (get_or m.pairs i (0, 0)).1 c.index_mut.result.now 0 (rw c.loop-source.invariant.all inside')) in
    rw (at, same) (ArePairCounts-more m (λ pair. pair.1) m.pairs i (0, 0) c.loop-source.counts.items lt inside' c.loop-source.invariant)
