use Rattle.std.proofs.Common.{◌≡◌, ◌<◌, ℕ, List, length, get_or, ap, ◌∙◌}
use Rattle.std.specs.Prelude.{slice_index_or}
use Rattle.std.proofs.lemmas.List.{get_or_default}
use Rattle.scheduler.specs.MoveTable.{MoveTable, region_count}
use Rattle.scheduler.specs.MoveIndex.{joined}
use Rattle.scheduler.specs.declared.moves.readers.Readers.{Readers}
use Rattle.scheduler.specs.declared.moves.readers.Readers.TheVariants.{Nobody}
use Rattle.scheduler.proofs.Lemmas.Indexes.{reader_places_more}
use Rattle.scheduler.proofs.moves.indexed_moves.reader_places.Goals as goal

pub loop-place-preserved : goal.loop-place-preserved
loop-place-preserved c =
    let m : MoveTable = c.args.moves.now in
    let n : ℕ = c.loop-place.place in
    let readers : List Readers = c.loop-place.readers.items in
    let same : c.pairs-pair-items.result.now ≡ m.pairs = c.pairs-pair-items.ensures in
    let lt : n < length m.pairs = rw same at c.loop-place-test.true in
    let source : ℕ = (get_or m.pairs n (0, 0)).1 in
    let inside : source < region_count m = (c.regions.ensures.lawful.slide n (0, 0) lt).1 in
    let here : c.index.result.now ≡ slice_index_or readers source Nobody =
    c.index.ensures ∙ (ap (λ (ps : List (ℕ × ℕ)). get_or readers (get_or ps n (0, 0)).1 c.index.result.now) same ∙ get_or_default readers source c.index.result.now Nobody (rw c.loop-place.invariant.room inside)) in
    let more : c.and.result ≡ joined (slice_index_or readers source Nobody) n = c.and.ensures ∙ ap (λ (r : Readers). joined r n) here in
    rw (more, same) (reader_places_more m n source readers c.regions.ensures.lawful lt (λ d. ap (λ (p : ℕ × ℕ). p.1) (get_or_default m.pairs n d (0, 0) lt)) c.loop-place.invariant)
