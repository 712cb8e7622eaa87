use Rattle.std.proofs.Common.{◌≡◌, ◌<◌, ℕ, ◌+◌, List, length, get_or, sym, ap, ◌∙◌, subst, arith}
use Rattle.std.specs.Prelude.{slice_index_or, slice_set}
use Rattle.std.proofs.lemmas.List.{get_or_default}
use Rattle.scheduler.specs.MoveTable.{MoveTable}
use Rattle.claim_board.specs.Places.{AreReadersIn, AreAllReadersIn, with_reader, source_at}
use Rattle.claim_board.proofs.Lemmas.Places.{source_inside}
use Rattle.claim_board.proofs.Lemmas.Listing.{one_reader_more, all_readers_in}
use Rattle.claim_board.proofs.regions.listing.readers_of.Goals as goal

pub loop-place-preserved : goal.loop-place-preserved
loop-place-preserved c =
    let m : MoveTable = c.args.moves.now in
    let n : ℕ = c.loop-place.place in
    let readers : List (ℕ × ℕ) = c.loop-place.readers.items in
    let same : c.args.pairs.now ≡ m.pairs = c.requires.pairs in
    let lt : n < length m.pairs = rw same at c.loop-place-test.true in
    let s : ℕ = source_at m n in
    let inside : s < length readers = (let a = source_inside m c.requires.lawful n lt in let b = c.loop-place.invariant.room in omega arith) in
    let here : c.index.result.now ≡ slice_index_or readers s (0, 0) =
    c.index.ensures ∙ (ap (λ (ps : List (ℕ × ℕ)). get_or readers (get_or ps n (0, 0)).1 c.index.result.now) same ∙ get_or_default readers s c.index.result.now (0, 0) inside) in
    let two : c.and_reader.result ≡ with_reader (length m.pairs) (slice_index_or readers s (0, 0)) n =
    c.and_reader.ensures ∙ (ap (λ (ps : List (ℕ × ℕ)). with_reader (length ps) c.index.result.now n) same ∙ ap (λ q. with_reader (length m.pairs) q n) here) in
    subst (λ (ps : List (ℕ × ℕ)). AreAllReadersIn m (n + 1) (slice_set readers (slice_index_or ps n (0, 0)).1 c.and_reader.result)) (sym same)
    (one_reader_more m c.requires.lawful n s readers c.and_reader.result lt Rattle.std.proofs.Common.refl two c.loop-place.invariant)

pub returns-clause-are : goal.returns-clause-are
returns-clause-are c =
    let m : MoveTable = c.args.moves.now in
    let readers : List (ℕ × ℕ) = c.loop-place.readers.items in
    let all : length c.args.pairs.now ≡ length m.pairs = ap length c.requires.pairs in
    let last : c.loop-place.place ≡ length m.pairs = (let t = c.loop-place-test.false in let e = c.loop-place.auto.place-end in omega arith) in
    λ s inside. all_readers_in m c.requires.lawful s (slice_index_or readers s (0, 0)) (subst (λ (n : ℕ). AreReadersIn m n s (slice_index_or readers s (0, 0))) last (c.loop-place.invariant.each s inside))
