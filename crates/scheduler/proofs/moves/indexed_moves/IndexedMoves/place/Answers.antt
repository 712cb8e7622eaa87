use Rattle.std.proofs.Common.{ℕ, List, length, refl, inl, inr}
use Rattle.scheduler.specs.MoveIndex.{AreReaders}
use Rattle.scheduler.specs.declared.moves.readers.Readers.TheVariants.{Nobody, One, Two}
use Rattle.scheduler.proofs.Lemmas.Indexes.{no_place, if_none, if_none_or}
use Rattle.scheduler.proofs.moves.indexed_moves.IndexedMoves.place.Goals as goal

pub reader_at-requires : goal.reader_at-requires
reader_at-requires c =
    let are : AreReaders c.args.self.now.pairs (length c.args.self.now.pairs) c.args.source (One c.in-One.at) = rw c.in-One.is at c.readers_of.ensures in
    are.inside c.in-One.at refl

pub reader_at-requires-in-Two : goal.reader_at-requires-in-Two
reader_at-requires-in-Two c =
    let are : AreReaders c.args.self.now.pairs (length c.args.self.now.pairs) c.args.source (Two c.in-Two.first c.in-Two.second) = rw c.in-Two.is at c.readers_of.ensures in
    are.inside c.in-Two.first (inl refl)

pub reader_at-requires-in-Two-2 : goal.reader_at-requires-in-Two-2
reader_at-requires-in-Two-2 c =
    let are : AreReaders c.args.self.now.pairs (length c.args.self.now.pairs) c.args.source (Two c.in-Two.first c.in-Two.second) = rw c.in-Two.is at c.readers_of.ensures in
    are.inside c.in-Two.second (inr refl)

pub returns-in-Nobody-clause-none : goal.returns-in-Nobody-clause-none
returns-in-Nobody-clause-none c =
    let are : AreReaders c.args.self.now.pairs (length c.args.self.now.pairs) c.args.source Nobody = rw c.in-Nobody.is at c.readers_of.ensures in
    no_place c.args.self.now.pairs c.args.destination c.args.source Nobody are (λ k listed. absurd listed)

pub returns-in-One-clause-none : goal.returns-in-One-clause-none
returns-in-One-clause-none c =
    let ps : List (ℕ × ℕ) = c.args.self.now.pairs in
    let are : AreReaders ps (length ps) c.args.source (One c.in-One.at) = rw c.in-One.is at c.readers_of.ensures in
    if_none c.reader_at.result (λ not. no_place ps c.args.destination c.args.source (One c.in-One.at) are (λ k listed one. not (rw listed at one))) c.reader_at.ensures.none

pub returns-in-Two-clause-none : goal.returns-in-Two-clause-none
returns-in-Two-clause-none c =
    let ps : List (ℕ × ℕ) = c.args.self.now.pairs in
    let first : ℕ = c.in-Two.first in
    let second : ℕ = c.in-Two.second in
    let are : AreReaders ps (length ps) c.args.source (Two first second) = rw c.in-Two.is at c.readers_of.ensures in
    rw c.or.ensures
    (if_none_or c.reader_at-in-Two.result c.reader_at-in-Two-2.result (λ not_first not_second. no_place ps c.args.destination c.args.source (Two first second) are (λ k listed one.
    elim listed [ inl same ↦ not_first (rw same at one) | inr same ↦ not_second (rw same at one) ]))
    c.reader_at-in-Two.ensures.none c.reader_at-in-Two-2.ensures.none)
