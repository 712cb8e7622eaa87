use Rattle.std.proofs.Common.{◌≡◌, ◌⊎◌, ℕ, ◌+◌, ◌<◌, ◌≤◌, List, [], ◌∷◌, ◌++◌, length, Option, None, sym, ap, ◌∙◌, subst, inl, inr, append_assoc, append-nil, arith}
use Rattle.std.specs.Prelude.{slice_index}
use Rattle.std.proofs.lemmas.Bool.{cases_lt}
use Rattle.std.proofs.lemmas.List.{get_or_default}
use Rattle.scheduler.specs.MoveTable.{IsMoveTable, IsFirstPlace, region_count}
use Rattle.claim_board.specs.declared.regions.holding.Holding.{Holding}
use Rattle.claim_board.specs.declared.regions.places.Places.{Places}
use Rattle.claim_board.specs.declared.rule.table_key.TableKey.{TableKey}
use Rattle.claim_board.specs.Holds.{pair_slot, still_out}
use Rattle.claim_board.specs.Places.{ArePlaces, AreReaders}
use Rattle.claim_board.specs.Slots.{first_of_slot}
use Rattle.claim_board.proofs.Lemmas.Readers.{first_inside, first_top, second_top, after_both, after_first, after_none, part_of, shown_top, behind_top}
use Rattle.claim_board.proofs.regions.gather.take_readers.Goals as goal

-- the readers of the region, as they were read
readers : (k : TableKey Holding) (places : Places) (r : ℕ) (two : ℕ × ℕ) → ArePlaces k.moves places → r < region_count k.moves → two ≡ Rattle.std.proofs.Common.get_or places.readers.items r two → AreReaders k.moves r two
readers k places r two are lt is = subst (AreReaders k.moves r) (sym (is ∙ get_or_default places.readers.items r two (0, 0) (rw are.readers_all lt))) (are.readers_are r lt)

pub take_reader-requires-clause-top : goal.take_reader-requires-clause-top
take_reader-requires-clause-top c =
    let k = c.args.words.now.key in
    let r = c.args.region in
    let two = c.index.result.now in
    let are = readers k c.args.places.now r two c.requires.places c.requires.region c.index.ensures in
    let f = slice_index c.args.places.now.first.items r in
    let place = c.requires.places.first_is r c.requires.region in
    λ low.
    let lt : two.0 < length k.moves.pairs = (let z = c.requires.places.pairs in omega arith) in
    let part = part_of k c.requires.lawful r two are f place c.requires.regions two.0 lt (are.first lt) in (
      first_of_slot k (pair_slot k.moves two.0),
      part.share,
      part.same ∙ sym c.requires.origin,
      part.one,
      shown_top k c.requires.lawful r two are f place 0 two.0 c.args.seat.now.me.1 c.requires.held.0 (first_top k c.requires.lawful r two are f place lt) c.requires.held.1,
    )

pub take_reader-requires-2-clause-top : goal.take_reader-requires-2-clause-top
take_reader-requires-2-clause-top c =
    let k = c.args.words.now.key in
    let r = c.args.region in
    let two = c.index.result.now in
    let are = readers k c.args.places.now r two c.requires.places c.requires.region c.index.ensures in
    let f = slice_index c.args.places.now.first.items r in
    let place = c.requires.places.first_is r c.requires.region in
    λ low.
    let lt : two.1 < length k.moves.pairs = (let z = c.requires.places.pairs in omega arith) in
    let lt' : two.0 < length k.moves.pairs = first_inside k c.requires.lawful r two are f place lt in
    let part = part_of k c.requires.lawful r two are f place c.requires.regions two.1 lt (are.second lt) in
    let one = (c.take_reader.ensures.joined (let z = c.requires.places.pairs in omega arith)).1 in
    let then_ = behind_top k c.requires.lawful r two are f place 0 two.0 c.args.seat.now.me.1 c.take_reader.new.seat.me.1 c.requires.held.0 (first_top k c.requires.lawful r two are f place lt') c.requires.held.1 one in (
      first_of_slot k (pair_slot k.moves two.1),
      part.share,
      part.same ∙ (sym c.requires.origin ∙ sym c.take_reader.ensures.origin),
      part.one,
      shown_top k c.requires.lawful r two are f place (Rattle.std.proofs.Common.suc two.0) two.1 c.take_reader.new.seat.me.1 (c.requires.held.0 ++ (pair_slot k.moves two.0, None) ∷ []) (second_top k c.requires.lawful r two are f place lt) then_,
    )

pub returns-clause-held : goal.returns-clause-held
returns-clause-held c = λ tail is. go tail is (cases_lt two.0 (length k.moves.pairs)) (cases_lt two.1 (length k.moves.pairs))
  where
    k : TableKey Holding
    k = c.args.words.now.key

    r : ℕ
    r = c.args.region

    two : ℕ × ℕ
    two = c.index.result.now

    are : AreReaders k.moves r two
    are = readers k c.args.places.now r two c.requires.places c.requires.region c.index.ensures

    f : ℕ
    f = slice_index c.args.places.now.first.items r

    place : IsFirstPlace k.moves.pairs r 0 f
    place = c.requires.places.first_is r c.requires.region

    law : IsMoveTable k.moves
    law = c.requires.lawful

    done : (tail others held : List (ℕ × Option Holding)) (p : ℕ) → held ≡ still_out k r p ++ (tail ++ others) → still_out k r p ≡ still_out k r f → (others : List (ℕ × Option Holding)) × (held ≡ still_out k r f ++ (tail ++ others))
    done tail others held p e same = (others, e ∙ ap (λ xs. xs ++ (tail ++ others)) same)

    go : (tail : List (ℕ × Option Holding)) → c.args.seat.now.me.1 ≡ still_out k r 0 ++ tail → (two.0 < length k.moves.pairs) ⊎ (length k.moves.pairs ≤ two.0) → (two.1 < length k.moves.pairs) ⊎ (length k.moves.pairs ≤ two.1)
        → (others : List (ℕ × Option Holding)) × (c.take_reader-2.new.seat.me.1 ≡ still_out k r f ++ (tail ++ others))
    go tail is (inr none) (inl more) = absurd (let z = first_inside k law r two are f place more in omega arith)
    go tail is (inr none) (inr over) =
        let a = (c.take_reader.ensures.same (let z = c.requires.places.pairs in omega arith)).1 in
        let b = (c.take_reader-2.ensures.same (let z = c.requires.places.pairs in omega arith)).1 in
        done tail [] c.take_reader-2.new.seat.me.1 0 (b ∙ (a ∙ (is ∙ ap (λ xs. still_out k r 0 ++ xs) (sym (append-nil tail))))) (after_none k law r two are f place none)
    go tail is (inl lt) (inr over) =
        let a = (c.take_reader.ensures.joined (let z = c.requires.places.pairs in omega arith)).1 in
        let b = (c.take_reader-2.ensures.same (let z = c.requires.places.pairs in omega arith)).1 in
        done tail ((pair_slot k.moves two.0, None) ∷ []) c.take_reader-2.new.seat.me.1 (Rattle.std.proofs.Common.suc two.0)
        (b ∙ behind_top k law r two are f place 0 two.0 c.args.seat.now.me.1 c.take_reader.new.seat.me.1 tail (first_top k law r two are f place lt) is a) (after_first k law r two are f place lt over)
    go tail is (inl lt) (inl more) =
        let a = (c.take_reader.ensures.joined (let z = c.requires.places.pairs in omega arith)).1 in
        let b = (c.take_reader-2.ensures.joined (let z = c.requires.places.pairs in omega arith)).1 in
        let one = behind_top k law r two are f place 0 two.0 c.args.seat.now.me.1 c.take_reader.new.seat.me.1 tail (first_top k law r two are f place lt) is a in
        let both = behind_top k law r two are f place (Rattle.std.proofs.Common.suc two.0) two.1 c.take_reader.new.seat.me.1 c.take_reader-2.new.seat.me.1 (tail ++ (pair_slot k.moves two.0, None) ∷ []) (second_top k law r two are f place more) one b in
        done tail ((pair_slot k.moves two.0, None) ∷ (pair_slot k.moves two.1, None) ∷ []) c.take_reader-2.new.seat.me.1 (Rattle.std.proofs.Common.suc two.1)
        (both ∙ ap (λ xs. still_out k r (Rattle.std.proofs.Common.suc two.1) ++ xs) (append_assoc tail ((pair_slot k.moves two.0, None) ∷ []) ((pair_slot k.moves two.1, None) ∷ []))) (after_both k law r two are f place more)
