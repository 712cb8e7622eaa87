use Rattle.std.proofs.Common.{◌≡◌, ◌+◌, ◌-◌, ◌<◌, ℕ, Bool, suc, List, length, Option, None, sym, ap, ◌∙◌, subst, arith}
use Rattle.std.specs.Prelude.{slice_index_or, slice_set, nat_lt, if◌then◌else◌}
use Rattle.std.proofs.lemmas.List.{get_or_default}
use Rattle.scheduler.specs.MoveTable.{MoveTable}
use Rattle.claim_board.specs.declared.regions.holding.Holding.{Holding}
use Rattle.claim_board.specs.declared.regions.places.Places.{Places}
use Rattle.claim_board.specs.Places.{ArePlaces, AreReaders}
use Rattle.claim_board.specs.Sharings.{with_right}
use Rattle.claim_board.proofs.Lemmas.Emptying.{region_left, first_left, second_left, empties}
use Rattle.claim_board.proofs.Lemmas.Uniting.{is_whole, changes_only}
use Rattle.claim_board.proofs.regions.uniting.take_slots.Goals as goal

-- the readers of the region, as they were read
readers : (m : MoveTable) (places : Places) (r : ℕ) (two : ℕ × ℕ) → ArePlaces m places → r < length places.readers.items → two ≡ Rattle.std.proofs.Common.get_or places.readers.items r two → AreReaders m r two
readers m places r two are lt is = subst (AreReaders m r) (sym (is ∙ get_or_default places.readers.items r two (0, 0) lt)) (are.readers_are r (let z = are.readers_all in omega arith))

pub take_slot-value-requires : goal.take_slot-value-requires
take_slot-value-requires g c =
    let places = c.requires.left.1 in
    region_left c.requires.left.0 c.args.region c.args.places.now.pairs (g.S.SlotValues.is_left c.args.values.now) places.pairs c.requires.left.2 (let a = c.requires.inside in let b = places.readers_all in omega arith)

pub take_right-one-requires : goal.take_right-one-requires
take_right-one-requires g c =
    let m = c.requires.left.0 in
    let places = c.requires.left.1 in
    let two = c.index.result.now in
    first_left m c.args.region two (readers m c.args.places.now c.args.region two places c.requires.inside c.index.ensures) c.args.places.now.pairs places.pairs (g.S.SlotValues.is_left c.args.values.now) (g.S.SlotValues.is_left c.take_slot-value.new.self) c.take_slot-value.ensures.left
    c.requires.left.2

pub take_right-other-requires : goal.take_right-other-requires
take_right-other-requires g c =
    let m = c.requires.left.0 in
    let places = c.requires.left.1 in
    let two = c.index.result.now in
    second_left m c.args.region two (readers m c.args.places.now c.args.region two places c.requires.inside c.index.ensures) c.args.places.now.pairs places.pairs (g.S.SlotValues.is_left c.args.values.now) (g.S.SlotValues.is_left c.take_slot-value.new.self) c.take_slot-value.ensures.left
    (g.S.SlotValues.is_left c.take_right-one.new.values) c.take_right-one.ensures.left c.requires.left.2

pub returns-clause-emptied : goal.returns-clause-emptied
returns-clause-emptied g c = λ m places.
    let two = c.index.result.now in
    empties m c.args.region two (readers m c.args.places.now c.args.region two places c.requires.inside c.index.ensures) c.args.places.now.pairs places.pairs (g.S.SlotValues.is_left c.args.values.now) (g.S.SlotValues.is_left c.take_slot-value.new.self) c.take_slot-value.ensures.left
    (g.S.SlotValues.is_left c.take_right-one.new.values) c.take_right-one.ensures.left (g.S.SlotValues.is_left c.take_right-other.new.values) c.take_right-other.ensures.left

pub returns-clause-whole : goal.returns-clause-whole
returns-clause-whole g c = λ m places complete.
    let r = c.args.region in
    let two = c.index.result.now in
    let pp = c.args.places.now.pairs in
    let old : List (Option Holding) = g.S.SlotValues.items c.args.values.now in
    let e : pp ≡ length m.pairs = places.pairs in
    let region = c.take_slot-value.ensures.items in
    is_whole m r two (readers m c.args.places.now r two places c.requires.inside c.index.ensures) old c.take_slot-value.result c.take_right-one.result c.take_right-other.result
    (c.take_slot-value.ensures.value ∙ ap (λ n. slice_index_or old (n + r) None) e)
    (c.take_right-one.ensures.taken ∙ (ap (λ (vs : List (Option Holding)). if nat_lt two.0 pp then slice_index_or vs (pp - suc two.0) None else None) region
    ∙ ap (λ n. if nat_lt two.0 n then slice_index_or (slice_set old (n + r) None) (n - suc two.0) None else None) e))
    (c.take_right-other.ensures.taken ∙ (ap (λ (vs : List (Option Holding)). if nat_lt two.1 pp then slice_index_or vs (pp - suc two.1) None else None) (c.take_right-one.ensures.items ∙ ap (λ (vs : List (Option Holding)). with_right pp vs two.0 None) region)
    ∙ ap (λ n. if nat_lt two.1 n then slice_index_or (with_right n (slice_set old (n + r) None) two.0 None) (n - suc two.1) None else None) e))
    complete

pub returns-clause-others : goal.returns-clause-others
returns-clause-others g c = λ m places.
    let r = c.args.region in
    let two = c.index.result.now in
    let pp = c.args.places.now.pairs in
    let old : List (Option Holding) = g.S.SlotValues.items c.args.values.now in
    changes_only m r two (readers m c.args.places.now r two places c.requires.inside c.index.ensures) old (g.S.SlotValues.items c.take_right-other.new.values)
    (c.take_right-other.ensures.items ∙ (ap (λ (vs : List (Option Holding)). with_right pp vs two.1 None) (c.take_right-one.ensures.items ∙ ap (λ (vs : List (Option Holding)). with_right pp vs two.0 None) c.take_slot-value.ensures.items)
    ∙ ap (λ n. with_right n (with_right n (slice_set old (n + r) None) two.0 None) two.1 None) places.pairs))
