use Rattle.std.proofs.Common.{◌≡◌, ◌<◌, ℕ, false, sym, ap, ◌∙◌, subst, arith}
use Rattle.std.specs.Prelude.{slice_index}
use Rattle.std.specs.Mem.Slots.{slots_items}
use Rattle.atomic_table.specs.Table.{Final}
use Rattle.box_row.specs.Rows as rows
use Rattle.scheduler.specs.MoveTable.{region_count}
use Rattle.claim_board.specs.declared.regions.holding.Holding.{Holding}
use Rattle.claim_board.specs.declared.rule.table_key.TableKey.{TableKey}
use Rattle.claim_board.specs.Holdings.{LieIn, in_region, lies_in, words_of}
use Rattle.claim_board.specs.Homes.{AreAsWordsSay, is_claimed_word}
use Rattle.claim_board.specs.Places.{ArePlaces}
use Rattle.claim_board.specs.Slots.{kept}
use Rattle.claim_board.proofs.Lemmas.Endings.{as_words_say, home_by_words, claimed_by_word}
use Rattle.claim_board.proofs.Lemmas.Homes.{all_home, all_complete}
use Rattle.claim_board.proofs.regions.region_board.RegionBoard.take_back.Goals as goal

pub free_regions-requires-clause-home : goal.free_regions-requires-clause-home
free_regions-requires-clause-home c =
    let b = c.args.self in
    let k : TableKey Holding = b.table.shared.key in
    let ws = slots_items c.close-closed.result.words in
    let xs = slots_items c.close-closed.result.slots in
    let final : Final (kept k) ws xs = subst (λ (q : TableKey Holding). Final (kept q) ws xs) (ap (λ t. t.shared.key) c.take_apart-table.ensures.0) c.close-closed.ensures.values.2 in
    (k.moves, subst (ArePlaces k.moves) (sym c.take_apart-table.ensures.1) b.placed, as_words_say c.what_legal_histories_keep.ensures k ws xs final b.slotted.1 b.regions b.small)

pub unite_closed-requires-clause-complete : goal.unite_closed-requires-clause-complete
unite_closed-requires-clause-complete c =
    let b = c.args.self in
    let k : TableKey Holding = b.table.shared.key in
    let ws = slots_items c.close-closed.result.words in
    let xs = slots_items c.close-closed.result.slots in
    let final : Final (kept k) ws xs = subst (λ (q : TableKey Holding). Final (kept q) ws xs) (ap (λ t. t.shared.key) c.take_apart-table.ensures.0) c.close-closed.ensures.values.2 in
    let places : ArePlaces k.moves c.take_apart-table.result.places = subst (ArePlaces k.moves) (sym c.take_apart-table.ensures.1) b.placed in
    let are : AreAsWordsSay k.moves ws xs = as_words_say c.what_legal_histories_keep.ensures k ws xs final b.slotted.1 b.regions b.small in
    let none_claimed : (r : ℕ) → r < region_count k.moves → is_claimed_word (slice_index ws r) ≡ false = λ r lt. c.in-None.ensures.none r (let a = c.len.ensures in let o = c.take_apart-table.result.places.readers.ok in let e = places.readers_all in omega arith) in
    let stays : (r : ℕ) → r < region_count k.moves → in_region k.moves xs r ≡ in_region k.moves k.values.value.items r =
    λ r lt. (home_by_words c.what_legal_histories_keep.ensures k ws xs final b.slotted.1 b.regions r lt (all_home k.moves ws xs are none_claimed r lt)).1 in (
      k.moves,
      places,
      all_complete k.moves ws xs are none_claimed,
      subst (λ row. LieIn k.moves (rows.spot row) xs) (sym c.take_apart-table.ensures.2) (λ r lt. ap lies_in (stays r lt) ∙ b.laid.0 r lt),
    )

pub returns-in-None : goal.returns-in-None
returns-in-None c =
    let b = c.args.self in
    let k : TableKey Holding = b.table.shared.key in
    let ws = slots_items c.close-closed.result.words in
    let xs = slots_items c.close-closed.result.slots in
    let final : Final (kept k) ws xs = subst (λ (q : TableKey Holding). Final (kept q) ws xs) (ap (λ t. t.shared.key) c.take_apart-table.ensures.0) c.close-closed.ensures.values.2 in
    let places : ArePlaces k.moves c.take_apart-table.result.places = subst (ArePlaces k.moves) (sym c.take_apart-table.ensures.1) b.placed in
    let are : AreAsWordsSay k.moves ws xs = as_words_say c.what_legal_histories_keep.ensures k ws xs final b.slotted.1 b.regions b.small in
    let none_claimed : (r : ℕ) → r < region_count k.moves → is_claimed_word (slice_index ws r) ≡ false = λ r lt. c.in-None.ensures.none r (let a = c.len.ensures in let o = c.take_apart-table.result.places.readers.ok in let e = places.readers_all in omega arith) in
    let back = c.unite_closed.ensures k.moves places (all_complete k.moves ws xs are none_claimed) in
    record { count = back.0; words = λ r lt. back.1 r lt ∙ ap words_of (home_by_words c.what_legal_histories_keep.ensures k ws xs final b.slotted.1 b.regions r lt (all_home k.moves ws xs are none_claimed r lt)).1; claimed = tt }

pub returns-clause-claimed : goal.returns-clause-claimed
returns-clause-claimed c =
    let b = c.args.self in
    let k : TableKey Holding = b.table.shared.key in
    let ws = slots_items c.close-closed.result.words in
    let xs = slots_items c.close-closed.result.slots in
    let final : Final (kept k) ws xs = subst (λ (q : TableKey Holding). Final (kept q) ws xs) (ap (λ t. t.shared.key) c.take_apart-table.ensures.0) c.close-closed.ensures.values.2 in
    let places : ArePlaces k.moves c.take_apart-table.result.places = subst (ArePlaces k.moves) (sym c.take_apart-table.ensures.1) b.placed in
    let r = c.in-Some._region in
    let found = c.in-Some.ensures.some in
    let claimed = claimed_by_word c.what_legal_histories_keep.ensures k ws xs final b.slotted.1 b.regions c.how_counts_go_down.ensures r (let a = c.len.ensures in let o = c.take_apart-table.result.places.readers.ok in let e = places.readers_all in omega (arith, found.0)) found.1 in
    (claimed.0, claimed.1, (r, claimed.2))
