use Rattle.std.proofs.Common.{sym, ap, ◌∙◌, subst}
use Rattle.std.specs.Mem.Slots.{slots_items}
use Rattle.atomic_table.specs.Table.{Final, Seen}
use Rattle.box_row.specs.Rows as rows
use Rattle.claim_board.specs.declared.regions.holding.Holding.{Holding}
use Rattle.claim_board.specs.declared.rule.table_key.TableKey.{TableKey}
use Rattle.claim_board.specs.Holdings.{LieIn}
use Rattle.claim_board.specs.Places.{ArePlaces}
use Rattle.claim_board.specs.Slots.{kept}
use Rattle.claim_board.proofs.Lemmas.Endings.{final_complete, final_ends, final_lie}
use Rattle.claim_board.proofs.regions.region_board.RegionBoard.into_regions.Goals as goal

pub unite_closed-requires-clause-complete : goal.unite_closed-requires-clause-complete
unite_closed-requires-clause-complete c =
    let b = c.args.self in
    let k : TableKey Holding = b.table.shared.key in
    let v = c.args.place.me.0 in
    let ws = slots_items c.close_with.result.words in
    let xs = slots_items c.close_with.result.slots in
    let apart = c.take_apart-table.ensures in
    let final : Final (Seen (kept k) c.args.place.id v) ws xs = subst (λ (q : TableKey Holding). Final (Seen (kept q) c.args.place.id v) ws xs) (ap (λ t. t.shared.key) apart.0) c.close_with.ensures.values.2 in (
      k.moves,
      subst (ArePlaces k.moves) (sym apart.1) b.placed,
      final_complete c.what_legal_histories_keep.ensures k c.args.place.id v ws xs final c.requires.legal c.requires.settled b.slotted.1 b.regions b.moved b.small,
      subst (λ row. LieIn k.moves (rows.spot row) xs) (sym apart.2) (final_lie c.what_legal_histories_keep.ensures k c.args.place.id v ws xs final c.requires.legal c.requires.settled b.slotted.1 (rows.spot b.row) b.laid.0 b.laid.1),
    )

pub returns : goal.returns
returns c =
    let b = c.args.self in
    let k : TableKey Holding = b.table.shared.key in
    let v = c.args.place.me.0 in
    let ws = slots_items c.close_with.result.words in
    let xs = slots_items c.close_with.result.slots in
    let final : Final (Seen (kept k) c.args.place.id v) ws xs = subst (λ (q : TableKey Holding). Final (Seen (kept q) c.args.place.id v) ws xs) (ap (λ t. t.shared.key) c.take_apart-table.ensures.0) c.close_with.ensures.values.2 in
    let ends = final_ends c.what_legal_histories_keep.ensures k c.args.place.id v ws xs final c.requires.legal c.requires.settled b.slotted.1 b.regions b.moved in
    let back = c.unite_closed.ensures k.moves (subst (ArePlaces k.moves) (sym c.take_apart-table.ensures.1) b.placed)
    (final_complete c.what_legal_histories_keep.ensures k c.args.place.id v ws xs final c.requires.legal c.requires.settled b.slotted.1 b.regions b.moved b.small) in
    record { count = back.0; words = λ r lt. back.1 r lt ∙ (ends r lt).1 }
