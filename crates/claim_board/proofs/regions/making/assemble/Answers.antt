use Rattle.std.proofs.Common.{◌≡◌, ◌<◌, ℕ, List, [], length, suc, sym, ap, ◌∙◌, subst, arith}
use Rattle.std.specs.Prelude.{Option, None, is_some, slice_get, slice_index_or}
use Rattle.atomic_table.specs.Table.{opening}
use Rattle.box_row.specs.declared.place.InRow.{InRow}
use Rattle.box_row.specs.Rows.{items, spot}
use Rattle.scheduler.specs.MoveTable.{IsMoveTable, region_count}
use Rattle.scheduler.specs.Scheduler.{ArePairCounts}
use Rattle.claim_board.specs.declared.regions.holding.Holding.{Holding}
use Rattle.claim_board.specs.declared.rule.table_key.TableKey.{TableKey}
use Rattle.claim_board.specs.Holdings.{AreRegions, AreMoved, AreLaid, LieIn, in_region, lies_in, words_of}
use Rattle.claim_board.specs.Places.{ArePlaces}
use Rattle.claim_board.specs.Sharings.{AreSharedFrom}
use Rattle.claim_board.specs.Slots.{slots, all_slots, moved_of, kept, all_workers}
use Rattle.claim_board.specs.Unions.{AreReady}
use Rattle.claim_board.proofs.Lemmas.Emptying.{all_ready}
use Rattle.claim_board.proofs.Lemmas.Openings.{opens_slots}
use Rattle.claim_board.proofs.Lemmas.Sharing.{all_shared}
use Rattle.claim_board.proofs.regions.making.assemble.Goals as goal
use Rattle.claim_board.proofs.regions.making.assemble.Goals.{After-share_all}

-- all regions are shared out
module _ (g : _) (c : After-share_all g) where
  abbrev values : List (Option Holding)
  values = c.share_all.new.values.items

  slotted : length c.args.parts.values.items ≡ all_slots c.args.parts.moves
  slotted = let z = c.args.parts.slotted in let y = c.args.parts.values.ok in omega arith

  size : length values ≡ all_slots c.args.parts.moves
  size = c.share_all.ensures.size ∙ slotted

  abbrev words : ℕ → List ℕ
  words r = slice_index_or (items c.args.row) r []

  shared : AreSharedFrom c.args.parts.moves 0 words (spot c.args.row) values
  shared = c.share_all.ensures.shared c.args.parts.moves c.args.parts.lawful c.args.parts.placed slotted

  are : AreRegions c.args.parts.moves values
  are = all_shared c.args.parts.moves words (spot c.args.row) values size shared

  -- where they lay in the row before
  lie : LieIn c.args.parts.moves (spot c.share_all.new.row) values
  lie r inside = (shared.regions r (omega arith) inside).2 ∙ ap (λ (s : InRow). Rattle.std.specs.Prelude.Some s) (sym (c.share_all.ensures.same.1 r))

  small : all_slots c.args.parts.moves < 18446744073709551616
  small = let z = c.args.parts.slotted in let y = c.args.parts.values.small in omega arith

pub new-requires : goal.new-requires
new-requires g c =
    let parts = c.args.parts in
    let at = (goal.at.new-requires g c).After-share_all in
    let k : TableKey Holding = record { moves = parts.moves; workers = c.args.workers; values = c.of.result; moved = c.foresee.result } in
    let long : length parts.words.items ≡ suc (region_count k.moves) = (let z = parts.sized in let y = parts.words.ok in omega arith) in
    subst (λ (ws : List ℕ). kept k (opening ws (values g at) (all_workers k))) (sym c.as_slice.ensures.value)
    (opens_slots k parts.words.items (values g at) (ap (λ v. v.items) (sym c.of.ensures)) parts.lawful long parts.opened parts.remaining)

pub invariant_of-board : goal.invariant_of-board
invariant_of-board g c =
    let parts = c.args.parts in
    let at = (goal.at.invariant_of-board g c).After-share_all in
    let m = parts.moves in
    let k : TableKey Holding = record { moves = m; workers = c.args.workers; values = c.of.result; moved = c.foresee.result } in
    let made = c.in-Ok.ensures.ok in
    let e : c.in-Ok.table.shared.key ≡ k = made.5 in
    let there : values g at ≡ c.of.result.value.items = ap (λ v. v.items) (sym c.of.ensures) in
    let long : length parts.words.items ≡ suc (region_count m) = (let z = parts.sized in let y = parts.words.ok in omega arith) in
    let row = c.share_all.new.row in
    let same = c.share_all.ensures.same in
    record {
      manned = (c.requires.workers.0, ap (λ q. q.workers) (sym e));
      few = c.requires.workers.1;
      same = ap (λ q. q.moves) (sym e);
      lawful = subst (λ (q : TableKey Holding). IsMoveTable q.moves) (sym e) parts.lawful;
      sized = made.0 ∙ (ap length c.as_slice.ensures.value ∙ (long ∙ ap (λ (q : TableKey Holding). suc (region_count q.moves)) (sym e)));
      slotted = (made.1 ∙ (size g at ∙ ap (λ (q : TableKey Holding). all_slots q.moves) (sym e)), ap slots e ∙ (ap (λ v. length v.items) c.of.ensures ∙ (size g at ∙ ap (λ (q : TableKey Holding). all_slots q.moves) (sym e))));
      counted = subst (λ (q : TableKey Holding). ArePairCounts q.moves (λ pair. pair.0) q.moves.pairs parts.sources.items) (sym e) parts.counted;
      placed = subst (λ (q : TableKey Holding). ArePlaces q.moves parts.places) (sym e) parts.placed;
      regions = subst (λ (q : TableKey Holding). AreRegions q.moves q.values.value.items) (sym e) (subst (λ vs. AreRegions m vs) there (are g at));
      moved = subst (λ (q : TableKey Holding). AreMoved q.moves q.moved.items) (sym e) (subst (λ (xs : List Holding). AreMoved m xs) (sym c.foresee.ensures) c.requires.moved.0);
      small = subst (λ (q : TableKey Holding). all_slots q.moves < 18446744073709551616) (sym e) (small g at);
      out = (c.share_all.ensures.empty, same.0 ∙ (c.requires.all.1 ∙ ap (λ (q : TableKey Holding). region_count q.moves) (sym e)));
      laid = (
        subst (λ (q : TableKey Holding). LieIn q.moves (spot row) q.values.value.items) (sym e) (subst (λ vs. LieIn m (spot row) vs) there (lie g at)),
        subst (λ (q : TableKey Holding). AreLaid q.moves (spot row) q.moved.items) (sym e)
            (subst (λ (xs : List Holding). AreLaid m (spot row) xs) (sym c.foresee.ensures) (λ r lt. c.requires.moved.1 r lt ∙ ap (λ (s : InRow). Rattle.std.specs.Prelude.Some s) (sym (same.1 r)))),
      );
    }

pub returns-in-Ok-clause-moved : goal.returns-in-Ok-clause-moved
returns-in-Ok-clause-moved g c =
    λ r. ap (λ (q : TableKey Holding). words_of (moved_of q r)) c.in-Ok.ensures.ok.5
    ∙ ap (λ (xs : List Holding). words_of (slice_get xs r)) c.foresee.ensures

pub unite_all-requires-clause-complete : goal.unite_all-requires-clause-complete
unite_all-requires-clause-complete g c =
    let parts = c.args.parts in
    let at = (goal.at.unite_all-requires-clause-complete g c).After-share_all in (
      parts.moves,
      parts.placed,
      subst (λ (vs : List (Option Holding)). AreReady parts.moves vs (λ k. is_some (slice_index_or vs k None))) (sym c.in-Err.ensures.err) (all_ready parts.moves parts.lawful (small g at) (values g at) (are g at)),
      subst (λ (vs : List (Option Holding)). LieIn parts.moves (spot c.share_all.new.row) vs) (sym c.in-Err.ensures.err) (lie g at),
    )

pub returns-in-Err-clause-back : goal.returns-in-Err-clause-back
returns-in-Err-clause-back g c =
    let parts = c.args.parts in
    let m = parts.moves in
    let at = (goal.at.returns-in-Err-clause-back g c).After-share_all in
    let ready : AreReady m c.in-Err.field-0.slots.items (λ k. is_some (slice_index_or c.in-Err.field-0.slots.items k None)) =
    subst (λ (vs : List (Option Holding)). AreReady m vs (λ k. is_some (slice_index_or vs k None))) (sym c.in-Err.ensures.err) (all_ready m parts.lawful (small g at) (values g at) (are g at)) in
    let back = c.unite_all.ensures.united m parts.placed ready in
    (back.0, λ r inside. back.1 r inside ∙ (ap (λ (vs : List (Option Holding)). words_of (in_region m vs r)) c.in-Err.ensures.err ∙ ((shared g at).regions r (omega arith) inside).1))
