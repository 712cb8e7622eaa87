use Rattle.std.proofs.Common.{◌≡◌, ◌+◌, ◌<◌, ◌∷◌, [], ℕ, length, Some, sym, ap, ◌∙◌, arith}
use Rattle.std.proofs.lemmas.List.{length-append}
use Rattle.std.specs.Box.{box_allocator}
use Rattle.box_row.specs.declared.place.InRow.{InRow}
use Rattle.box_row.specs.Rows as rows
use Rattle.scheduler.specs.MoveTable.{MoveTable, region_count}
use Rattle.claim_board.specs.Holdings.{lies_in}
use Rattle.claim_board.proofs.Lemmas.Emptying.{all_emptied, one_emptied}
use Rattle.claim_board.proofs.Lemmas.Uniting.{one_united, same_some}
use Rattle.claim_board.proofs.regions.uniting.unite_all.Goals as goal
use Rattle.claim_board.proofs.regions.uniting.unite_all.Goals.{In-loop-region}

-- the region that is united next
below : (g : _) (c : In-loop-region g) → c.loop-region.region < region_count c.requires.complete.0
below g c = let t = c.loop-region-test.true in let e = c.len-region-end.ensures in let o = c.args.places.now.readers.ok in let b = c.requires.complete.1.readers_all in omega arith

pub unite_region-requires-clause-small : goal.unite_region-requires-clause-small
unite_region-requires-clause-small g c =
    let all = c.requires.complete in
    let lt = below g (goal.at.unite_region-requires-clause-small g c).In-loop-region in
    let a = all.1.pairs in
    let b = all.2.0.small in
    omega arith

pub unite_region-requires-clause-complete : goal.unite_region-requires-clause-complete
unite_region-requires-clause-complete g c =
    let all = c.requires.complete in
    let are = c.loop-region.invariant.2 all.0 all.1 all.2 in
    let lt = below g (goal.at.unite_region-requires-clause-complete g c).In-loop-region in
    (all.0, all.1, (λ k inside own. are.1.others k (omega arith) ∙ all.2.1 k inside), (are.0.left c.loop-region.region (omega arith) lt).0)

pub push-requires-clause-place : goal.push-requires-clause-place
push-requires-clause-place g c =
    let all = c.requires.complete in
    let m : MoveTable = all.0 in
    let i = c.loop-region.invariant in
    let r = c.loop-region.region in
    let lt = below g (goal.at.push-requires-clause-place g c).In-loop-region in
    let are = i.2 m all.1 all.2 in
    let lies : Some (box_allocator c.unite_region.result) ≡ Some (rows.spot c.args.row r) = sym (c.unite_region.ensures.place m all.1) ∙ (ap lies_in (are.0.left r (omega arith) lt).1 ∙ all.3 r lt) in
    same_some (box_allocator c.unite_region.result) (rows.spot c.args.row r) lies ∙ (sym (i.1.1 r) ∙ ap (rows.spot c.loop-region.row) (sym i.0))

pub loop-region-preserved : goal.loop-region-preserved
loop-region-preserved g c =
    let i = c.loop-region.invariant in
    let p = c.push.ensures in
    let items = g.S.SlotValues.items in
    let is_left = g.S.SlotValues.is_left in (
      (let a = i.0 in let b = ap length p.value ∙ length-append (rows.items c.loop-region.row) (c.unite_region.result.value ∷ []) in omega arith),
      (p.same.0 ∙ i.1.0, λ r. p.same.1 r ∙ i.1.1 r),
      λ m places ready. (let are = i.2 m places ready in
          let lt : c.loop-region.region < region_count m = (let t = c.loop-region-test.true in let e = c.len-region-end.ensures in let o = c.args.places.now.readers.ok in let b = places.readers_all in omega arith) in (
            one_united m c.loop-region.region (items c.args.values.now) (items c.loop-region.values) (items c.unite_region.new.values) (rows.items c.loop-region.row) (rows.items c.push.new.self) c.unite_region.result.value are.0 lt
                (c.unite_region.ensures.others m places) (c.unite_region.ensures.united m places) p.value,
            one_emptied m c.loop-region.region (is_left c.args.values.now) (is_left c.loop-region.values) (is_left c.unite_region.new.values) are.1 (c.unite_region.ensures.emptied m places),
          )),
    )

pub returns-clause-emptied : goal.returns-clause-emptied
returns-clause-emptied g c = λ m places ready.
    let last : c.loop-region.region ≡ region_count m = (let t = c.loop-region-test.false in let e = c.len-region-end.ensures in let o = c.args.places.now.readers.ok in let b = places.readers_all in let f = c.loop-region.auto.region-end in omega arith) in
    all_emptied m ready.0.table c.loop-region.region (g.S.SlotValues.is_left c.args.values.now) (g.S.SlotValues.is_left c.loop-region.values) last (c.loop-region.invariant.2 m places ready).1
