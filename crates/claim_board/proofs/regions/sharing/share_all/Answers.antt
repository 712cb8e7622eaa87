use Rattle.std.proofs.Common.{◌≡◌, ◌+◌, ◌<◌, ◌∷◌, ℕ, List, [], length, sym, ap, ◌∙◌, subst, arith}
use Rattle.std.specs.Prelude.{slice_index_or}
use Rattle.std.proofs.lemmas.List.{length-append}
use Rattle.std.specs.Box.{box_allocator}
use Rattle.box_row.specs.declared.place.InRow.{InRow}
use Rattle.box_row.specs.Rows.{items, spot}
use Rattle.scheduler.specs.MoveTable.{region_count}
use Rattle.claim_board.specs.Sharings.{SharesOut, AreSharedFrom}
use Rattle.claim_board.specs.Slots.{all_slots}
use Rattle.claim_board.proofs.Lemmas.Lists.{shorter, last_is}
use Rattle.claim_board.proofs.Lemmas.Sharing.{one_shared}
use Rattle.claim_board.proofs.regions.sharing.share_all.Goals as goal

pub loop-whole-preserved : goal.loop-whole-preserved
loop-whole-preserved c =
    let i = c.loop-whole.invariant in
    let all = items c.args.row.now in
    let front = items c.loop-whole.row in
    let rest = (items c.pop.new.self) in
    let one = c.in-Some.whole in
    let is = c.in-Some.ensures.value in
    let long : length front ≡ length rest + 1 = ap length is ∙ length-append rest (one.value ∷ []) in
    let whole_long : length all ≡ length front + length i.0.0 = ap length i.0.1 ∙ length-append front i.0.0 in
    let at : c.len.result ≡ length rest = c.len.ensures in
    let same = c.pop.ensures.same in (
      shorter all front rest one.value i.0 is,
      (same.0 ∙ i.1.0, λ r. same.1 r ∙ i.1.1 r),
      c.share_region.ensures.size ∙ i.2,
      λ m table places size. (let words : ℕ → List ℕ = λ r. slice_index_or all r [] in
          let spots : ℕ → InRow = spot c.args.row.now in
          let lt : c.len.result < region_count m = (let a = c.requires.all in let b = places.readers_all in omega arith) in
          let size' : length c.loop-whole.values.items ≡ all_slots m = sym c.share_region.ensures.size ∙ size in
          let shares : SharesOut m (length rest) one.value (box_allocator one) c.loop-whole.values.items c.share_region.new.values.items =
          subst (λ (q : ℕ). SharesOut m q one.value (box_allocator one) c.loop-whole.values.items c.share_region.new.values.items) at (c.share_region.ensures.shared m places lt size') in
          let are : AreSharedFrom m (length rest + 1) words spots c.loop-whole.values.items = subst (λ (q : ℕ). AreSharedFrom m q words spots c.loop-whole.values.items) long (i.3 m table places size') in
          let there : box_allocator one ≡ spots (length rest) = c.in-Some.ensures.place ∙ i.1.1 (length rest) in
          one_shared m (length rest) words spots one.value (box_allocator one) c.loop-whole.values.items c.share_region.new.values.items (sym (last_is [] all front rest one.value i.0 is)) there are shares),
    )
