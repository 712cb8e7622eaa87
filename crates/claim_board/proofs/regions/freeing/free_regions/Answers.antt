use Rattle.std.proofs.Common.{◌≡◌, ◌<◌, ◌≤◌, ℕ, Bool, true, false, List, Option, length, sym, ap, ◌∙◌, subst, arith}
use Rattle.std.specs.Prelude.{slice_index_or}
use Rattle.std.specs.Mem.Slots.{slots_items, slots_filled, slots_counts}
use Rattle.scheduler.specs.MoveTable.{MoveTable, region_count}
use Rattle.claim_board.specs.declared.regions.holding.Holding.{Holding}
use Rattle.claim_board.specs.Homes.{AreThere, AreFreed, IsHome}
use Rattle.claim_board.specs.Unions.{left_in}
use Rattle.claim_board.proofs.Lemmas.Emptying.{all_emptied, left_of_full, none_beyond}
use Rattle.claim_board.proofs.Lemmas.Homes.{none_freed, one_freed}
use Rattle.claim_board.proofs.regions.freeing.free_regions.Goals as goal

pub loop-region-init : goal.loop-region-init
loop-region-init c =
    let s = c.args.closed.slots in
    let flags : ℕ → Bool = λ k. slice_index_or (slots_filled s) k false in (
      Rattle.std.proofs.Common.refl,
      Rattle.std.proofs.Common.refl,
      λ m places all. subst (λ (now : List (Option Holding)). AreFreed m 0 (slots_items s) now flags flags) (sym (left_of_full m (slots_items s) (slots_filled s) _ (slots_counts s).0 (slots_counts s).1 c.requires.full.1)) (none_freed m (slots_items s) flags),
    )

pub is_home-complete-requires-clause-there : goal.is_home-complete-requires-clause-there
is_home-complete-requires-clause-there c =
    let i = c.loop-region.invariant in
    let w = c.args.closed.words in
    subst (λ (ws : List ℕ). AreThere ws (slots_filled c.loop-region.closed.words)) (sym i.0)
    (subst (λ (bs : List Bool). AreThere (slots_items w) bs) (sym i.1) (λ k lt. c.requires.full.0 k (omega arith) (let z = (slots_counts w).0 in omega arith)))

pub is_home-complete-requires-clause-lawful : goal.is_home-complete-requires-clause-lawful
is_home-complete-requires-clause-lawful c =
    let all = c.requires.home in
    (all.0, all.2.table, all.1, ap length c.loop-region.invariant.0 ∙ all.2.long)

pub free_region-requires-clause-left : goal.free_region-requires-clause-left
free_region-requires-clause-left c =
    let i = c.loop-region.invariant in
    let all = c.requires.home in
    let m : MoveTable = all.0 in
    let s = c.args.closed.slots in
    let are = i.2 m all.1 all.2 in
    let r = c.loop-region.region in
    let lt : r < region_count m = (let t = c.loop-region-test.true in let e = c.len-region-end.ensures in let o = c.args.places.now.readers.ok in let b = all.1.readers_all in omega arith) in (
      m,
      all.1,
      (λ k inside own. are.emptied.others k (omega arith) ∙ c.requires.full.1 k (omega arith) (let z = all.2.size in let y = (slots_counts s).0 in omega arith)),
      (λ is. are.complete r (omega arith) (all.2.complete r lt (subst (λ (ws : List ℕ). IsHome m ws r) i.0 (c.is_home-complete.ensures is m all.2.table all.1)))),
    )

pub loop-region-preserved : goal.loop-region-preserved
loop-region-preserved c =
    let i = c.loop-region.invariant in
    let e = c.free_region.ensures in
    let s = c.args.closed.slots in
    let now = c.loop-region.closed.slots in
    let new = c.free_region.new.values.slots in (
      ap (λ (p : List ℕ × List Bool). p.0) e.words ∙ i.0,
      ap (λ (p : List ℕ × List Bool). p.1) e.words ∙ i.1,
      λ m places all. one_freed m c.loop-region.region (slots_items s) (left_in (slots_items now) (slots_filled now)) (left_in (slots_items new) (slots_filled new)) (λ k. slice_index_or (slots_filled s) k false) (λ k. slice_index_or (slots_filled now) k false) (λ k. slice_index_or (slots_filled new) k false)
          (i.2 m places all) (e.others m places) (e.emptied m places),
    )

pub free-requires : goal.free-requires
free-requires c = λ k inside.
    let i = c.loop-region.invariant in
    let all = c.requires.home in
    let m : MoveTable = all.0 in
    let s = c.args.closed.slots in
    let last : c.loop-region.region ≡ region_count m = (let t = c.loop-region-test.false in let e = c.len-region-end.ensures in let o = c.args.places.now.readers.ok in let b = all.1.readers_all in let f = c.loop-region.auto.region-end in omega arith) in
    all_emptied m all.2.table c.loop-region.region (λ j. slice_index_or (slots_filled s) j false) (λ j. slice_index_or (slots_filled c.loop-region.closed.slots) j false) last (i.2 m all.1 all.2).emptied k
    (λ outside. none_beyond (slots_filled s) k (let a = all.2.size in let b = slots_counts s in omega (arith, b.0, b.1)))
