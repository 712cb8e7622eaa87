use Rattle.std.proofs.Common.{List, Option, sym, ap, ◌∙◌, subst, arith}
use Rattle.std.specs.Mem.Slots.{slots_items, slots_filled, slots_counts}
use Rattle.box_row.specs.Rows.{spot}
use Rattle.claim_board.specs.declared.regions.holding.Holding.{Holding}
use Rattle.claim_board.specs.Holdings.{LieIn, words_of, in_region}
use Rattle.claim_board.proofs.Lemmas.Emptying.{full_ready, left_of_full, none_beyond}
use Rattle.claim_board.proofs.regions.finishing.unite_closed.Goals as goal

pub unite_all-regions-requires-clause-complete : goal.unite_all-regions-requires-clause-complete
unite_all-regions-requires-clause-complete c =
    let all = c.requires.complete in
    let s = c.args.closed.slots in (
      all.0,
      all.1,
      full_ready all.0 (slots_items s) (slots_filled s) _ (slots_counts s).0 (slots_counts s).1 c.requires.full all.2,
      subst (λ (xs : List (Option Holding)). LieIn all.0 (spot c.args.row) xs) (sym (left_of_full all.0 (slots_items s) (slots_filled s) _ (slots_counts s).0 (slots_counts s).1 c.requires.full)) all.3,
    )

pub free-requires : goal.free-requires
free-requires c = λ k inside.
    let all = c.requires.complete in
    let s = c.args.closed.slots in
    c.unite_all-regions.ensures.emptied all.0 all.1 (full_ready all.0 (slots_items s) (slots_filled s) _ (slots_counts s).0 (slots_counts s).1 c.requires.full all.2) k
    (λ outside. none_beyond (slots_filled s) k (let a = all.2.size in let b = slots_counts s in omega (arith, b.0, b.1)))

pub returns : goal.returns
returns c = λ m places complete.
    let s = c.args.closed.slots in
    let back = c.unite_all-regions.ensures.united m places (full_ready m (slots_items s) (slots_filled s) _ (slots_counts s).0 (slots_counts s).1 c.requires.full complete) in (
      back.0,
      λ r lt. back.1 r lt ∙ ap (λ xs. words_of (in_region m xs r)) (left_of_full m (slots_items s) (slots_filled s) _ (slots_counts s).0 (slots_counts s).1 c.requires.full),
    )
