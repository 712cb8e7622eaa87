use Rattle.std.proofs.Common.{◌≡◌, ℕ, ◌+◌, List, length, set, sym, ap, ◌∙◌}
use Rattle.std.specs.Prelude.{slice_index}
use Rattle.std.proofs.lemmas.Bool.{eqb-true}
use Rattle.claim_board.specs.RegionBoards.{moved_words, original_words}
use Rattle.scheduling_tests.proofs.Lemmas.Nexts.{only_set}
use Rattle.scheduling_tests.proofs.region_boards.fill.Goals as goal

pub complete-done-requires-clause-moved : goal.complete-done-requires-clause-moved
complete-done-requires-clause-moved g c =
    let b = c.args.board.now in
    let ticket = rw c.expect-ticket.ensures at c.claim.ensures.ticket in
    let region : c.drain-last.new.ticket.ticket.region ≡ c.args.region = c.drain-last.ensures.same.0 ∙ (c.open.ensures.same.0 ∙ (c.right.ensures.same.0 ∙ ticket.0)) in
    let read = rw c.expect-opening.ensures at c.open.ensures.words in
    let source = sym c.source.ensures ∙ eqb-true c.source.result (c.args.region + 1) c.holds.ensures in
    let old : List ℕ = c.deref_mut.result.now in
    let word : List ℕ = c.expect-opening.result.1.value in
    let one : length old ≡ 1 = ap length (c.deref_mut.ensures.value ∙ sym c.deref.ensures) ∙ (sym c.len.ensures.value ∙ eqb-true c.len.result 1 c.holds-2.ensures) in
    let other : length word ≡ 1 = ap length (sym c.get.ensures) ∙ (sym c.len-2.ensures.value ∙ eqb-true c.len-2.result 1 c.holds-3.ensures) in
    c.set.ensures.value ∙ (ap (set old 0) (c.get-3.ensures ∙ ap (λ ws. slice_index ws 0) c.get-2.ensures)
    ∙ (only_set old word one other ∙ (read ∙ (ap (original_words b) source ∙ (sym c.requires.moved ∙ ap (moved_words b) (sym region))))))
