use Rattle.std.proofs.Common.{◌≡◌, ℕ, ◌+◌, Bool, cond, List, [], sym, ap, ◌∙◌, string_bytes}
use Rattle.std.specs.Prelude.{◌++◌, codes}
use Rattle.std.proofs.lemmas.List.{append-nil}
use Rattle.claim_board.specs.Boards.{moves, mine}
use Rattle.scheduler.specs.MoveTable.{region_count}
use Rattle.board_sweep.specs.declared.tally.Tally.{Tally}
use Rattle.board_sweep.specs.Tallies.{claims_in, completions_in}
use Rattle.board_sweep.specs.Report.{lines_of, report_of}
use Rattle.board_sweep.proofs.Lemmas.Totals.{lines-of_both}
use Rattle.board_sweep.proofs.two_workers.text_of.Goals as goal
use Rattle.board_sweep.proofs.two_workers.text_of.Goals.{then-branch+in_ok-push_str, else-branch}

pub returns : goal.returns
returns c =
    let o = c.in_ok-is_settled.ensures in
    let m = moves c.args.board in
    let first = c.args.first.tallies.items in
    let second = c.args.second.tallies.items in
    let both = lines-of_both m o.history (mine c.args.first.pass) (mine c.args.second.pass) first second o.legal o.first_calls o.second_calls c.requires.first.tallies c.requires.second.tallies in
    let lines : (n : ℕ) → List Tally → List Tally → List ℕ = λ n one other. lines_of n (λ r. claims_in one r + claims_in other r) (λ r. completions_in one r + completions_in other r) in
    let text : string_bytes c.in_ok-text.text ≡ lines (region_count m) first second =
    c.in_ok-text.ensures ∙ (λ j. lines (c.requires.regions j) (c.as_slice.ensures.value j) (c.as_slice-2.ensures.value j)) in
    let last : Bool → List ℕ = λ (b : Bool). cond b (codes "all settled\n") [] in
    let whole : (text' : List ℕ) → text' ≡ string_bytes c.in_ok-text.text ++ last c.in_ok-is_settled.field-0 → text' ≡ report_of m o.history =
    λ text' is. is ∙ (λ j. (text ∙ both) j ++ last (o.outcome j)) in (
      o.history,
      o.legal,
      whole (string_bytes c.if-branch.text) (elim c.if-branch.branch [
        | then-branch+in_ok-push_str w ↦ ap string_bytes w.text-is ∙ (w.in_ok-push_str.ensures.bytes ∙ ap (λ (b : Bool). string_bytes c.in_ok-text.text ++ last b) (sym w.if-branch.true))
        | else-branch w ↦ ap string_bytes w.text-is ∙ (sym (append-nil (string_bytes c.in_ok-text.text)) ∙ ap (λ (b : Bool). string_bytes c.in_ok-text.text ++ last b) (sym w.if-branch.false))
      ]),
    )
