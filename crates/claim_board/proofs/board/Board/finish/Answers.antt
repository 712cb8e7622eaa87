use Rattle.std.proofs.Common.{◌≡◌, vec_len, true≢false, refl, sym, ap, ◌∙◌, arith}
use Rattle.claim_board.proofs.Lemmas.Gathers.{all_bare}
use Rattle.claim_board.proofs.board.Board.finish.Goals as goal
use Rattle.claim_board.proofs.board.Board.finish.Goals.{else-count-self-via-then-count-self+else-unsettled-eq0, else-count-self-via-else-count-self}

pub gather-requires-clause-bare : goal.gather-requires-clause-bare
gather-requires-clause-bare c = all_bare c.args.self.table.shared.table_id c.args.passes.items c.requires c.args.self.slotless.0

pub returns-then-unsettled-eq0 : goal.returns-then-unsettled-eq0
returns-then-unsettled-eq0 c =
    let y = c.survey-unsettled.ensures.surveys in
    let note = c.survey-unsettled.new.seat.me.0.note in
    let n = c.args.self.table.shared.key.workers in
    let full : vec_len c.args.passes ≡ n = (let a = c.if-count-self.true in let b = c.args.self.manned in let d = c.len-count.ensures in omega arith) in (
      note,
      y.0,
      c.in_ok-place.ensures.covers note y.1,
      ((λ e. (full, sym y.2 ∙ c.if-unsettled-eq0.true)), (λ e. refl)),
      ap (λ v. v.me.0.note) c.of.ensures,
    )

pub returns : goal.returns
returns c =
    let y = c.survey-unsettled.ensures.surveys in
    let note = c.survey-unsettled.new.seat.me.0.note in (
      note,
      y.0,
      c.in_ok-place.ensures.covers note y.1,
      (
        (λ e. absurd (true≢false (sym e))),
        (λ h. elim c.else-count-self.branch [
          | else-count-self-via-then-count-self+else-unsettled-eq0 w ↦ absurd (w.if-unsettled-eq0.false (y.2 ∙ h.1))
          | else-count-self-via-else-count-self w ↦ absurd (w.if-count-self.false (c.len-count.ensures ∙ (h.0 ∙ sym c.args.self.manned.1)))
        ]),
      ),
      tt,
    )
