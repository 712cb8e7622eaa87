use Rattle.std.proofs.Common.{◌≡◌, vec_len, true≢false, refl, sym, ap, ◌∙◌, arith}
use Rattle.claim_board.proofs.regions.region_board.RegionBoard.finish.Goals as goal
use Rattle.claim_board.proofs.regions.region_board.RegionBoard.finish.Goals.{else-count-self-via-then-count-self+else-unsettled-eq0, else-count-self-via-else-count-self}

pub returns-then-unsettled-eq0-clause-history : goal.returns-then-unsettled-eq0-clause-history
returns-then-unsettled-eq0-clause-history c =
    let y = c.survey-unsettled.ensures.surveys in
    let note = c.survey-unsettled.new.seat.me.0.note in
    let n = c.args.self.table.shared.key.workers in
    let full : vec_len c.args.passes ≡ n = (let a = c.if-count-self.true in let b = c.args.self.manned in let d = c.len-count.ensures in omega arith) in (
      note,
      y.0,
      c.in_ok-place.ensures.covers note y.1,
      ((λ e. (full, sym y.2 ∙ c.if-unsettled-eq0.true)), (λ e. refl)),
      ap (λ v. v.me.0.note) c.of.ensures,
    )

pub returns-else-count-self-clause-history : goal.returns-else-count-self-clause-history
returns-else-count-self-clause-history c =
    let y = c.survey-unsettled.ensures.surveys in
    let note = c.survey-unsettled.new.seat.me.0.note in (
      note,
      y.0,
      c.in_ok-place.ensures.covers note y.1,
      (
        (λ e. absurd (true≢false (sym e))),
        (λ h. elim c.else-count-self.branch [
          | else-count-self-via-then-count-self+else-unsettled-eq0 w ↦ absurd (w.if-unsettled-eq0.false (y.2 ∙ h.1))
          | else-count-self-via-else-count-self w ↦ absurd (w.if-count-self.false (c.len-count.ensures ∙ (h.0 ∙ sym c.args.self.manned.1)))
        ]),
      ),
      tt,
    )
