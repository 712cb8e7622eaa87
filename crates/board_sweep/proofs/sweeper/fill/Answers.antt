use Rattle.std.proofs.Common.{◌≡◌, ℕ, ◌<◌, ◌≤◌, ◌++◌, false, [], ◌∷◌, if◌then◌else◌, sym, ◌∙◌, subst}
use Rattle.scheduler.specs.declared.event.Event.{Event}
use Rattle.scheduler.specs.declared.event.Event.TheVariants.{Drain, Complete}
use Rattle.scheduler.specs.declared.reply.Reply.TheVariants.{Done, All, More}
use Rattle.scheduler.specs.History.{entry}
use Rattle.scheduler.specs.MoveTable.{MoveTable, IsMoveTable, reads}
use Rattle.claim_board.specs.Boards.{moves, mine, worker, caller}
use Rattle.claim_board.specs.Callers.{Gains}
use Rattle.claim_board.specs.Drains.{reply_of}
use Rattle.board_sweep.specs.Tallies.{Adds, none}
use Rattle.board_sweep.proofs.Lemmas.Tallying.{tally, adds-drain, adds-completion, adds-settling, adds-both}
use Rattle.board_sweep.proofs.sweeper.fill.Goals as goal

pub loop-opening-preserved : goal.loop-opening-preserved
loop-opening-preserved g c =
    let i = c.loop-opening.invariant in
    let o = c.in-Some.ensures in
    let e = c.drain.ensures in
    let t = c.loop-opening.ticket in
    let s = c.in-Some.opening.source in
    let region = c.args.ticket.region in
    let reply = reply_of c.drain.result in
    let same : Drain c.close.result.destination c.close.result.source ≡ Drain t.region s = λ j. Drain ((c.close.ensures.pair.0 ∙ o.reads.0) j) (c.close.ensures.pair.1 j) in
    let gains : Gains (caller c.loop-opening.pass) (caller c.drain.new.pass) (Drain t.region s) reply =
    subst (λ (event : Event). Gains (caller c.loop-opening.pass) (caller c.drain.new.pass) event reply) same (c.appended_calls_are_gained.ensures c.args.board.now c.loop-opening.pass c.drain.new.pass (Drain c.close.result.destination c.close.result.source) reply e.entry) in
    let skipped = subst (λ (m : MoveTable). (q : ℕ) → t.next ≤ q → q < s → reads m t.region q ≡ false) c.requires.moves o.least in
    let here : c.drain.new.ticket.region ≡ t.region = e.same.0 ∙ o.same.0 in
    let adds : Adds region none (mine c.args.pass.now) (mine c.drain.new.pass) =
    adds-both region none none (mine c.args.pass.now) (mine c.loop-opening.pass) (mine c.drain.new.pass)
    (subst (λ (r : ℕ). Adds r none (mine c.args.pass.now) (mine c.loop-opening.pass)) i.3 i.6)
    (adds-drain region (worker c.loop-opening.pass) c.close.result.destination c.close.result.source reply (mine c.loop-opening.pass) (mine c.drain.new.pass) e.entry.history.mine_is) in (
      e.entry.board ∙ i.0,
      e.entry.worker ∙ i.1,
      e.ticket,
      here ∙ i.3,
      e.same.2 ∙ (o.same.2 ∙ i.4),
      c.one_more_source_is_drained.ensures (moves c.args.board.now) (caller c.loop-opening.pass) (caller c.drain.new.pass) t c.drain.new.ticket s reply i.5 here (e.same.1 ∙ o.next) skipped gains,
      subst (λ (r : ℕ). Adds r none (mine c.args.pass.now) (mine c.drain.new.pass)) (sym (here ∙ i.3)) adds,
    )

pub complete-done-requires-clause-none_left : goal.complete-done-requires-clause-none_left
complete-done-requires-clause-none_left g c =
    let i = c.loop-opening.invariant in
    let t = c.loop-opening.ticket in
    let lawful = subst IsMoveTable c.requires.moves c.moves_are_lawful.ensures in
    let last = subst (λ (m : MoveTable). (s : ℕ) → t.next ≤ s → reads m t.region s ≡ false) c.requires.moves c.in_default.ensures.last in
    c.right.ensures.same.2 ∙ (c.in_default.ensures.same.1 ∙ c.swept_tickets_have_none_left.ensures (moves c.args.board.now) (caller c.loop-opening.pass) t lawful i.2 i.5 last)

pub returns-clause-tally : goal.returns-clause-tally
returns-clause-tally g c =
    let i = c.loop-opening.invariant in
    let region = c.args.ticket.region in
    let old = mine c.args.pass.now in
    let before = mine c.loop-opening.pass in
    let after = mine c.complete-done.new.pass in
    let here : c.right.new.self.region ≡ region = c.right.ensures.same.0 ∙ (c.in_default.ensures.same.0 ∙ i.3) in
    let is = subst (λ (r : ℕ). after ≡ before ++ entry (worker c.loop-opening.pass) (Complete r) Done ∷ []) here c.complete-done.ensures.entry.history.mine_is in
    let sweeps = subst (λ (r : ℕ). Adds r none old before) i.3 i.6 in
    adds-both region (tally 0 1) none old after (mine c.settle.new.pass)
    (adds-both region none (tally 0 1) old before after sweeps (adds-completion region (worker c.loop-opening.pass) Done before after is))
    (adds-settling region (worker c.complete-done.new.pass) c.complete-done.result.region (if c.settle.result then All else More) after (mine c.settle.new.pass) c.settle.ensures.entry.history.mine_is)
