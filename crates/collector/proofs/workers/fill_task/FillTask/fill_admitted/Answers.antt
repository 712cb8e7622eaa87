use Rattle.std.proofs.Common.{ℕ, ap, sym, subst, ◌∙◌}
use Rattle.std.specs.Box.{box_allocator}
use Rattle.summary.specs.RegionData.{fill_count}
use Rattle.scheduler.specs.declared.event.Event.TheVariants.{Settle}
use Rattle.std.specs.Prelude.{if◌then◌else◌}
use Rattle.scheduler.specs.declared.reply.Reply.{Reply}
use Rattle.scheduler.specs.declared.reply.Reply.TheVariants.{Done, All, More}
use Rattle.claim_board.specs.Boards.{caller}
use Rattle.claim_board.specs.Callers.{Gains}
use Rattle.claim_board.specs.RegionBoards.{moves, worker_count, original_words, spot}
use Rattle.collector.specs.Rest.{Settles}
use Rattle.collector.proofs.Lemmas.Rest.{settles_filled, rest_settled, gained_by}
use Rattle.collector.proofs.workers.fill_task.FillTask.fill_admitted.Goals as goal

pub fill_region-done-requires-clause-words : goal.fill_region-done-requires-clause-words
fill_region-done-requires-clause-words g c =
    let b = g.D.HasBoard.keeps c.args.self.now.shared.now.desk in
    ap (λ x. x.value) c.take.ensures.1 ∙ (c.requires.claimed.words ∙ sym (ap (λ t. original_words b t.ticket.region) c.take.ensures.0))

pub fill_region-done-requires-clause-place : goal.fill_region-done-requires-clause-place
fill_region-done-requires-clause-place g c =
    let b = g.D.HasBoard.keeps c.args.self.now.shared.now.desk in
    ap box_allocator c.take.ensures.1 ∙ (c.requires.claimed.place ∙ sym (ap (λ t. spot b t.ticket.region) c.take.ensures.0))

pub returns-clause-settles : goal.returns-clause-settles
returns-clause-settles g c =
    let b = g.D.HasBoard.keeps c.args.self.now.shared.now.desk in
    let old = caller c.args.seat.now.pass in
    let mid = caller c.fill_region-done.new.seat.pass in
    let new = caller c.settle.new.seat.pass in
    let r : ℕ = c.take.result.0.ticket.region in
    let filled = c.fill_region-done.ensures.filled in
    let reply : Reply = if c.settle.result then All else More in
    let settled : Gains mid new (Settle c.fill_region-done.result.region) reply = gained_by (moves b) (worker_count b) c.fill_region-done.new.seat.pass c.settle.new.seat.pass _ _ c.settle.ensures.entry in
    subst (λ t. Settles t.ticket.region old new) c.take.ensures.0
    (settles_filled old mid new r filled.drains Done reply filled.gains (subst (λ (q : ℕ). Gains mid new (Settle q) reply) c.fill_region-done.ensures.done.0 settled))

pub returns-clause-rest : goal.returns-clause-rest
returns-clause-rest g c =
    let b = g.D.HasBoard.keeps c.args.self.now.shared.now.desk in
    rest_settled b (fill_count c.args.self.now.shared.now.survey) c.args.claimed c.args.seat.now.pass c.settle.new.seat.pass c.requires.claimed (returns-clause-settles g c)
    (c.settle.ensures.holds ∙ c.fill_region-done.ensures.bare)
