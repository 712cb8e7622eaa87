use Rattle.std.proofs.Common.{Bool, subst}
use Rattle.std.specs.Prelude.{if◌then◌else◌}
use Rattle.scheduler.specs.declared.event.Event.TheVariants.{Poll}
use Rattle.scheduler.specs.declared.reply.Reply.TheVariants.{All, More}
use Rattle.claim_board.specs.Boards.{AppendsTo}
use Rattle.claim_board.specs.RegionBoards.{moves, worker_count}
use Rattle.collector.proofs.Lemmas.Rest.{rest_polled}
use Rattle.collector.proofs.Lemmas.Behind.{polled_settled}
use Rattle.collector.proofs.workers.fill_left.are_settled.Goals as goal

pub returns-then-asks-clause-rest : goal.returns-then-asks-clause-rest
returns-then-asks-clause-rest c =
    let board = c.args.board.now in
    rest_polled (moves board) (worker_count board) c.args.pass.now c.poll.new.pass (if c.poll.result then All else More) c.poll.ensures.entry c.poll.ensures.holds c.requires.rest

pub returns-then-asks-clause-settled : goal.returns-then-asks-clause-settled
returns-then-asks-clause-settled c is =
    let board = c.args.board.now in
    polled_settled board c.args.pass.now c.poll.new.pass (subst (λ (b : Bool). AppendsTo (moves board) (worker_count board) c.args.pass.now c.poll.new.pass Poll (if b then All else More)) is c.poll.ensures.entry)
