use Rattle.history.proofs.Lemmas.Replying.{replied_of, replies_schedule}
use Rattle.history.proofs.machine.replying.reply.Goals as goal

pub of_lines-lines-requires : goal.of_lines-lines-requires
of_lines-lines-requires c =
    rw c.workers.ensures.value (replies_schedule c.machine_laws.ensures c.args.plan.now c.args.schedule.now c.in_ok-lines.lines.items c.in_ok-lines.is_settled c.planned_image_is_valid.ensures c.workers.ensures.formed c.in_ok-lines.ensures.ok)

pub returns-clause-ok : goal.returns-clause-ok
returns-clause-ok c =
    replied_of c.args.plan.now c.args.schedule.now c.in_ok-lines.lines.items (record { lines = c.of_lines-lines.result; is_settled = c.in_ok-lines.is_settled }) c.in_ok-lines.ensures.ok (rw c.workers.ensures.value at c.of_lines-lines.ensures)
