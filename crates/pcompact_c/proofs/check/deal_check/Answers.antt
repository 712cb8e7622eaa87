use Rattle.caller_heap.specs.declared.part.Origin.TheVariants.{Checked}
use Rattle.pcompact_c.proofs.check.deal_check.Goals as goal

pub returns-in-Ok-clause-parts : goal.returns-in-Ok-clause-parts
returns-in-Ok-clause-parts c _ = c.hand_out.ensures.checks c.args.check (Checked c.args.place) c.in-Ok.ensures.parts
