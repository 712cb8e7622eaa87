use Rattle.caller_heap.specs.declared.part.Origin.TheVariants.{Lent}
use Rattle.pcompact_c.proofs.begin.deal_lent.Goals as goal

pub returns-in-Ok-clause-parts : goal.returns-in-Ok-clause-parts
returns-in-Ok-clause-parts c _ = c.hand_out.ensures.parts c.args.image (Lent c.args.place) c.in-Ok.ensures.parts
