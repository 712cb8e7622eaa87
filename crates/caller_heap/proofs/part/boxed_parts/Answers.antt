use Rattle.caller_heap.proofs.part.boxed_parts.Goals as goal

pub returns-clause-parts : goal.returns-clause-parts
returns-clause-parts c = c.with_shares.ensures.parts c.args.image c.args.origin c.in_ok-shares.ensures.image c.in-Ok-Ok.ensures'.origin
