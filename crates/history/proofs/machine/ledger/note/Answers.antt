use Rattle.history.proofs.machine.ledger.note.Goals as goal

pub bounds-written-region : goal.bounds-written-region
bounds-written-region c = (c.requires c.in-Copy.region c.in-Copy.words c.in-Copy.is).0
