use Rattle.history.proofs.machine.ledger.Ledger.allows_words.Goals as goal

pub returns-in-Drain : goal.returns-in-Drain
returns-in-Drain c w tells =
    let out = c.is_copied_out.ensures w tells in
    rw c.in-Drain.is out
