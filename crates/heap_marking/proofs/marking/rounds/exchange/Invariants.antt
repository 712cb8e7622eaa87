use Rattle.heap_marking.proofs.Lemmas.Exchanges.{AreExchangedTo}
use Rattle.heap_marking.proofs.marking.rounds.exchange.Given as goal

abbrev pub invariant-loop-k : goal.invariant-loop-k
invariant-loop-k l = record {
  exchanged : AreExchangedTo l.k l.initial.parts l.parts l.initial.sent l.sent;
}
