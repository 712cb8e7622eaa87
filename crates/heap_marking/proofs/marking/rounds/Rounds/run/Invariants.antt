use Rattle.std.proofs.Common.{◌≡◌, List, ℕ}
use Rattle.heap_marking.specs.Rounds.{IsLayout, IsState}
use Rattle.heap_marking.proofs.marking.rounds.Rounds.run.Given as goal

abbrev pub invariant-loop : goal.invariant-loop
invariant-loop g l = record {
  log : l.self.log ≡ l.initial.self.log;
  layout : IsLayout l.self.log l.heap l.self.parts.items l.self.sent.items;
  state : (roots : List ℕ) → IsState l.initial.self.log l.heap roots l.initial.self.parts.items l.initial.self.sent.items
      → IsState l.self.log l.heap roots l.self.parts.items l.self.sent.items;
}
