use Rattle.std.proofs.Common.{◌≡◌, ◌-◌, ◌^◌, ◌<◌, ◌≤◌, ◌++◌, ℕ, List, decimal}
use Rattle.heap_text.specs.Tokens.{IsAfterToken}
use Rattle.heap_text.proofs.Lemmas.TokenSteps.{IsReading}
use Rattle.heap_text.proofs.line_parser.tokens.leading_number.Given as goal

abbrev pub invariant-loop-count : goal.invariant-loop-count
invariant-loop-count l = record {
  within : l.count ≤ l.most;
  small : l.number < 10 ^ l.count;
  reads : (n : ℕ) (rest : List ℕ) → n < 2 ^ 64 → IsAfterToken rest → l.bytes ≡ decimal n ++ rest → IsReading n l.count l.number;
}

abbrev pub decreases-loop-count : goal.decreases-loop-count
decreases-loop-count l = l.most - l.count
