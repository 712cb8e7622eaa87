use Rattle.std.proofs.Common.{◌≡◌, vec_len}
use Rattle.claim_board.proofs.regions.making.empty_values.Given as goal

abbrev pub invariant-loop : goal.invariant-loop
invariant-loop l = vec_len l.values ≡ l.counter
