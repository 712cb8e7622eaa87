use Rattle.std.proofs.Common.{◌≡◌, ℕ, ◌+◌, ◌<◌, ◌≤◌, length, get_or}
use Rattle.command_support.specs.Heads.{byte_read}
use Rattle.command_support.proofs.files.head.reshape.Given as goal

abbrev pub invariant-loop-i : goal.invariant-loop-i
invariant-loop-i l = record {
  long : length l.piece ≡ length l.initial.piece;
  done : (k : ℕ) → k < l.i → get_or l.piece k 0 ≡ byte_read l.shape (l.at + k) (get_or l.initial.piece k 0);
  rest : (k : ℕ) → l.i ≤ k → get_or l.piece k 0 ≡ get_or l.initial.piece k 0;
}
