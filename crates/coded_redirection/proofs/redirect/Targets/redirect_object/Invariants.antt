use Rattle.std.proofs.Common.{◌≡◌, ℕ, ◌+◌, ◌-◌, ◌<◌, ◌≤◌, length, get_or}
use Rattle.coded_redirection.specs.References.{redirected_reference}
use Rattle.coded_redirection.proofs.redirect.Targets.redirect_object.Given as goal

-- the references so far are redirected, and the other words are as they were
abbrev pub invariant-loop-i : goal.invariant-loop-i
invariant-loop-i l = record {
  long : length l.words ≡ length l.initial.words;
  done : (k : ℕ) → l.a - l.first < k → k < l.i → get_or l.words k 0 ≡ redirected_reference l.self.places l.self.coding.now l.self.dead (get_or l.initial.words k 0);
  far : l.i ≤ l.end;
  front : (k : ℕ) → k ≤ l.a - l.first → get_or l.words k 0 ≡ get_or l.initial.words k 0;
  rest : (k : ℕ) → l.i ≤ k → get_or l.words k 0 ≡ get_or l.initial.words k 0;
}
