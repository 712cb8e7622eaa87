use Rattle.std.proofs.Common.{◌≡◌, ℕ, ◌+◌, ◌-◌, ◌<◌, ◌≤◌, cond, length, get_or}
use Rattle.coded_redirection.specs.References.{redirected_reference}
use Rattle.coded_redirection.proofs.Lemmas.Done.{is_done}
use Rattle.coded_redirection.proofs.redirect.redirect_objects.Given as goal

-- the references of the objects so far are redirected, and the other words are as they were
abbrev pub invariant-loop-a : goal.invariant-loop-a
invariant-loop-a l = record {
  long : length l.words ≡ length l.initial.words;
  words : (i : ℕ) → i < length l.initial.words
      → get_or l.words i 0 ≡ cond (is_done l.survey l.coding l.first l.initial.words l.from (l.first + i)) (redirected_reference l.survey l.coding l.dead (get_or l.initial.words i 0)) (get_or l.initial.words i 0);
  low : l.first ≤ l.from;
}

abbrev pub decreases-loop-a : goal.decreases-loop-a
decreases-loop-a l = l.first + length l.initial.words - l.from
