use Rattle.std.proofs.Common.{sym, ◌∙◌}
use Rattle.verification.proofs.difference.first_unlike.Goals as goal

pub returns-then-word : goal.returns-then-word
returns-then-word c = record {
  inside = c.loop-j-test.true;
  differs = λ same. c.if-word.true (c.word.ensures ∙ same ∙ sym c.word-in-loop-j.ensures);
  least = c.loop-j.invariant;
}
