use Rattle.std.proofs.Common.{◌∙◌}
use Rattle.verification.proofs.difference.first_nonzero.Goals as goal

pub returns-then-word-ne0 : goal.returns-then-word-ne0
returns-then-word-ne0 c = record {
  inside = c.loop-j-test.true;
  differs = λ same. c.if-word-ne0.true (c.word.ensures ∙ same);
  least = c.loop-j.invariant;
}
