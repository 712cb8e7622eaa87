use Rattle.std.proofs.Common.{◌∙◌, ◌++◌, ℕ, List, ap, sym, take, arith}
use Rattle.heap_text.specs.ImageBytes.{bytes_left}
use Rattle.heap_text.proofs.Lemmas.ByteSteps.{byte_given}
use Rattle.heap_text.proofs.image_bytes.ImageBytesIntake.take.Goals as goal

pub returns-in_default-clause-bytes : goal.returns-in_default-clause-bytes
returns-in_default-clause-bytes c = (
  c.loop-count.invariant ∙ ap (λ (t : List ℕ). take c.loop-count.count c.loop-count.buffer ++ t) (sym (c.next_byte.ensures.none c.in_default.is)),
  λ _ _. c.next_byte.ensures.end c.in_default.is,
)

pub loop-count-preserved : goal.loop-count-preserved
loop-count-preserved c =
    byte_given (bytes_left c.args.self.now) (bytes_left c.loop-count.self) (bytes_left c.next_byte.new.self) c.loop-count.buffer c.loop-count.count c.in-Some.byte
    (omega (arith, c.loop-count-test.true)) c.loop-count.invariant c.in-Some.ensures.some
