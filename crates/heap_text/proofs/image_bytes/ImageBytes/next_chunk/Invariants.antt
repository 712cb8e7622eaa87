use Rattle.std.proofs.Common.{◌≡◌, length}
use Rattle.heap_text.specs.ImageBytes.{numbers_left}
use Rattle.heap_text.proofs.image_bytes.ImageBytes.next_chunk.Given as goal

abbrev pub invariant-loop-self : goal.invariant-loop-self
invariant-loop-self l = record {
  same : numbers_left l.self ≡ numbers_left l.fn.self;
  tail : l.self.tail ≡ l.fn.self.tail;
  bytes : l.self.bytes ≡ l.fn.self.bytes;
  byte : l.self.byte ≡ l.fn.self.byte;
}

abbrev pub decreases-loop-self : goal.decreases-loop-self
decreases-loop-self l = length l.self.chunks.items
