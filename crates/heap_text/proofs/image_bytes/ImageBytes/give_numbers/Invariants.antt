use Rattle.std.proofs.Common.{◌≡◌, ◌-◌, ◌≤◌, ◌++◌, ℕ, List, length, take}
use Rattle.heap_text.specs.ImageBytes.{bytes_left}
use Rattle.heap_text.proofs.image_bytes.ImageBytes.give_numbers.Given as goal

-- what is given and what is left make the whole
abbrev pub invariant-loop-buffer : goal.invariant-loop-buffer
invariant-loop-buffer l = record {
  within : l.count ≤ length l.buffer;
  byte : 32 ≤ l.self.byte;
  same : l.self.bytes ≡ l.fn.self.bytes;
  bytes : (whole : List ℕ) → whole ≡ take l.from l.fn.buffer ++ bytes_left l.fn.self → whole ≡ take l.count l.buffer ++ bytes_left l.self;
}

abbrev pub decreases-loop-buffer : goal.decreases-loop-buffer
decreases-loop-buffer l = length l.buffer - l.count
