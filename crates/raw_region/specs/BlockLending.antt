-- What a block holds once a `&mut` to its words has ended.
use Rattle.std.specs.Prelude.{ℕ, List}
use Rattle.std.specs.Borrow.{Fml, MutBor, Array, Lends, u64}
use Rattle.raw_region.specs.declared.block.Block.{Block}
use Rattle.raw_region.specs.contracts.block.Block.{the_row}

-- b with the words ws
abbrev pub block_with : Block → List ℕ → Block
block_with b ws = record b { words = ws }

-- b ends with the words that r is left with
abbrev pub LendsBlock : MutBor Block → MutBor (List ℕ) → Fml
LendsBlock b r = Lends the_row (Array u64 0) b r (block_with b.now)
