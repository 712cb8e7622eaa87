use Rattle.std.proofs.Common.{◌≡◌, ℕ, ◌<◌, vec_len, slice_index}
use Rattle.scheduler.specs.State.{opening}
use Rattle.claim_board.specs.Rule.{word_of}
use Rattle.claim_board.proofs.make.opening_words.Given as goal

abbrev pub invariant-loop-region : goal.invariant-loop-region
invariant-loop-region l = (vec_len l.words ≡ l.region) × ((r : ℕ) → r < l.region → slice_index l.words.items r ≡ word_of l.moves opening r)
