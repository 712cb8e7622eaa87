use Rattle.std.proofs.Common.{◌≡◌, ◌<◌, ℕ, false}
use Rattle.std.specs.Prelude.{slice_index}
use Rattle.std.specs.Mem.Slots.{slots_items}
use Rattle.claim_board.specs.Homes.{is_claimed_word}
use Rattle.claim_board.proofs.regions.taking_back.first_claimed.Given as goal

abbrev pub invariant-loop-region : goal.invariant-loop-region
invariant-loop-region l = (r : ℕ) → r < l.region → is_claimed_word (slice_index (slots_items l.closed.words) r) ≡ false
