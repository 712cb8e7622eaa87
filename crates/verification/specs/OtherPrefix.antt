-- Words that are those of a collection with another dense prefix.
use Rattle.std.specs.Prelude.{◌≡◌, ℕ, ◌≢◌, Bool}
use Rattle.object_heap.specs.HeapImage.{HeapImage, word_at}
use Rattle.summary.specs.NewAddresses.{prefix_end}
use Rattle.summary.specs.Compaction.{compact}
use Rattle.verification.specs.Difference.{AreAlike}
use Rattle.verification.specs.Explanation.{limit_of}
use Rattle.verification.specs.declared.verdict_explanation.OtherPrefix.{OtherPrefix}

-- the image with this allowance
abbrev pub allowing : ℕ → HeapImage → HeapImage
allowing allowance image = record image { allowance = allowance }

-- The prefix ends at one address, and by another allowance at another; by that one the compaction has these words.
pub record IsOtherPrefix (before after : HeapImage) (below_top : Bool) (prefix : OtherPrefix) : Type 0 where
  pub allowance : ℕ
  pub expected : prefix.expected ≡ prefix_end before
  pub found : prefix.found ≡ prefix_end (allowing allowance before)
  pub differs : prefix.found ≢ prefix.expected
  pub words : AreAlike (word_at (compact (allowing allowance before))) (word_at after) (limit_of below_top (allowing allowance before))
