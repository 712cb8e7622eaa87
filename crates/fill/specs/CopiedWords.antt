-- The words of a region while it is filled.
use Rattle.std.specs.Prelude.{ℕ, ◌+◌, Bool, false, nat_lt, ◌&&◌, min, max}
use Rattle.object_heap.specs.HeapImage.{HeapImage, region_words}
use Rattle.summary.specs.WordMoves.{slid}
use Rattle.summary.specs.Compaction.{word_by}

-- a source whose live words go to `first` up to `after` has words for the target region, `start` up to `limit`
abbrev pub reaches : ℕ → ℕ → ℕ → ℕ → Bool
reaches start limit first after = nat_lt first limit && (nat_lt start after && nat_lt first after)

module _ (image : HeapImage) where
  -- the word at p once it is copied, before any reference is redirected
  abbrev pub copied_word : ℕ → ℕ
  copied_word = word_by image (λ _. false)

  -- how far the region that begins at `start` is written once all live words below q are copied
  abbrev pub written_to : ℕ → ℕ → ℕ
  written_to start q = max start (min (start + region_words image) (slid image q))
