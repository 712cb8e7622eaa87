-- The copying of words by the word machine.
use Rattle.std.specs.Prelude.{◌≡◌, ℕ, ◌+◌, ◌<◌, Bool, false, ◌||◌, ◌&&◌, nat_lt, nat_le, List, length, slice_index, slice_index_or, Some}
use Rattle.object_heap.specs.HeapImage.{HeapImage, IsValid, heap_words}
use Rattle.summary.specs.NewAddresses.{prefix_end, new_top}
use Rattle.summary.specs.WordMoves.{origin}
use Rattle.summary.specs.Own.{IsOwn}
use Rattle.summary.specs.Updates.{is_late_reference}
use Rattle.history.specs.WordMachine.{is_redirected}
use Rattle.history.specs.declared.machine.carrier.Carrier.{Carrier}

module _ (image : HeapImage) where
  -- these are the origins of the addresses from the prefix end up to the new top
  pub record AreOrigins (origins : List ℕ) : Type 0 where
    pub all : prefix_end image + length origins ≡ new_top image
    pub each : (k : ℕ) → k < length origins → origin image (prefix_end image + k) ≡ Some (slice_index origins k)

  -- the flag of each word of the heap is the result of the test
  pub record AreFlags (test : ℕ → Bool) (flags : List Bool) : Type 0 where
    pub all : length flags ≡ heap_words image
    pub each : (q : ℕ) → q < heap_words image → slice_index_or flags q false ≡ test q

-- the flags are set from one address, itself not included, up to another
pub record AreSet (old new : List Bool) (begin end : ℕ) : Type 0 where
  pub all : length new ≡ length old
  pub each : (q : ℕ) → q < length old → slice_index_or new q false ≡ (slice_index_or old q false || (nat_lt begin q && nat_le q end))

-- the invariant of a carrier
pub record IsCarrier (carrier : Carrier) : Type 0 where
  pub valid : IsValid carrier.plan.now
  pub own : IsOwn carrier.plan.now
  pub marks : carrier.marks.now ≡ carrier.plan.now
  pub origins : AreOrigins carrier.plan.now carrier.origins.items
  pub early : AreFlags carrier.plan.now (is_redirected carrier.plan.now) carrier.early.items
  pub late : AreFlags carrier.plan.now (is_late_reference carrier.plan.now) carrier.late.items
