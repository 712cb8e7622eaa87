-- What proofs of other crates use of live lists and of reachable addresses. A lemma there is handed these laws by a function
-- that calls `live_laws`.
use Rattle.std.specs.Prelude.{◌≡◌, ℕ, ◌+◌, ◌≤◌, ◌<◌, ◌==◌, Bool, true, false, List, All}
use Rattle.std.specs.List.{list_any}
use Rattle.object_heap.specs.HeapImage.{HeapImage, HasLiveList, HasSoundHeader, heap_words, references_at, reference_at, is_null_or_live, is_unsound, leads_to, refers_to, reachable}
use Rattle.object_heap.specs.Reachable.{is_listed, IsClosed}

pub record LiveLaws : Type 0 where
  -- the reachable addresses are the least that are closed
  pub reachable-IsClosed : (image : HeapImage) (roots : List ℕ) → IsClosed image roots (is_listed (reachable image roots))
  pub reachable-least : (image : HeapImage) (roots : List ℕ) (passes : ℕ → Bool) → IsClosed image roots passes → (b : ℕ) → is_listed (reachable image roots) b ≡ true → passes b ≡ true
  -- live objects, and where their references lead
  pub live_sound : (image : HeapImage) → HasLiveList image → (a : ℕ) → is_listed image.live a ≡ true → HasSoundHeader image a
  pub live_below : (image : HeapImage) → HasLiveList image → (a : ℕ) → is_listed image.live a ≡ true → a < heap_words image
  pub not_unsound : (image : HeapImage) → HasLiveList image → (a : ℕ) → HasSoundHeader image a → is_unsound image a ≡ false
  pub leads_to_live : (image : HeapImage) → HasLiveList image → (w b : ℕ) → is_null_or_live image w ≡ true → leads_to w b ≡ true → is_listed image.live b ≡ true
  pub field_of : (image : HeapImage) → HasLiveList image → (a b : ℕ) → refers_to image a b ≡ true → (is_unsound image a ≡ false) × ((f : ℕ) × (f < references_at image a) × (reference_at image a f ≡ b + 1))
  pub refers_by : (image : HeapImage) → HasLiveList image → (a b f : ℕ) → is_unsound image a ≡ false → f < references_at image a → reference_at image a f ≡ b + 1 → refers_to image a b ≡ true
  -- roots that reach the live list
  pub root_leads : (image : HeapImage) (roots : List ℕ) → image.live ≡ reachable image roots → (w : ℕ) → w ≤ heap_words image → list_any (λ x. w == x) roots ≡ true → is_null_or_live image w ≡ true
  pub live_is_reachable : (image : HeapImage) → HasLiveList image → (roots : List ℕ) → All (λ w. is_null_or_live image w ≡ true) roots
      → ((a : ℕ) → is_listed image.live a ≡ true → is_listed (reachable image roots) a ≡ true) → image.live ≡ reachable image roots
