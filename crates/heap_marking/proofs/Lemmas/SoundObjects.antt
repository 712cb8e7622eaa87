-- A live list of sound objects.
use Rattle.std.proofs.Common.{◌≡◌, ℕ, ◌+◌, ◌*◌, ◌/◌, ◌%◌, ◌<◌, ◌≤◌, true, List, [], length, get_or, subst, arith}
use Rattle.std.proofs.lemmas.List.{get_or_default}
use Rattle.std.proofs.lemmas.List.Elements.{All-from_get_or}
use Rattle.object_heap.specs.HeapImage.{HeapImage, HasLiveList, HasSoundHeader, size_at, references_at, reference_at, is_null_or_live}
use Rattle.heap_marking.specs.Soundness.{AreNoted, IsSoundObject}

-- where each object is sound, the list is
pub sound_list : (image : HeapImage) → ((i : ℕ) → i < length image.live → IsSoundObject image i) → HasLiveList image
sound_list image each = record {
  sound = All-from_get_or (HasSoundHeader image) image.live 0 (λ i l. (each i l).sound);
  apart = λ k d l.
      let this : get_or image.live k d ≡ get_or image.live k 0 = get_or_default image.live k d 0 (omega arith) in
      let next : get_or image.live (k + 1) d ≡ get_or image.live (k + 1) 0 = get_or_default image.live (k + 1) d 0 l in
      rw (this, next) ((each k (omega arith)).apart l);
  references = All-from_get_or (λ a. (f : ℕ) → f < references_at image a → is_null_or_live image (reference_at image a f) ≡ true) image.live 0 (λ i l. (each i l).references);
}

module _ (image : HeapImage) (pieces : List (List ℕ)) (room : length image.live ≤ 64 * length pieces)
    (noted : (p : ℕ) → p < length pieces → AreNoted image p (get_or pieces p []))
    (some : (i : ℕ) → i < length image.live → 0 < get_or (get_or pieces (i / 64) []) (i % 64) 0) where
  -- the place of an object in its piece
  place : (i : ℕ) → 64 * (i / 64) + i % 64 ≡ i
  place i = omega arith

  -- what is noted of an object
  of_object : (i : ℕ) → i < length image.live → IsSoundObject image (64 * (i / 64) + i % 64)
      × (get_or (get_or pieces (i / 64) []) (i % 64) 0 ≡ size_at image (get_or image.live (64 * (i / 64) + i % 64) 0))
  of_object i l = noted (i / 64) (omega arith) (i % 64) (omega arith) (let whole = place i in omega (arith, whole, l)) (some i l)

  -- where all sizes are noted, each object is sound
  pub all_sound : HasLiveList image
  all_sound = sound_list image (λ i l. subst (IsSoundObject image) (place i) (of_object i l).0)
