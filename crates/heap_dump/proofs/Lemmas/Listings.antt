-- One object more in a list of objects.
use Rattle.std.proofs.Common.{◌≡◌, ◌≢◌, ◌⊎◌, inl, inr, ℕ, ◌+◌, ◌<◌, ◌≤◌, true, false, cond, List, [], ◌∷◌, ◌++◌, length, refl, sym, ◌∙◌, ap, subst, arith}
use Rattle.std.specs.Prelude.{map, filter, take}
use Rattle.std.proofs.lemmas.Bool.{cases_lt}
use Rattle.std.proofs.lemmas.List.{append-nil, get_or_append_left, get_or_push, length-append, length_push, map-append, take_more}
use Rattle.std.proofs.lemmas.List.Elements.{All-push, filter-append}
use Rattle.std.proofs.lemmas.List.Quantifiers.{all_pairs_push}
use Rattle.object_heap.specs.HeapImage.{HeapImage, size_at, word_at}
use Rattle.heap_dump.specs.declared.listing.ListedObject.{ListedObject}
use Rattle.heap_dump.specs.Listing.{AreObjectsBefore, HasObjectsBefore, IsNextLive, IsObjectAt, IsOutside, end_of_listed, live_addresses}

module _ (image : HeapImage) where
  -- up to the next address, whose word is 0
  pub before_zero : (count end : ℕ) (objects : List ListedObject) → word_at image end ≡ 0 → AreObjectsBefore image count end objects → AreObjectsBefore image count (end + 1) objects
  before_zero count end objects zero h = record {
    headers = h.headers;
    sizes = h.sizes;
    apart = h.apart;
    inside = λ k d l. let b = h.inside k d l in omega arith;
    rest = λ a l outside. go a outside (cases_lt a end) l;
    live = h.live;
  }
    where
      go : (a : ℕ) → IsOutside a objects → (a < end) ⊎ (end ≤ a) → a < end + 1 → word_at image a ≡ 0
      go a outside (inl below) l = h.rest a below outside
      go a outside (inr above) l = let same : a ≡ end = omega arith in ap (λ q. word_at image q) same ∙ zero

  -- a word outside more objects is outside the first of them, and outside the last one
  outside_first : (a : ℕ) (objects : List ListedObject) (object : ListedObject) → IsOutside a (objects ++ object ∷ []) → IsOutside a objects
  outside_first a objects object h = λ k d l.
      subst (λ o. (a < o.address) ⊎ (end_of_listed o ≤ a)) (get_or_append_left objects (object ∷ []) d k l)
      (h k d (let long = length-append objects (object ∷ []) in omega (arith, l, long)))

  outside_last : (a : ℕ) (objects : List ListedObject) (object : ListedObject) → IsOutside a (objects ++ object ∷ []) → (a < object.address) ⊎ (end_of_listed object ≤ a)
  outside_last a objects object h =
      subst (λ o. (a < o.address) ⊎ (end_of_listed o ≤ a)) (get_or_push objects object object (length objects) refl)
      (h (length objects) object (let long = length-append objects (object ∷ []) in omega (arith, long)))

  rest_more : (end : ℕ) (objects : List ListedObject) (object : ListedObject) → end ≡ object.address
      → ((a : ℕ) → a < end → IsOutside a objects → word_at image a ≡ 0)
      → (a : ℕ) → a < end_of_listed object → IsOutside a (objects ++ object ∷ []) → word_at image a ≡ 0
  rest_more end objects object here rest a l outside = go (outside_last a objects object outside)
    where
      go : (a < object.address) ⊎ (end_of_listed object ≤ a) → word_at image a ≡ 0
      go (inl below) = rest a (omega (arith, below, here)) (outside_first a objects object outside)
      go (inr above) = absurd (omega (arith, l, above))

  -- the address of an object, if it is live
  abbrev pub own : ListedObject → List ℕ
  own object = live_addresses (object ∷ [])

  more_addresses : (objects : List ListedObject) (object : ListedObject) → live_addresses (objects ++ object ∷ []) ≡ live_addresses objects ++ own object
  more_addresses objects object =
      ap (map (λ o. o.address)) (filter-append (λ o. o.is_live) objects (object ∷ []))
      ∙ map-append (λ o. o.address) (filter (λ o. o.is_live) objects) (filter (λ o. o.is_live) (object ∷ []))

  -- with one object more, after which this many are live
  pub before_more : (count then : ℕ) (objects : List ListedObject) (object : ListedObject) → AreObjectsBefore image count object.address objects
      → IsObjectAt image object.address object.words → take then image.live ≡ take count image.live ++ own object
      → AreObjectsBefore image then (object.address + object.words) (objects ++ object ∷ [])
  before_more count then objects object h at live = record {
    headers = All-push (λ o. word_at image o.address ≢ 0) objects object h.headers at.header;
    sizes = All-push (λ o. o.words ≡ size_at image o.address) objects object h.sizes at.size;
    apart = all_pairs_push (λ a b. end_of_listed a ≤ b.address) objects object h.apart (λ k d l. h.inside k d l);
    inside = All-push (λ o. end_of_listed o ≤ object.address + object.words) objects object (λ k d l. let b = h.inside k d l in omega arith) (omega arith);
    rest = rest_more object.address objects object refl h.rest;
    live = more_addresses objects object ∙ ap (λ xs. xs ++ own object) h.live ∙ sym live;
  }

  -- one that is live
  pub live_more : (count : ℕ) (object : ListedObject) → object.is_live ≡ true → IsNextLive image count object.address
      → take (count + 1) image.live ≡ take count image.live ++ own object
  live_more count object live next =
      take_more image.live count 0 next.there
      ∙ ap (λ a. take count image.live ++ a ∷ []) next.is
      ∙ ap (λ xs. take count image.live ++ xs) (sym (shown object live))
    where
      shown : (object : ListedObject) → object.is_live ≡ true → own object ≡ object.address ∷ []
      shown object live = ap (λ b. map (λ o. o.address) (cond b (object ∷ []) [])) live

  -- one that isn't
  pub dead_more : (count : ℕ) (object : ListedObject) → object.is_live ≡ false
      → take count image.live ≡ take count image.live ++ own object
  dead_more count object dead =
      sym (append-nil (take count image.live)) ∙ ap (λ xs. take count image.live ++ xs) (sym (shown object dead))
    where
      shown : (object : ListedObject) → object.is_live ≡ false → own object ≡ []
      shown object dead = ap (λ b. map (λ o. o.address) (cond b (object ∷ []) [])) dead

  -- a count, without and with one object more
  pub count_zero : (live end count : ℕ) → word_at image end ≡ 0 → HasObjectsBefore image live end count → HasObjectsBefore image live (end + 1) count
  count_zero live end count zero h = record { objects = h.objects; before = before_zero live end h.objects zero h.before; counted = h.counted }

  count_more : (live then count : ℕ) (object : ListedObject) → IsObjectAt image object.address object.words
      → take then image.live ≡ take live image.live ++ own object
      → HasObjectsBefore image live object.address count → HasObjectsBefore image then (object.address + object.words) (count + 1)
  count_more live then count object at more h = record {
    objects = h.objects ++ object ∷ [];
    before = before_more live then h.objects object h.before at more;
    counted = length_push h.objects object ∙ ap (λ n. n + 1) h.counted;
  }

  pub count_live : (live a words count : ℕ) → IsObjectAt image a words → IsNextLive image live a
      → HasObjectsBefore image live a count → HasObjectsBefore image (live + 1) (a + words) (count + 1)
  count_live live a words count at next =
      let object : ListedObject = record { address = a; id = 0; words = words; machine_words = 0; class = 0; is_live = true } in
      count_more live (live + 1) count object at (live_more live object refl next)

  pub count_dead : (live a words count : ℕ) → IsObjectAt image a words
      → HasObjectsBefore image live a count → HasObjectsBefore image live (a + words) (count + 1)
  count_dead live a words count at =
      let object : ListedObject = record { address = a; id = 0; words = words; machine_words = 0; class = 0; is_live = false } in
      count_more live live count object at (dead_more live object refl)
