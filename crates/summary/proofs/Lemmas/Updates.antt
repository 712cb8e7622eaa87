-- The moved words and the compacted words differ at the references of deferred objects alone.
use Rattle.std.proofs.Common.{◌≡◌, ℕ, ◌+◌, ◌-◌, ◌≤◌, ◌<◌, inl, inr, Bool, true, false, cond, ◌&&◌, List, [], ◌∷◌, length, get_or, refl, sym, ◌∙◌, ap, arith, ltb, leb, add-zero}
use Rattle.std.proofs.lemmas.Bool.{cases_lt, cases_order, cond-true, cond-false, and_parts, and_from, and_left, lt-ltb, le-ltb, le-leb, ltb-true, leb-true, false_from_ne_true}
use Rattle.std.proofs.lemmas.List.{get_or_default}
use Rattle.std.proofs.lemmas.List.Folds.{list_any_at, Any-from_list_any}
use Rattle.std.specs.Prelude.{map, not, Some, None, Option}
use Rattle.std.specs.List.{range_with_len, list_any}
use Rattle.object_heap.specs.HeapImage.{HeapImage, HasLiveList, heap_words, word_at, size_at, references_at, end_of, is_live_word, region_of}
use Rattle.object_heap.specs.Layout.{references_in}
use Rattle.summary.specs.NewAddresses.{new_address, new_top}
use Rattle.summary.specs.WordMoves.{slid, origin}
use Rattle.summary.specs.Fillers.{filler_word}
use Rattle.summary.specs.Compaction.{compact, compacted_word, moved_word, written, carried, redirected, is_reference_of, is_deferred, redirected_word}
use Rattle.summary.specs.Updates.{is_late_reference, updated_word}
use Rattle.summary.proofs.Lemmas.Addresses.{new_address-slid}
use Rattle.summary.proofs.Lemmas.Origin.{slid-increasing, origin-slid, origin-Some}
use Rattle.summary.proofs.Lemmas.Words.{owner, is_live, one_owner, slid-below}
use Rattle.summary.specs.RegionData.{region_addresses, deferred}
use Rattle.summary.proofs.Lemmas.Readers.{same_Bool}
use Rattle.summary.proofs.Lemmas.Objects.{deferred-told, deferred-Some, new_ends_before}

pub map_same : {X : Type 0} (f g : ℕ → X) → ((x : ℕ) → f x ≡ g x) → (xs : List ℕ) → map f xs ≡ map g xs
map_same f g e [] = refl
map_same f g e (x ∷ xs) = rw (e x) (ap (λ ys. g x ∷ ys) (map_same f g e xs))

module _ (image : HeapImage) (sound : HasLiveList image) where
  abbrev place : ℕ → ℕ
  place i = get_or image.live i 0

  -- two live words that go to the same address are the same word
  pub slid-injective : (q r : ℕ) → is_live_word image q ≡ true → is_live_word image r ≡ true → slid image q ≡ slid image r → q ≡ r
  slid-injective q r live alive e = elim (cases_order q r) [
    | inl same ↦ same
    | inr other ↦ elim other [
      | inl less ↦ let m = slid-increasing image q r live less in let no : ⊥ = omega arith in absurd no
      | inr more ↦ let m = slid-increasing image r q alive more in let no : ⊥ = omega arith in absurd no
    ]
  ]

  -- the word j of an object, at its new address
  pub new_word : (i j : ℕ) → i < length image.live → j < size_at image (place i) → (is_live_word image (place i + j) ≡ true) × (slid image (place i + j) ≡ new_address image (place i) + j) × (origin image (new_address image (place i) + j) ≡ Some (place i + j))
  new_word i j l k =
      let live = is_live image sound i (place i + j) l (omega arith) (omega arith) in
      let to = new_address-slid image sound i j l k in
      let few : end_of image (place i) ≤ heap_words image = (sound.sound i 0 l).inside in
      (live, sym to, ap (origin image) to ∙ origin-slid image sound (place i + j) (omega arith) live)

  -- whether a word is a reference of an object that passes a test depends on the object to which it belongs
  pub reference-owner : (test : ℕ → Bool) (i q : ℕ) → i < length image.live → place i ≤ q → q < end_of image (place i) → list_any (λ a. is_reference_of image a q && test a) image.live ≡ (is_reference_of image (place i) q && test (place i))
  reference-owner test i q l from below = same_Bool (list_any (λ a. is_reference_of image a q && test a) image.live) (is_reference_of image (place i) q && test (place i))
      (λ h.
      let at = Any-from_list_any (λ a. is_reference_of image a q && test a) image.live h in
      let k : ℕ = at.0 in
      let x : ℕ = at.1 in
      let m : k < length image.live = at.2 in
      let is : place k ≡ x = get_or_default image.live k 0 x m ∙ at.3 in
      let both = and_parts (is_reference_of image x q) (test x) at.4 in
      let parts = and_parts (ltb x q) (leb q (x + references_at image x)) both.0 in
      let more : x < q = ltb-true x q parts.0 in
      let high : q ≤ x + references_at image x = leb-true q (x + references_at image x) parts.1 in
      let few : references_at image x < size_at image x = rw (sym is) ((sound.sound k 0 m).references) in
      let end : q < end_of image (place k) = rw is (omega arith) in
      let same : place i ≡ place k = one_owner image sound i k q l m from below (omega arith) end in
      ap (λ a. is_reference_of image a q && test a) (same ∙ is) ∙ at.4)
      (λ h. list_any_at (λ a. is_reference_of image a q && test a) image.live i 0 l h)

  abbrev begins_late : ℕ → ℕ → Bool
  begins_late p a = is_deferred image a && (ltb (new_address image a) p && leb p (new_address image a + references_at image a))

  -- an object with a late reference at p: the word that goes there is a reference of it
  late_word : (p : ℕ) → is_late_reference image p ≡ true → (i : ℕ) × (q : ℕ) × (i < length image.live) × (is_deferred image (place i) ≡ true) × (is_reference_of image (place i) q ≡ true) × (place i ≤ q) × (q < end_of image (place i)) × (slid image q ≡ p)
  late_word p h =
      let at = Any-from_list_any (begins_late p) image.live h in
      let k : ℕ = at.0 in
      let x : ℕ = at.1 in
      let m : k < length image.live = at.2 in
      let is : place k ≡ x = get_or_default image.live k 0 x m ∙ at.3 in
      let hit : begins_late p (place k) ≡ true = ap (begins_late p) is ∙ at.4 in
      let a : ℕ = place k in
      let to : ℕ = new_address image a in
      let n : ℕ = references_at image a in
      let both = and_parts (is_deferred image a) (ltb to p && leb p (to + n)) hit in
      let parts = and_parts (ltb to p) (leb p (to + n)) both.1 in
      let more : to < p = ltb-true to p parts.0 in
      let high : p ≤ to + n = leb-true p (to + n) parts.1 in
      let few : n < size_at image a = (sound.sound k 0 m).references in
      let j : ℕ = p - to in
      let w = new_word k j m (omega arith) in
      let goes : slid image (a + j) ≡ to + j = w.1 in
      (k, a + j, m, both.0, and_from (ltb a (a + j)) (leb (a + j) (a + n)) (lt-ltb a (a + j) (omega arith)) (le-leb (a + j) (a + n) (omega arith)), omega arith, omega arith, omega arith)

  late-owner : (i q : ℕ) → i < length image.live → place i ≤ q → q < end_of image (place i) → is_late_reference image (slid image q) ≡ (is_reference_of image (place i) q && is_deferred image (place i))
  late-owner i q l from below = same_Bool (is_late_reference image (slid image q)) (is_reference_of image (place i) q && is_deferred image (place i))
      (λ h.
      let w = late_word (slid image q) h in
      let k : ℕ = w.0 in
      let r : ℕ = w.1 in
      let live = is_live image sound i q l from below in
      let alive = is_live image sound k r w.2 w.5 w.6 in
      let same : r ≡ q = slid-injective r q alive live w.7 in
      let low : place k ≤ r = w.5 in
      let end : r < end_of image (place k) = w.6 in
      let one : place k ≡ place i = one_owner image sound k i q w.2 l (omega arith) (omega arith) from below in
      and_from (is_reference_of image (place i) q) (is_deferred image (place i)) (ap (λ a. is_reference_of image a q) (sym one) ∙ ap (is_reference_of image (place k)) (sym same) ∙ w.4) (ap (is_deferred image) (sym one) ∙ w.3))
      (λ h.
      let a : ℕ = place i in
      let to : ℕ = new_address image a in
      let n : ℕ = references_at image a in
      let j : ℕ = q - a in
      let both = and_parts (is_reference_of image a q) (is_deferred image a) h in
      let parts = and_parts (ltb a q) (leb q (a + n)) both.0 in
      let more : a < q = ltb-true a q parts.0 in
      let high : q ≤ a + n = leb-true q (a + n) parts.1 in
      let w = new_word i j l (omega arith) in
      let e : a + j ≡ q = omega arith in
      let goes : slid image q ≡ to + j = ap (slid image) (sym e) ∙ w.1 in
      list_any_at (begins_late (slid image q)) image.live i 0 l (and_from (is_deferred image a) (ltb to (slid image q) && leb (slid image q) (to + n)) both.1 (and_from (ltb to (slid image q)) (leb (slid image q) (to + n)) (lt-ltb to (slid image q) (omega arith)) (le-leb (slid image q) (to + n) (omega arith)))))

  abbrev early : ℕ → Bool
  early a = not (is_deferred image a)

  -- moving a word and redirecting it afterwards if it is late is the same as redirecting it at once
  redirect_again : (r f : Bool) (h : ℕ → ℕ) (w : ℕ) → cond (r && f) (h (cond (r && not f) (h w) w)) (cond (r && not f) (h w) w) ≡ cond (r && true) (h w) w
  redirect_again true true h w = refl
  redirect_again true false h w = refl
  redirect_again false f h w = refl

  updated-live : (q : ℕ) → is_live_word image q ≡ true
      → cond (is_late_reference image (slid image q)) (redirected_word image (carried image early q)) (carried image early q) ≡ carried image (λ _. true) q
  updated-live q live =
      let o = owner image sound q live in
      let i : ℕ = o.0 in
      let l : i < length image.live = o.1 in
      let from : place i ≤ q = o.2 in
      let below : q < end_of image (place i) = o.3 in
      rw (late-owner i q l from below) (rw (reference-owner early i q l from below) (rw (reference-owner (λ _. true) i q l from below)
      (redirect_again (is_reference_of image (place i) q) (is_deferred image (place i)) (redirected_word image) (word_at image q))))

  late-None : (p : ℕ) → origin image p ≡ None → is_late_reference image p ≡ false
  late-None p e = false_from_ne_true (is_late_reference image p) (λ h.
      let w = late_word p h in
      let q : ℕ = w.1 in
      let live = is_live image sound w.0 q w.2 w.5 w.6 in
      let few : end_of image (place w.0) ≤ heap_words image = (sound.sound w.0 0 w.2).inside in
      let below : q < end_of image (place w.0) = w.6 in
      let to : slid image q ≡ p = w.7 in
      let some = origin-slid image sound q (omega arith) live in
      let both : None ≡ Some q = sym e ∙ ap (origin image) (sym to) ∙ some in
      none q both)
    where
      none : (q : ℕ) → None ≡ Some q → ⊥
      none q h = cc

  -- below the new top, the update of the deferred objects makes the compacted word
  updated-below : (p : ℕ) → (o : Option ℕ) → origin image p ≡ o
      → cond (is_late_reference image p) (redirected_word image (written image early o p)) (written image early o p) ≡ written image (λ _. true) o p
  updated-below p None e = cond-false (is_late_reference image p) (redirected_word image (filler_word image p)) (filler_word image p) (late-None p e)
  updated-below p (Some q) e =
      let h = origin-Some image sound p q e in
      ap (λ n. cond (is_late_reference image n) (redirected_word image (carried image early q)) (carried image early q)) (sym h.1) ∙ updated-live q h.0

  pub updated-compacted : (p : ℕ) → updated_word image p ≡ compacted_word image p
  updated-compacted p = elim (cases_lt p (new_top image)) [
    | inr above ↦
        cond-false (ltb p (new_top image)) (cond (is_late_reference image p) (redirected_word image (moved_word image p)) (moved_word image p)) 0 (le-ltb p (new_top image) above)
        ∙ sym (cond-false (ltb p (new_top image)) (written image (λ _. true) (origin image p) p) 0 (le-ltb p (new_top image) above))
    | inl below ↦
        let is : moved_word image p ≡ written image early (origin image p) p = cond-true (ltb p (new_top image)) (written image early (origin image p) p) (word_at image p) (lt-ltb p (new_top image) below) in
        cond-true (ltb p (new_top image)) (cond (is_late_reference image p) (redirected_word image (moved_word image p)) (moved_word image p)) 0 (lt-ltb p (new_top image) below)
        ∙ ap (λ w. cond (is_late_reference image p) (redirected_word image w) w) is
        ∙ updated-below p (origin image p) refl
        ∙ sym (cond-true (ltb p (new_top image)) (written image (λ _. true) (origin image p) p) 0 (lt-ltb p (new_top image) below))
  ]

  pub updated-words : map (updated_word image) (range_with_len 0 (heap_words image)) ≡ (compact image).words
  updated-words = map_same (updated_word image) (compacted_word image) updated-compacted (range_with_len 0 (heap_words image))

  pub updated-block : (r : ℕ) → map (updated_word image) (region_addresses image r) ≡ map (compacted_word image) (region_addresses image r)
  updated-block r = map_same (updated_word image) (compacted_word image) updated-compacted (region_addresses image r)

  -- the word j of an object at its new address, once it is moved
  pub moved-carried : (i j : ℕ) → i < length image.live → j < size_at image (place i) → moved_word image (new_address image (place i) + j) ≡ carried image early (place i + j)
  moved-carried i j l k =
      let w = new_word i j l k in
      let p : ℕ = new_address image (place i) + j in
      let below = slid-below image sound (place i + j) w.0 in
      let to : slid image (place i + j) ≡ p = w.1 in
      cond-true (ltb p (new_top image)) (written image early (origin image p) p) (word_at image p) (lt-ltb p (new_top image) (omega arith))
      ∙ ap (λ o. written image early o p) w.2

  -- its header is the old one
  pub moved-header : (i : ℕ) → i < length image.live → moved_word image (new_address image (place i)) ≡ word_at image (place i)
  moved-header i l =
      let some = (sound.sound i 0 l).header in
      let a : ℕ = place i in
      let none : (is_reference_of image a a && early a) ≡ false = and_left (is_reference_of image a a) (early a) (and_left (ltb a a) (leb a (a + references_at image a)) (le-ltb a a (omega arith))) in
      ap (moved_word image) (sym (add-zero (new_address image a)))
      ∙ moved-carried i 0 l some
      ∙ ap (carried image early) (add-zero a)
      ∙ cond-false (list_any (λ c. is_reference_of image c a && early c) image.live) (redirected_word image (word_at image a)) (word_at image a) (reference-owner early i a l (omega arith) (omega arith) ∙ none)

  -- the references of an object: the old ones if it is deferred, otherwise redirected
  pub moved-reference : (i f : ℕ) → i < length image.live → f < references_at image (place i)
      → moved_word image (new_address image (place i) + (1 + f)) ≡ cond (is_deferred image (place i)) (word_at image (place i + (1 + f))) (redirected_word image (word_at image (place i + (1 + f))))
  moved-reference i f l k =
      let few = (sound.sound i 0 l).references in
      let a : ℕ = place i in
      let q : ℕ = a + (1 + f) in
      let is : is_reference_of image a q ≡ true = and_from (ltb a q) (leb q (a + references_at image a)) (lt-ltb a q (omega arith)) (le-leb q (a + references_at image a) (omega arith)) in
      moved-carried i (1 + f) l (omega arith)
      ∙ ap (λ b. cond b (redirected_word image (word_at image q)) (word_at image q)) (reference-owner early i q l (omega arith) (omega arith) ∙ ap (λ b. b && early a) is)
      ∙ turned (is_deferred image a) (word_at image q) (redirected_word image (word_at image q))
    where
      turned : (b : Bool) (x y : ℕ) → cond (true && not b) y x ≡ cond b x y
      turned true x y = refl
      turned false x y = refl

  -- The late references are those of the regions' deferred objects, with as many references as the moved header has.
  pub late-told : (p : ℕ) → is_late_reference image p ≡ true → (d : ℕ) × (x : ℕ) × (deferred image d ≡ Some x) × (x < p) × (p ≤ x + references_in image.layout (moved_word image x))
  late-told p h =
      let at = Any-from_list_any (begins_late p) image.live h in
      let k : ℕ = at.0 in
      let m : k < length image.live = at.2 in
      let is : place k ≡ at.1 = get_or_default image.live k 0 at.1 m ∙ at.3 in
      let hit : begins_late p (place k) ≡ true = ap (begins_late p) is ∙ at.4 in
      let a : ℕ = place k in
      let to : ℕ = new_address image a in
      let n : ℕ = references_at image a in
      let both = and_parts (is_deferred image a) (ltb to p && leb p (to + n)) hit in
      let parts = and_parts (ltb to p) (leb p (to + n)) both.1 in
      let high : p ≤ to + n = leb-true p (to + n) parts.1 in
      let same : references_in image.layout (moved_word image to) ≡ n = ap (references_in image.layout) (moved-header k m) in
      (region_of image to, to, deferred-told image sound k m both.0, ltb-true to p parts.0, omega arith)

  pub told-late : (p d x : ℕ) → deferred image d ≡ Some x → x < p → p ≤ x + references_in image.layout (moved_word image x) → is_late_reference image p ≡ true
  told-late p d x e l h =
      let w = deferred-Some image sound d x e in
      let i : ℕ = w.0 in
      let m : i < length image.live = w.1 in
      let to : new_address image (place i) ≡ x = w.3 in
      let same : references_in image.layout (moved_word image x) ≡ references_at image (place i) = ap (λ n. references_in image.layout (moved_word image n)) (sym to) ∙ ap (references_in image.layout) (moved-header i m) in
      let y : ℕ = new_address image (place i) in
      let n : ℕ = references_at image (place i) in
      list_any_at (begins_late p) image.live i 0 m (and_from (is_deferred image (place i)) (ltb y p && leb p (y + n)) w.2 (and_from (ltb y p) (leb p (y + n)) (lt-ltb y p (omega arith)) (le-leb p (y + n) (omega arith))))

  -- ---- the update, reference by reference

  pub late-below : (p : ℕ) → is_late_reference image p ≡ true → p < new_top image
  late-below p h =
      let w = late_word p h in
      let live = is_live image sound w.0 w.1 w.2 w.5 w.6 in
      let below = slid-below image sound w.1 live in
      let to : slid image w.1 ≡ p = w.7 in
      omega arith

  pub moved-same : (p : ℕ) → p < new_top image → is_late_reference image p ≡ false → moved_word image p ≡ compacted_word image p
  moved-same p l h =
      sym (cond-false (is_late_reference image p) (redirected_word image (moved_word image p)) (moved_word image p) h)
      ∙ sym (cond-true (ltb p (new_top image)) (cond (is_late_reference image p) (redirected_word image (moved_word image p)) (moved_word image p)) 0 (lt-ltb p (new_top image) l))
      ∙ updated-compacted p

  pub moved-late : (p : ℕ) → is_late_reference image p ≡ true → compacted_word image p ≡ redirected_word image (moved_word image p)
  moved-late p h =
      sym (updated-compacted p)
      ∙ cond-true (ltb p (new_top image)) (cond (is_late_reference image p) (redirected_word image (moved_word image p)) (moved_word image p)) 0 (lt-ltb p (new_top image) (late-below p h))
      ∙ cond-true (is_late_reference image p) (redirected_word image (moved_word image p)) (moved_word image p) h

  -- the header of a deferred object is not changed by the update
  pub late-header : (i : ℕ) → i < length image.live → is_late_reference image (new_address image (place i)) ≡ false
  late-header i l =
      let some = (sound.sound i 0 l).header in
      let a : ℕ = place i in
      let w = new_word i 0 l some in
      let e : slid image a ≡ new_address image a = ap (slid image) (sym (add-zero a)) ∙ w.1 ∙ add-zero (new_address image a) in
      ap (is_late_reference image) (sym e)
      ∙ late-owner i a l (omega arith) (omega arith)
      ∙ and_left (is_reference_of image a a) (is_deferred image a) (and_left (ltb a a) (leb a (a + references_at image a)) (le-ltb a a (omega arith)))

  -- no reference is of two deferred objects
  pub late-once : (p d e x y : ℕ) → deferred image d ≡ Some x → deferred image e ≡ Some y → x < p → p ≤ x + references_in image.layout (moved_word image x) → y < p → p ≤ y + references_in image.layout (moved_word image y) → (d ≡ e) × (x ≡ y)
  late-once p d e x y f g l h m k =
      let v = deferred-Some image sound d x f in
      let w = deferred-Some image sound e y g in
      let i : ℕ = v.0 in
      let j : ℕ = w.0 in
      let li : i < length image.live = v.1 in
      let lj : j < length image.live = w.1 in
      let to_x : new_address image (place i) ≡ x = v.3 in
      let to_y : new_address image (place j) ≡ y = w.3 in
      let at_x : region_of image x ≡ d = v.4 in
      let at_y : region_of image y ≡ e = w.4 in
      let same_x : references_in image.layout (moved_word image x) ≡ references_at image (place i) = ap (λ n. references_in image.layout (moved_word image n)) (sym to_x) ∙ ap (references_in image.layout) (moved-header i li) in
      let same_y : references_in image.layout (moved_word image y) ≡ references_at image (place j) = ap (λ n. references_in image.layout (moved_word image n)) (sym to_y) ∙ ap (references_in image.layout) (moved-header j lj) in
      let few_x = (sound.sound i 0 li).references in
      let few_y = (sound.sound j 0 lj).references in
      elim (cases_order (place i) (place j)) [
        | inl same ↦
            let xy : x ≡ y = sym to_x ∙ ap (new_address image) same ∙ to_y in
            (sym at_x ∙ ap (region_of image) xy ∙ at_y, xy)
        | inr other ↦ elim other [
          | inl less ↦ let b = new_ends_before image sound i j li lj less in let no : ⊥ = omega arith in absurd no
          | inr more ↦ let b = new_ends_before image sound j i lj li more in let no : ⊥ = omega arith in absurd no
        ]
      ]
