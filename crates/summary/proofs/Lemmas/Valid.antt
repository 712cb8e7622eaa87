-- The compacted image has a live list again.
use Rattle.std.proofs.Common.{◌≡◌, ℕ, zero, suc, ◌+◌, ◌-◌, ◌^◌, ◌%◌, ◌/◌, ◌≤◌, ◌<◌, inl, inr, true, false, ◌&&◌, List, [], ◌∷◌, length, get_or, refl, sym, ◌∙◌, ap, subst, arith, ltb, leb, eqb, add-zero}
use Rattle.object_heap.specs.Header.{filler_header}
use Rattle.std.proofs.lemmas.Bool.{false≢true, cases_lt, cases_Bool, and_left, and_right, and_from, lt-leb, le-leb, le-ltb, lt-ltb, cond-true, cond-false, or_right, or_cases, eqb-true, eq-eqb, and_parts, ltb-true, leb-true, cond_both}
use Rattle.std.proofs.lemmas.List.{get_or-map, length-map, get_or_default, get_or_past}
use Rattle.std.proofs.lemmas.List.Elements.{All-from_get_or, All-map}
use Rattle.std.proofs.lemmas.List.Folds.{list_any_none, list_any_at, Any-from_list_any}
use Rattle.std.proofs.lemmas.List.FromFn.{length-range_with_len}
use Rattle.std.proofs.lemmas.List.Sums.{count_by-le-length, prefix_len-le-length}
use Rattle.std.specs.Prelude.{IsTrue, IfSome, Option, Some, None, map, option_map}
use Rattle.object_heap.specs.Version.{max_regions, max_words}
use Rattle.std.specs.List.{range_with_len, list_any}
use Rattle.std.specs.Option.{is_some}
use Rattle.object_heap.specs.Layout.{Layout, Own, IsLayout, references_in, reference_in, redirected_in}
use Rattle.object_heap.specs.HeapImage.{HeapImage, AreRoots, IsValid, region_words, is_dead_word, HasLiveList, HasSoundHeader, heap_words, word_at, size_at, references_at, end_of, reference_at, is_word_of, is_live_word, is_null_or_live, live_words}
use Rattle.summary.proofs.Lemmas.Spans.{is_in_inside}
use Rattle.summary.proofs.Lemmas.LiveWords.{live_apart, live_end-le}
use Rattle.summary.specs.NewAddresses.{prefix_end, new_address, new_top}
use Rattle.summary.specs.WordMoves.{slid, origin}
use Rattle.summary.specs.Fillers.{filler_limit, filler_word, gap_at, may_begin_filler}
use Rattle.summary.specs.Redirection.{RedirectsReferences}
use Rattle.summary.specs.Compaction.{compact, compacted_word, written, carried, redirected, is_reference_of, redirected_word}
use Rattle.summary.proofs.Lemmas.Addresses.{EndBefore, EndBefore-at, new_address-slid, new_top-live_words, prefix_end-le}
use Rattle.summary.proofs.Lemmas.Origin.{compact-slid, slid-increasing, live_words-past, length-compact}

module _ (image : HeapImage) (sound : HasLiveList image) where
  abbrev place : ℕ → ℕ
  place i = get_or image.live i 0

  abbrev N : ℕ
  N = heap_words image

  live_word : (i j : ℕ) → i < length image.live → j < size_at image (place i) → is_live_word image (place i + j) ≡ true
  live_word i j l k = list_any_at (λ a. is_word_of image a (place i + j)) image.live i 0 l (is_in_inside (place i) (size_at image (place i)) (place i + j) (omega arith) (omega arith))

  in_heap : (i j : ℕ) → i < length image.live → j < size_at image (place i) → place i + j < N
  in_heap i j l k = let e = live_end-le image sound i l in omega arith

  top-le : new_top image ≤ N
  top-le =
      let e = new_top-live_words image sound in
      let few = count_by-le-length (is_live_word image) (range_with_len (prefix_end image) (N - prefix_end image)) in
      let long = length-range_with_len (prefix_end image) (N - prefix_end image) in
      let low = prefix_end-le image sound in
      let count : live_words image (prefix_end image) N ≤ N - prefix_end image = omega arith in
      omega arith

  slid_below : (q : ℕ) → q < N → is_live_word image q ≡ true → slid image q < new_top image
  slid_below q l live =
      let e = new_top-live_words image sound in
      elim (cases_lt q (prefix_end image)) [
        | inl low ↦ let s : slid image q ≡ q = cond-true (ltb q (prefix_end image)) q (prefix_end image + live_words image (prefix_end image) q) (lt-ltb q (prefix_end image) low) in omega arith
        | inr high ↦
            let s : slid image q ≡ prefix_end image + live_words image (prefix_end image) q = cond-false (ltb q (prefix_end image)) q (prefix_end image + live_words image (prefix_end image) q) (le-ltb q (prefix_end image) high) in
            let more = live_words-past image q N live high l in
            omega arith
      ]

  -- the word j of the object i, after the collection
  pub word_of : (i j : ℕ) → i < length image.live → j < size_at image (place i) → word_at (compact image) (new_address image (place i) + j) ≡ carried image (λ _. true) (place i + j)
  word_of i j l k =
      let live = live_word i j l k in
      let q = in_heap i j l k in
      let below = slid_below (place i + j) q live in
      let top = top-le in
      ap (word_at (compact image)) (new_address-slid image sound i j l k) ∙ compact-slid image sound (place i + j) q live (omega arith) below

  -- another object's references don't reach into this one
  header_is_no_reference : (i : ℕ) → i < length image.live → list_any (λ c. is_reference_of image c (place i) && true) image.live ≡ false
  header_is_no_reference i l = list_any_none (λ c. is_reference_of image c (place i) && true) image.live (All-from_get_or (λ c. (is_reference_of image c (place i) && true) ≡ false) image.live 0 (λ k m.
      and_left (is_reference_of image (place k) (place i)) true (outside k m)))
    where
      before : (k : ℕ) → k < length image.live → place k < place i → end_of image (place k) ≤ place i
      before k m less = each image.live ((EndBefore-at (size_at image) 0 image.live (live_apart image sound) i l).1) k m less
        where
          each : (xs : List ℕ) → EndBefore (size_at image) (place i) xs → (k : ℕ) → k < length xs → get_or xs k 0 < place i → get_or xs k 0 + size_at image (get_or xs k 0) ≤ place i
          each [] h k m less = let no : ⊥ = omega arith in absurd no
          each (x ∷ xs) h zero m less = h.0 less
          each (x ∷ xs) h (suc k) m less = each xs h.1 k (omega arith) less

      outside : (k : ℕ) → k < length image.live → is_reference_of image (place k) (place i) ≡ false
      outside k m = elim (cases_lt (place k) (place i)) [
        | inl less ↦
            let e = before k m less in
            let few = (sound.sound k 0 m).references in
            and_right (ltb (place k) (place i)) (leb (place i) (place k + references_at image (place k))) (lt-leb (place i) (place k + references_at image (place k)) (omega arith))
        | inr more ↦ and_left (ltb (place k) (place i)) (leb (place i) (place k + references_at image (place k))) (le-ltb (place k) (place i) more)
      ]

  -- a header stays as it is
  pub header_of_moved : (i : ℕ) → i < length image.live → word_at (compact image) (new_address image (place i)) ≡ word_at image (place i)
  header_of_moved i l =
      let some = (sound.sound i 0 l).header in
      let a : ℕ = place i in
      ap (word_at (compact image)) (sym (add-zero (new_address image a)))
      ∙ word_of i 0 l some
      ∙ ap (carried image (λ _. true)) (add-zero a)
      ∙ cond-false (list_any (λ c. is_reference_of image c a && true) image.live) (redirected_word image (word_at image a)) (word_at image a) (header_is_no_reference i l)

  -- a word that is a reference is redirected
  reference_word : (i f : ℕ) → i < length image.live → f < references_at image (place i) → word_at (compact image) (new_address image (place i) + 1 + f) ≡ redirected_word image (word_at image (place i + 1 + f))
  reference_word i f l k =
      let few = (sound.sound i 0 l).references in
      let a : ℕ = place i in
      let e : new_address image a + 1 + f ≡ new_address image a + (1 + f) = omega arith in
      let e' : a + (1 + f) ≡ a + 1 + f = omega arith in
      let yes : list_any (λ c. is_reference_of image c (a + 1 + f) && true) image.live ≡ true = list_any_at (λ c. is_reference_of image c (a + 1 + f) && true) image.live i 0 l (and_from (is_reference_of image a (a + 1 + f)) true (and_from (ltb a (a + 1 + f)) (leb (a + 1 + f) (a + references_at image a)) (lt-ltb a (a + 1 + f) (omega arith)) (le-leb (a + 1 + f) (a + references_at image a) (omega arith))) refl) in
      ap (word_at (compact image)) e
      ∙ word_of i (1 + f) l (omega arith)
      ∙ ap (carried image (λ _. true)) e'
      ∙ cond-true (list_any (λ c. is_reference_of image c (a + 1 + f) && true) image.live) (redirected_word image (word_at image (a + 1 + f))) (word_at image (a + 1 + f)) yes

  abbrev pub after : HeapImage
  after = compact image

  pub new_at : (i d : ℕ) → i < length image.live → get_or after.live i d ≡ new_address image (place i)
  new_at i d l = get_or-map (new_address image) image.live i 0 d l

  pub count_same : length after.live ≡ length image.live
  count_same = length-map image.live (new_address image)

  -- the next word after the last of an object is in the heap, and not above the next object
  last_word : (i : ℕ) → i < length image.live → new_address image (place i) + size_at image (place i) ≤ N
  last_word i l =
      let some = (sound.sound i 0 l).header in
      let j : ℕ = size_at image (place i) - 1 in
      let e = new_address-slid image sound i j l (omega arith) in
      let below = slid_below (place i + j) (in_heap i j l (omega arith)) (live_word i j l (omega arith)) in
      let top = top-le in
      omega arith

  next_object : (i : ℕ) → i + 1 < length image.live → new_address image (place i) + size_at image (place i) ≤ new_address image (place (i + 1))
  next_object i l =
      let some = (sound.sound i 0 (omega arith)).header in
      let more = (sound.sound (i + 1) 0 l).header in
      let apart : end_of image (place i) ≤ place (i + 1) = sound.apart i 0 l in
      let j : ℕ = size_at image (place i) - 1 in
      let one = new_address-slid image sound i j (omega arith) (omega arith) in
      let two = new_address-slid image sound (i + 1) 0 l more in
      let less = slid-increasing image (place i + j) (place (i + 1) + 0) (live_word i j (omega arith) (omega arith)) (omega arith) in
      omega arith

  sound_after : (i : ℕ) → i < length after.live → HasSoundHeader after (get_or after.live i 0)
  sound_after i l =
      let count = count_same in
      let k : i < length image.live = omega arith in
      let h = sound.sound i 0 k in
      let same = header_of_moved i k in
      let long = length-compact image sound in
      let inside = last_word i k in
      rw (new_at i 0 k) (record {
        object = rw same h.object;
        header = rw same h.header;
        references = rw same h.references;
        inside = rw same (omega arith);
      })

  redirected_is_live : (w : ℕ) → is_null_or_live image w ≡ true → is_null_or_live after (redirected image w) ≡ true
  redirected_is_live w h = elim (cases_Bool (eqb w 0)) [
    | inl null ↦ ap (is_null_or_live after) (cond-true (eqb w 0) 0 (new_address image (w - 1) + 1) null)
    | inr some ↦ elim (or_cases (eqb w 0) (list_any (λ a. eqb w (a + 1)) image.live) h) [
      | inl null ↦ absurd (false≢true (sym some ∙ null))
      | inr found ↦
          let at = Any-from_list_any (λ a. eqb w (a + 1)) image.live found in
          let k : ℕ = at.0 in
          let x : ℕ = at.1 in
          let l : k < length image.live = at.2 in
          let is : get_or image.live k x ≡ x = at.3 in
          let is' : place k ≡ x = get_or_default image.live k 0 x l ∙ is in
          let e : w ≡ x + 1 = eqb-true w (x + 1) at.4 in
          let e' : w - 1 ≡ place k = omega arith in
          let to : redirected image w ≡ new_address image (place k) + 1 = cond-false (eqb w 0) 0 (new_address image (w - 1) + 1) some ∙ ap (λ c. new_address image c + 1) e' in
          let count = count_same in
          let hit : eqb (new_address image (place k) + 1) (get_or after.live k 0 + 1) ≡ true = eq-eqb (new_address image (place k) + 1) (get_or after.live k 0 + 1) (ap (λ c. c + 1) (sym (new_at k 0 l))) in
          rw to (or_right (eqb (new_address image (place k) + 1) 0) (list_any (λ a. eqb (new_address image (place k) + 1) (a + 1)) after.live) (list_any_at (λ a. eqb (new_address image (place k) + 1) (a + 1)) after.live k 0 (omega arith) hit))
    ]
  ]

  -- where a reference to an object leads in the compacted heap
  leads_where : (w : ℕ) → is_null_or_live image w ≡ true → 0 < w → (k : ℕ) × (k < length image.live) × (redirected image w ≡ new_address image (place k) + 1)
  leads_where w h more = elim (or_cases (eqb w 0) (list_any (λ a. eqb w (a + 1)) image.live) h) [
    | inl null ↦ let z = eqb-true w 0 null in let no : ⊥ = omega arith in absurd no
    | inr found ↦
        let at = Any-from_list_any (λ a. eqb w (a + 1)) image.live found in
        let k : ℕ = at.0 in
        let x : ℕ = at.1 in
        let l : k < length image.live = at.2 in
        let is : place k ≡ x = get_or_default image.live k 0 x l ∙ at.3 in
        let e : w ≡ x + 1 = eqb-true w (x + 1) at.4 in
        let e' : w - 1 ≡ place k = omega arith in
        let some : eqb w 0 ≡ false = elim (cases_Bool (eqb w 0)) [
          | inr some ↦ some
          | inl none ↦ let z = eqb-true w 0 none in let no : ⊥ = omega arith in absurd no
        ] in
        (k, l, cond-false (eqb w 0) 0 (new_address image (w - 1) + 1) some ∙ ap (λ c. new_address image c + 1) e')
  ]

  redirected_null : (w : ℕ) → w ≡ 0 → redirected image w ≡ 0
  redirected_null w z = cond-true (eqb w 0) 0 (new_address image (w - 1) + 1) (eq-eqb w 0 z)

  pub redirected_low : (w : ℕ) → is_null_or_live image w ≡ true → redirected image w ≤ N
  redirected_low w h = elim (cases_lt 0 w) [
    | inl more ↦
        let to = leads_where w h more in
        let is = to.2 in
        let some = (sound.sound to.0 0 to.1).header in
        let last = last_word to.0 to.1 in
        omega arith
    | inr none ↦ let z : w ≡ 0 = omega arith in let r = redirected_null w z in omega arith
  ]

  -- a redirected word leads to where its reference is redirected
  leads_redirected : RedirectsReferences image.layout N → (w : ℕ) → is_null_or_live image (reference_in image.layout w) ≡ true → reference_in image.layout (redirected_word image w) ≡ redirected image (reference_in image.layout w)
  leads_redirected lawful w h = elim (cases_lt 0 (reference_in image.layout w)) [
    | inl more ↦
        let to = leads_where (reference_in image.layout w) h more in
        let is = to.2 in
        lawful.leads w (redirected image (reference_in image.layout w)) more (omega arith) (redirected_low (reference_in image.layout w) h)
    | inr none ↦
        let z : reference_in image.layout w ≡ 0 = omega arith in
        let r : redirected image (reference_in image.layout w) ≡ 0 = redirected_null (reference_in image.layout w) z in
        ap (reference_in image.layout) (ap (redirected_in image.layout w) (r ∙ sym z) ∙ lawful.stays w) ∙ z ∙ sym r
  ]

  -- a reference is redirected
  pub reference_of_moved : RedirectsReferences image.layout N → (i f : ℕ) → i < length image.live → f < references_at image (place i) → reference_at (compact image) (new_address image (place i)) f ≡ redirected image (reference_at image (place i) f)
  reference_of_moved lawful i f l k = ap (reference_in image.layout) (reference_word i f l k) ∙ leads_redirected lawful (word_at image (place i + 1 + f)) (sound.references i 0 l f k)

  pub compact-HasLiveList : RedirectsReferences image.layout N → HasLiveList (compact image)
  compact-HasLiveList lawful =
      let count = count_same in
      record {
        sound = All-from_get_or (HasSoundHeader after) after.live 0 sound_after;
        apart = λ k d l.
            let here : k < length image.live = omega arith in
            let next : k + 1 < length image.live = omega arith in
            rw (new_at k d here, new_at (k + 1) d next) (rw (header_of_moved k here) (next_object k next));
        references = All-from_get_or (λ a. (f : ℕ) → f < references_at after a → IsTrue (is_null_or_live after (reference_at after a f))) after.live 0 (λ i l.
            let k : i < length image.live = omega arith in
            rw (new_at i 0 k) (λ f m.
            let m' : f < references_at image (place i) = subst (λ w. f < references_in image.layout w) (header_of_moved i k) m in
            rw (reference_of_moved lawful i f k m') (redirected_is_live (reference_at image (place i) f) (sound.references i 0 k f m'))));
      }

-- references of a lawful layout can be redirected
pub redirecting : {layout : Layout} {words : ℕ} → IsLayout layout words → RedirectsReferences layout words
redirecting lawful = record { leads = lawful.leads; stays = lawful.stays }

-- so can those of images in files, whatever the number of words
pub own_redirects : (words : ℕ) → RedirectsReferences Own words
own_redirects words = record { leads = λ w r some to low. refl; stays = λ w. refl }

-- there are as many lists of roots as before
same_roots : (f : List ℕ → List ℕ) (o : Option (List ℕ)) → is_some (option_map f o) ≡ is_some o
same_roots f None = refl
same_roots f (Some xs) = refl

module _ (image : HeapImage) (valid : IsValid image) where
  word_fits : (q : ℕ) → word_at image q < 2 ^ 64
  word_fits q = elim (cases_lt q (heap_words image)) [ inl l ↦ valid.words_fit q 0 l | inr g ↦ let past = get_or_past image.words q 0 g in omega arith ]

  redirected_fits : (q : ℕ) → is_null_or_live image (reference_in image.layout (word_at image q)) ≡ true → redirected_word image (word_at image q) < 2 ^ 64
  redirected_fits q h = valid.lawful.fits (word_at image q) (redirected image (reference_in image.layout (word_at image q))) (word_fits q) (redirected_low image valid.live_list (reference_in image.layout (word_at image q)) h)

  carried_fits : (q : ℕ) → carried image (λ _. true) q < 2 ^ 64
  carried_fits q = elim (cases_Bool (list_any (λ c. is_reference_of image c q && true) image.live)) [
    | inr none ↦ rw (cond-false (list_any (λ c. is_reference_of image c q && true) image.live) (redirected_word image (word_at image q)) (word_at image q) none) (word_fits q)
    | inl found ↦
        let at = Any-from_list_any (λ c. is_reference_of image c q && true) image.live found in
        let k : ℕ = at.0 in
        let x : ℕ = at.1 in
        let l : k < length image.live = at.2 in
        let is' : get_or image.live k 0 ≡ x = get_or_default image.live k 0 x l ∙ at.3 in
        let both = and_parts (ltb x q) (leb q (x + references_at image x)) ((and_parts (is_reference_of image x q) true at.4).0) in
        let behind : x < q = ltb-true x q both.0 in
        let up_to : q ≤ x + references_at image x = leb-true q (x + references_at image x) both.1 in
        let f : ℕ = q - (x + 1) in
        let place : x + 1 + f ≡ q = omega arith in
        let field : f < references_at image (get_or image.live k 0) = rw is' (omega arith) in
        let live : is_null_or_live image (reference_in image.layout (word_at image (x + 1 + f))) ≡ true = subst (λ a. is_null_or_live image (reference_in image.layout (word_at image (a + 1 + f))) ≡ true) is' (valid.live_list.references k 0 l f field) in
        rw (cond-true (list_any (λ c. is_reference_of image c q && true) image.live) (redirected_word image (word_at image q)) (word_at image q) found) (redirected_fits q (subst (λ p. is_null_or_live image (reference_in image.layout (word_at image p)) ≡ true) place live))
  ]

  filler_fits : (p : ℕ) → filler_word image p < 2 ^ 64
  filler_fits p =
      let gap = prefix_len-le-length (is_dead_word image) (range_with_len p (filler_limit image p - p)) in
      let long = length-range_with_len p (filler_limit image p - p) in
      let low = prefix_end-le image valid.live_list in
      let few = valid.limits.few_words in
      cond_both (may_begin_filler image p) (filler_header (gap_at image p)) 0 (λ w. w < 2 ^ 64) (λ _. omega arith) (λ _. omega arith)

  compacted_fits : (p : ℕ) → compacted_word image p < 2 ^ 64
  compacted_fits p = cond_both (ltb p (new_top image)) (written image (λ _. true) (origin image p) p) 0 (λ w. w < 2 ^ 64) (λ _. each (origin image p)) (λ _. omega arith)
    where
      each : (o : Option ℕ) → written image (λ _. true) o p < 2 ^ 64
      each (Some q) = carried_fits q
      each None = filler_fits p

  pub valid_with : IfSome (compact image).roots (AreRoots (compact image)) → IsValid (compact image)
  valid_with rooted =
      let long = length-compact image valid.live_list in
      let count : length (compact image).live ≡ length image.live = length-map image.live (new_address image) in
      let some = valid.limits.not_empty in
      let few = valid.limits.few_words in
      let fewer = valid.limits.few_live in
      record {
        own = valid.own;
        lawful = subst (IsLayout image.layout) (sym long) valid.lawful;
        limits = record {
          region_log_low = valid.limits.region_log_low;
          region_log_high = valid.limits.region_log_high;
          not_empty = omega arith;
          whole_regions = subst (λ n. n % region_words image ≡ 0) (sym long) valid.limits.whole_regions;
          few_words = omega arith;
          few_regions = subst (λ n. n / region_words image ≤ 1048576) (sym long) valid.limits.few_regions;
          few_live = omega arith;
        };
        allowed = record {
          region_log_high = valid.allowed.region_log_high;
          few_words = subst (λ n. n ≤ max_words image.version) (sym long) valid.allowed.few_words;
          few_regions = subst (λ n. n / region_words image ≤ max_regions image.version) (sym long) valid.allowed.few_regions;
        };
        allowance_fits = valid.allowance_fits;
        words_fit = All-map (λ w. w < 2 ^ 64) (compacted_word image) (range_with_len 0 (heap_words image)) (λ k d l. compacted_fits (get_or (range_with_len 0 (heap_words image)) k d));
        live_list = compact-HasLiveList image valid.live_list (redirecting valid.lawful);
        versioned = same_roots (map (redirected image)) image.roots ∙ valid.versioned;
        rooted = rooted;
      }
