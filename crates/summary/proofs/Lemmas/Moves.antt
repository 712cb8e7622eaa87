-- The moves of words, one for each live word in ascending order.
use Rattle.std.proofs.Common.{◌≡◌, ℕ, zero, suc, ◌+◌, ◌-◌, ◌≤◌, ◌<◌, Bool, true, false, cond, ◌||◌, List, [], ◌∷◌, ◌++◌, length, get_or, refl, sym, ◌∙◌, ap, arith, add-zero}
use Rattle.std.proofs.lemmas.Bool.{cond-true, cond-false, or_left}
use Rattle.std.proofs.lemmas.List.{map-append}
use Rattle.std.proofs.lemmas.List.Elements.{filter-append}
use Rattle.std.specs.Prelude.{filter, flat_map, map}
use Rattle.std.specs.List.{range_with_len}
use Rattle.object_heap.specs.HeapImage.{HeapImage, HasLiveList, size_at, heap_words, is_live_word}
use Rattle.summary.proofs.Lemmas.Spans.{Apart, is_in, in_any, is_in_inside, is_in_below, is_in_above, in_any-below}
use Rattle.summary.proofs.Lemmas.LiveWords.{live_apart, live_end-le}
use Rattle.summary.specs.NewAddresses.{new_address}
use Rattle.summary.specs.WordMoves.{word_moves, slid}
use Rattle.summary.proofs.Lemmas.Addresses.{new_address-slid, range_with_len-add}

filter_none : (p : ℕ → Bool) (b n : ℕ) → ((q : ℕ) → b ≤ q → q < b + n → p q ≡ false) → filter p (range_with_len b n) ≡ []
filter_none p b zero h = refl
filter_none p b (suc n) h = cond-false (p b) (b ∷ filter p (range_with_len (b + 1) n)) (filter p (range_with_len (b + 1) n)) (h b (omega arith) (omega arith)) ∙ filter_none p (b + 1) n (λ q l k. h q (omega arith) (omega arith))

filter_whole : (p : ℕ → Bool) (b n : ℕ) → ((q : ℕ) → b ≤ q → q < b + n → p q ≡ true) → filter p (range_with_len b n) ≡ range_with_len b n
filter_whole p b zero h = refl
filter_whole p b (suc n) h = cond-true (p b) (b ∷ filter p (range_with_len (b + 1) n)) (filter p (range_with_len (b + 1) n)) (h b (omega arith) (omega arith)) ∙ ap (λ xs. b ∷ xs) (filter_whole p (b + 1) n (λ q l k. h q (omega arith) (omega arith)))

filter_same : (p r : ℕ → Bool) (b n : ℕ) → ((q : ℕ) → b ≤ q → q < b + n → p q ≡ r q) → filter p (range_with_len b n) ≡ filter r (range_with_len b n)
filter_same p r b zero h = refl
filter_same p r b (suc n) h =
    rw (h b (omega arith) (omega arith)) (ap (λ xs. cond (r b) (b ∷ xs) xs) (filter_same p r (b + 1) n (λ q l k. h q (omega arith) (omega arith))))

or_second : (b c : Bool) → b ≡ false → (b || c) ≡ c
or_second b c h = rw h refl

module _ (size : ℕ → ℕ) where
  -- the words of the spans, in order, are the addresses that lie in one
  pub filter-in_any : (low m : ℕ) (places : List ℕ) → Apart size low places → ((i : ℕ) → i < length places → get_or places i 0 + size (get_or places i 0) ≤ low + m)
      → filter (in_any size places) (range_with_len low m) ≡ flat_map (λ a. range_with_len a (size a)) places
  filter-in_any low m [] h e = filter_none (λ (q : ℕ). false) low m (λ q l k. refl)
  filter-in_any low m (a ∷ others) h e =
      let f : low ≤ a = h.0 in
      let top : a + size a ≤ low + m = e 0 (omega arith) in
      let front : ℕ = a - low in
      let back : ℕ = low + m - (a + size a) in
      let p : ℕ → Bool = in_any size (a ∷ others) in
      let at : low + front ≡ a = omega arith in
      let whole : m ≡ front + (size a + back) = omega arith in
      let one = filter_none p low front (λ q l k. or_second (is_in a (size a) q) (in_any size others q) (is_in_below a (size a) q (omega arith)) ∙ in_any-below size (a + size a) q others h.1 (omega arith)) in
      let two = filter_whole p a (size a) (λ q l k. or_left (is_in a (size a) q) (in_any size others q) (is_in_inside a (size a) q l k)) in
      let three = filter_same p (in_any size others) (a + size a) back (λ q l k. or_second (is_in a (size a) q) (in_any size others q) (is_in_above a (size a) q l)) in
      let more = filter-in_any (a + size a) back others h.1 (λ i l. let t = e (suc i) (omega arith) in omega arith) in
      ap (λ n. filter p (range_with_len low n)) whole
      ∙ ap (filter p) (range_with_len-add low front (size a + back))
      ∙ filter-append p (range_with_len low front) (range_with_len (low + front) (size a + back))
      ∙ ap (λ xs. xs ++ filter p (range_with_len (low + front) (size a + back))) one
      ∙ ap (λ c. filter p (range_with_len c (size a + back))) at
      ∙ ap (filter p) (range_with_len-add a (size a) back)
      ∙ filter-append p (range_with_len a (size a)) (range_with_len (a + size a) back)
      ∙ ap (λ xs. xs ++ filter p (range_with_len (a + size a) back)) two
      ∙ ap (λ xs. range_with_len a (size a) ++ xs) (three ∙ more)

module _ {X : Type 0} (f : ℕ → List X) (g : ℕ → List ℕ) (h : ℕ → X) where
  flat_map-each : (places : List ℕ) → ((i : ℕ) → i < length places → f (get_or places i 0) ≡ map h (g (get_or places i 0))) → flat_map f places ≡ map h (flat_map g places)
  flat_map-each [] e = refl
  flat_map-each (a ∷ others) e =
      let one = e 0 (omega arith) in
      let more = flat_map-each others (λ i l. e (suc i) (omega arith)) in
      ap (λ xs. xs ++ flat_map f others) one ∙ ap (λ xs. map h (g a) ++ xs) more ∙ sym (map-append h (g a) (flat_map g others))

pub map-shifted : {X : Type 0} (f : ℕ → X) (h : ℕ → X) (a b n : ℕ) → ((j : ℕ) → b ≤ j → j < b + n → f j ≡ h (a + j)) → map f (range_with_len b n) ≡ map h (range_with_len (a + b) n)
map-shifted f h a b zero e = refl
map-shifted f h a b (suc n) e =
    let k : a + (b + 1) ≡ a + b + 1 = omega arith in
    rw (e b (omega arith) (omega arith)) (ap (λ xs. h (a + b) ∷ xs) (map-shifted f h a (b + 1) n (λ j l m. e j (omega arith) (omega arith)) ∙ ap (λ c. map h (range_with_len c n)) k))

module _ (image : HeapImage) (sound : HasLiveList image) where
  abbrev slide : ℕ → ℕ × ℕ
  slide q = (q, slid image q)

  pub word_moves-live : word_moves image ≡ map slide (filter (is_live_word image) (range_with_len 0 (heap_words image)))
  word_moves-live =
      let live = image.live in
      let piece : (i : ℕ) → i < length live → map (λ j. (get_or live i 0 + j, new_address image (get_or live i 0) + j)) (range_with_len 0 (size_at image (get_or live i 0))) ≡ map slide (range_with_len (get_or live i 0) (size_at image (get_or live i 0)))
      = λ i l. map-shifted (λ j. (get_or live i 0 + j, new_address image (get_or live i 0) + j)) slide (get_or live i 0) 0 (size_at image (get_or live i 0)) (λ j z k. ap (λ n. (get_or live i 0 + j, n)) (new_address-slid image sound i j l (omega arith)))
      ∙ ap (λ c. map slide (range_with_len c (size_at image (get_or live i 0)))) (add-zero (get_or live i 0)) in
      let spans = filter-in_any (size_at image) 0 (heap_words image) live (live_apart image sound) (λ i l. let t = live_end-le image sound i l in omega arith) in
      flat_map-each (λ a. map (λ j. (a + j, new_address image a + j)) (range_with_len 0 (size_at image a))) (λ a. range_with_len a (size_at image a)) slide live piece ∙ ap (map slide) (sym spans)
