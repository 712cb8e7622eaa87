-- New addresses by counts of live words.
use Rattle.std.proofs.Common.{◌≡◌, ℕ, zero, suc, ◌+◌, ◌-◌, ◌≤◌, ◌<◌, inl, inr, max, List, [], ◌∷◌, length, get_or, refl, sym, ◌∙◌, ap, arith, ltb, add-zero, zero-add}
use Rattle.std.proofs.lemmas.Bool.{cases_lt, cond-true, cond-false, lt-ltb, le-ltb}
use Rattle.std.specs.Prelude.{fold, filter, ◌++◌}
use Rattle.std.specs.List.{range_with_len}
use Rattle.object_heap.specs.HeapImage.{HeapImage, HasLiveList, size_at, end_of, heap_words, last_end, live_words}
use Rattle.summary.proofs.Lemmas.Spans.{Apart, Apart-filter, held}
use Rattle.summary.proofs.Lemmas.LiveWords.{live_apart, live_words-held, live_end-le}
use Rattle.summary.specs.NewAddresses.{prefix_end, next_after, next_at, new_address, new_top, stays}
use Rattle.summary.specs.WordMoves.{slid}
use Rattle.summary.proofs.Lemmas.Prefix.{prefix_end_is}

-- the number of the spans' words at or above b
abbrev pub above : (ℕ → ℕ) → List ℕ → ℕ → ℕ
above size [] b = 0
above size (a ∷ others) b = (a + size a - max a b) + above size others b

-- each span that begins below x ends there or below
abbrev pub EndBefore : (ℕ → ℕ) → ℕ → List ℕ → Type 0
EndBefore size x [] = Unit {0}
EndBefore size x (a ∷ others) = (a < x → a + size a ≤ x) × EndBefore size x others

module _ (size : ℕ → ℕ) where
  EndBefore-below : (x low : ℕ) (places : List ℕ) → x ≤ low → Apart size low places → EndBefore size x places
  EndBefore-below x low [] l h = tt
  EndBefore-below x low (a ∷ others) l h = let f : low ≤ a = h.0 in ((λ k. omega arith), EndBefore-below x (a + size a) others (omega arith) h.1)

  pub EndBefore-at : (low : ℕ) (places : List ℕ) → Apart size low places → (i : ℕ) → i < length places → (low ≤ get_or places i 0) × EndBefore size (get_or places i 0) places
  EndBefore-at low [] h i l = omega arith
  EndBefore-at low (a ∷ others) h zero l = (h.0, ((λ k. omega arith), EndBefore-below a (a + size a) others (omega arith) h.1))
  EndBefore-at low (a ∷ others) h (suc i) l =
      let r = EndBefore-at (a + size a) others h.1 i (omega arith) in
      let g : a + size a ≤ get_or others i 0 = r.0 in
      let f : low ≤ a = h.0 in
      (omega arith, ((λ k. g), r.1))

  -- the words at or above b of the spans that begin below x are those from b up to x
  pub above-filter : (x b : ℕ) (places : List ℕ) → EndBefore size x places → above size (filter (λ c. ltb c x) places) b ≡ held size places b x
  above-filter x b [] h = refl
  above-filter x b (a ∷ others) h =
      let more = above-filter x b others h.1 in
      elim (cases_lt a x) [
        | inl l ↦ let e : a + size a ≤ x = h.0 l in rw (cond-true (ltb a x) (a ∷ filter (λ c. ltb c x) others) (filter (λ c. ltb c x) others) (lt-ltb a x l)) (omega arith)
        | inr g ↦ rw (cond-false (ltb a x) (a ∷ filter (λ c. ltb c x) others) (filter (λ c. ltb c x) others) (le-ltb a x g)) (omega arith)
      ]

  pub above-held : (n b : ℕ) (places : List ℕ) → EndBefore size n places → ((i : ℕ) → i < length places → get_or places i 0 < n) → above size places b ≡ held size places b n
  above-held n b [] h l = refl
  above-held n b (a ∷ others) h l =
      let more = above-held n b others h.1 (λ i k. l (suc i) (omega arith)) in
      let e : a + size a ≤ n = h.0 (l 0 (omega arith)) in
      omega arith

module _ (image : HeapImage) where
  abbrev B : ℕ
  B = prefix_end image

  -- The next free address is the prefix end plus the number of placed live words above it.
  pub fold-next_after : (low : ℕ) (places : List ℕ) → Apart (size_at image) low places → (w : ℕ) → (low < B → w ≡ 0) → fold (next_after image) (B + w) places ≡ B + (w + above (size_at image) places B)
  fold-next_after low [] h w z = ap (λ n. B + n) (sym (add-zero w))
  fold-next_after low (a ∷ others) h w z =
      let f : low ≤ a = h.0 in
      elim (cases_lt a B) [
        | inl below ↦
            let none : w ≡ 0 = z (omega arith) in
            let n : ℕ = end_of image a - B in
            let placed : next_after image (B + w) a ≡ B + n = cond-true (stays image a) (max (B + w) (end_of image a)) (B + w + size_at image a) (lt-ltb a B below) ∙ omega arith in
            let more = fold-next_after (end_of image a) others h.1 n (λ l. omega arith) in
            rw placed (more ∙ omega arith)
        | inr from ↦
            let n : ℕ = w + size_at image a in
            let placed : next_after image (B + w) a ≡ B + n = cond-false (stays image a) (max (B + w) (end_of image a)) (B + w + size_at image a) (le-ltb a B from) ∙ omega arith in
            let more = fold-next_after (end_of image a) others h.1 n (λ l. omega arith) in
            rw placed (more ∙ omega arith)
      ]

module _ (size : ℕ → ℕ) where
  pub held-empty : (places : List ℕ) (low high : ℕ) → high ≤ low → held size places low high ≡ 0
  held-empty [] low high h = refl
  held-empty (a ∷ others) low high h = let more = held-empty others low high h in omega arith

  pub held-before : (first : ℕ) (places : List ℕ) → Apart size first places → (low high : ℕ) → high ≤ first → held size places low high ≡ 0
  held-before first [] h low high l = refl
  held-before first (a ∷ others) h low high l =
      let f : first ≤ a = h.0 in
      let more = held-before (a + size a) others h.1 low high (omega arith) in
      omega arith

  -- up to j words into a span there are j more words than up to its start, or as many of them as are not below b
  pub held-within : (first : ℕ) (places : List ℕ) → Apart size first places → (i j b : ℕ) → i < length places → j ≤ size (get_or places i 0)
      → held size places b (get_or places i 0 + j) ≡ held size places b (get_or places i 0) + (get_or places i 0 + j - max (get_or places i 0) b)
  held-within first [] h i j b l k = omega arith
  held-within first (a ∷ others) h zero j b l k =
      let one = held-before (a + size a) others h.1 b (a + j) (omega arith) in
      let two = held-before (a + size a) others h.1 b a (omega arith) in
      omega arith
  held-within first (a ∷ others) h (suc i) j b l k =
      let more = held-within (a + size a) others h.1 i j b (omega arith) k in
      let after : a + size a ≤ get_or others i 0 = (EndBefore-at size (a + size a) others h.1 i (omega arith)).0 in
      omega arith

  EndBefore-all : (n : ℕ) (places : List ℕ) → ((i : ℕ) → i < length places → get_or places i 0 + size (get_or places i 0) ≤ n) → EndBefore size n places
  EndBefore-all n [] h = tt
  EndBefore-all n (a ∷ others) h = ((λ k. h 0 (omega arith)), EndBefore-all n others (λ i l. h (suc i) (omega arith)))

  last_end-le : (n last : ℕ) (places : List ℕ) → last ≤ n → ((i : ℕ) → i < length places → get_or places i 0 + size (get_or places i 0) ≤ n) → fold (λ _ a. a + size a) last places ≤ n
  last_end-le n last [] k h = k
  last_end-le n last (a ∷ others) k h = last_end-le n (a + size a) others (h 0 (omega arith)) (λ i l. h (suc i) (omega arith))

module _ (image : HeapImage) (sound : HasLiveList image) where
  abbrev P : ℕ
  P = prefix_end image

  abbrev place : ℕ → ℕ
  place i = get_or image.live i 0

  pub next_at-live_words : (i : ℕ) → i < length image.live → P ≤ place i → next_at image (place i) ≡ P + live_words image P (place i)
  next_at-live_words i l b =
      let before = (EndBefore-at (size_at image) 0 image.live (live_apart image sound) i l).1 in
      let folded = fold-next_after image 0 (filter (λ c. ltb c (place i)) image.live) (Apart-filter (size_at image) (λ c. ltb c (place i)) 0 image.live (live_apart image sound)) 0 (λ _. refl) in
      let start : P + 0 ≡ P = add-zero P in
      ap (λ n. fold (next_after image) n (filter (λ c. ltb c (place i)) image.live)) (sym start) ∙ folded ∙ rw (above-filter (size_at image) (place i) P image.live before) (rw (live_words-held image sound P (place i) b) (omega arith))

  pub prefix_end-le : P ≤ heap_words image
  prefix_end-le =
      let low : P ≤ last_end image = (prefix_end_is image).below_end in
      let high : last_end image ≤ heap_words image = last_end-le (size_at image) (heap_words image) 0 image.live (omega arith) (live_end-le image sound) in
      omega arith

  pub new_top-live_words : new_top image ≡ P + live_words image P (heap_words image)
  new_top-live_words =
      let start : P + 0 ≡ P = add-zero P in
      let folded = fold-next_after image 0 image.live (live_apart image sound) 0 (λ _. refl) in
      let all = above-held (size_at image) (heap_words image) P image.live (EndBefore-all (size_at image) (heap_words image) image.live (live_end-le image sound)) (λ i l. live_below i l) in
      let low : P ≤ last_end image = (prefix_end_is image).below_end in
      let high : last_end image ≤ heap_words image = last_end-le (size_at image) (heap_words image) 0 image.live (omega arith) (live_end-le image sound) in
      ap (λ n. fold (next_after image) n image.live) (sym start) ∙ folded ∙ rw all (rw (live_words-held image sound P (heap_words image) (omega arith)) (omega arith))
    where
      live_below : (i : ℕ) → i < length image.live → get_or image.live i 0 < heap_words image
      live_below i l = let some = (sound.sound i 0 l).header in let e = live_end-le image sound i l in omega arith

  -- the new address of each word of a live object, by counting
  pub new_address-slid : (i j : ℕ) → i < length image.live → j < size_at image (place i) → new_address image (place i) + j ≡ slid image (place i + j)
  new_address-slid i j l k =
      let within = held-within (size_at image) 0 image.live (live_apart image sound) i j P l (omega arith) in
      elim (cases_lt (place i) P) [
        | inl below ↦
            let stays : new_address image (place i) ≡ place i = cond-true (ltb (place i) P) (place i) (next_at image (place i)) (lt-ltb (place i) P below) in
            let none = held-empty (size_at image) image.live P (place i) (omega arith) in
            elim (cases_lt (place i + j) P) [
              | inl low ↦ let e : slid image (place i + j) ≡ place i + j = cond-true (ltb (place i + j) P) (place i + j) (P + live_words image P (place i + j)) (lt-ltb (place i + j) P low) in omega arith
              | inr high ↦
                  let e : slid image (place i + j) ≡ P + live_words image P (place i + j) = cond-false (ltb (place i + j) P) (place i + j) (P + live_words image P (place i + j)) (le-ltb (place i + j) P high) in
                  let count : live_words image P (place i + j) ≡ held (size_at image) image.live P (place i + j) = live_words-held image sound P (place i + j) high in
                  omega arith
            ]
        | inr from ↦
            let goes : new_address image (place i) ≡ next_at image (place i) = cond-false (ltb (place i) P) (place i) (next_at image (place i)) (le-ltb (place i) P from) in
            let next = next_at-live_words i l from in
            let e : slid image (place i + j) ≡ P + live_words image P (place i + j) = cond-false (ltb (place i + j) P) (place i + j) (P + live_words image P (place i + j)) (le-ltb (place i + j) P (omega arith)) in
            let first : live_words image P (place i) ≡ held (size_at image) image.live P (place i) = live_words-held image sound P (place i) from in
            let count : live_words image P (place i + j) ≡ held (size_at image) image.live P (place i + j) = live_words-held image sound P (place i + j) (omega arith) in
            omega arith
      ]

-- ---- the moves, one for each live word

pub range_with_len-add : (b m n : ℕ) → range_with_len b (m + n) ≡ range_with_len b m ++ range_with_len (b + m) n
range_with_len-add b zero n = rw (zero-add n) (rw (add-zero b) refl)
range_with_len-add b (suc m) n =
    let e : suc m + n ≡ suc (m + n) = omega arith in
    let k : b + 1 + m ≡ b + suc m = omega arith in
    rw e (ap (λ xs. b ∷ xs) (range_with_len-add (b + 1) m n ∙ ap (λ c. range_with_len (b + 1) m ++ range_with_len c n) k))
