-- Runs of live or dead words, and whole objects at their new addresses.
use Rattle.std.proofs.Common.{◌≡◌, ℕ, ◌+◌, ◌-◌, ◌≤◌, ◌<◌, inl, inr, Bool, true, false, cond, ◌&&◌, length, get_or, refl, sym, ◌∙◌, ap, arith, ltb, add-zero, ◌∷◌, zero, suc}
use Rattle.std.proofs.lemmas.Bool.{cases_lt, cond-true, cond-false, lt-ltb, le-ltb}
use Rattle.std.specs.Prelude.{map, slice_range, Some, replicate}
use Rattle.std.specs.List.{range_with_len}
use Rattle.object_heap.specs.HeapImage.{HeapImage, HasLiveList, heap_words, word_at, size_at, end_of, region_words, region_of, start_of, is_live_word, live_words}
use Rattle.summary.specs.NewAddresses.{prefix_end, new_address, new_top}
use Rattle.summary.specs.WordMoves.{slid, origin}
use Rattle.summary.specs.RegionData.{destination, data_words}
use Rattle.summary.specs.Compaction.{compact, compacted_word, moved, moved_word, written, carried, is_reference_of, object_image, redirected_word}
use Rattle.object_heap.specs.Header.{filler_header}
use Rattle.summary.specs.Fillers.{IsDeadRun, filler_word}
use Rattle.summary.proofs.Lemmas.Addresses.{prefix_end-le}
use Rattle.summary.proofs.Lemmas.Fillers.{filler-first, filler-rest, run_inside, compacted-dead, moved-dead}
use Rattle.summary.proofs.Lemmas.Moves.{map-shifted}
use Rattle.summary.proofs.Lemmas.Destinations.{count_by-none}
use Rattle.summary.proofs.Lemmas.Origin.{origin-slid}
use Rattle.summary.proofs.Lemmas.Words.{live_words-add, live_words-le, slid-low, slid-high, slid-below, owner, live_below, slid-onto}
use Rattle.summary.proofs.Lemmas.Regions.{region_is, data_nth, slid-destination}
use Rattle.summary.proofs.Lemmas.Blocks.{count_by-all, slice_range-map-range}
use Rattle.summary.proofs.Lemmas.Steps.{top-le}
use Rattle.summary.proofs.Lemmas.Updates.{new_word, reference-owner}

module _ (image : HeapImage) where
  abbrev P : ℕ
  P = prefix_end image

  -- if all words are live they all count, and if none is, none does
  pub live_words-all : (a b : ℕ) → a ≤ b → ((q : ℕ) → a ≤ q → q < b → is_live_word image q ≡ true) → live_words image a b ≡ b - a
  live_words-all a b l h = count_by-all (is_live_word image) a (b - a) (λ q m k. h q m (omega arith))

  pub live_words-none : (a b : ℕ) → ((q : ℕ) → a ≤ q → q < b → is_live_word image q ≡ false) → live_words image a b ≡ 0
  live_words-none a b h = elim (cases_lt a b) [
    | inl less ↦ count_by-none (is_live_word image) a (b - a) (λ q m k. h q m (omega arith))
    | inr more ↦ let few = live_words-le image a b in omega arith
  ]

  -- consecutive live words go to consecutive addresses
  pub slid-run : (q n : ℕ) → ((j : ℕ) → j < n → is_live_word image (q + j) ≡ true) → slid image (q + n) ≡ slid image q + n
  slid-run q n live = elim (cases_lt q P) [
    | inl low ↦
        let s = slid-low image q low in
        elim (cases_lt (q + n) P) [
          | inl below ↦ let t = slid-low image (q + n) below in omega arith
          | inr above ↦
              let t = slid-high image (q + n) above in
              let all = live_words-all P (q + n) above (λ r l m. one r (omega arith) m) in
              omega arith
        ]
    | inr high ↦
        let s = slid-high image q high in
        let t = slid-high image (q + n) (omega arith) in
        let cut = live_words-add image P q (q + n) high (omega arith) in
        let all = live_words-all q (q + n) (omega arith) (λ r l m. one r l m) in
        omega arith
  ]
    where
      one : (r : ℕ) → q ≤ r → r < q + n → is_live_word image r ≡ true
      one r l m = let e : q + (r - q) ≡ r = omega arith in ap (is_live_word image) (sym e) ∙ live (r - q) (omega arith)

  -- dead words above the prefix end are left out
  pub slid-skip : (q r : ℕ) → P ≤ q → q ≤ r → ((x : ℕ) → q ≤ x → x < r → is_live_word image x ≡ false) → slid image r ≡ slid image q
  slid-skip q r above l dead =
      let s = slid-high image q above in
      let t = slid-high image r (omega arith) in
      let cut = live_words-add image P q r above l in
      let none = live_words-none q r dead in
      omega arith

module _ (image : HeapImage) (sound : HasLiveList image) where
  abbrev place : ℕ → ℕ
  place i = get_or image.live i 0

  -- the origin of an address to which a region's words go
  pub origin-in_region : (s k : ℕ) → prefix_end image ≤ start_of image s → k < data_words image s → (q : ℕ) × (origin image (destination image s + k) ≡ Some q) × (region_of image q ≡ s) × (live_words image (start_of image s) q ≡ k)
  origin-in_region s k above l =
      let w = data_nth image sound s k l in
      let q : ℕ = w.0 in
      let live : is_live_word image q ≡ true = w.3 in
      let to = slid-destination image sound s q above w.1 live in
      let count : live_words image (start_of image s) q ≡ k = w.4 in
      let at : slid image q ≡ destination image s + k = omega arith in
      (q, ap (origin image) (sym at) ∙ origin-slid image sound q (live_below image sound q live) live, region_is (region_words image) s q w.1 w.2, count)

  -- ---- whole objects

  new_end-le : (i : ℕ) → i < length image.live → new_address image (place i) + size_at image (place i) ≤ heap_words image
  new_end-le i l =
      let some = (sound.sound i 0 l).header in
      let j : ℕ = size_at image (place i) - 1 in
      let w = new_word image sound i j l (omega arith) in
      let to : slid image (place i + j) ≡ new_address image (place i) + j = w.1 in
      let below = slid-below image sound (place i + j) w.0 in
      let top = top-le image sound in
      omega arith

  pub carried-object : (test : ℕ → Bool) (i q : ℕ) → i < length image.live → place i ≤ q → q < end_of image (place i)
      → carried image test q ≡ cond (is_reference_of image (place i) q && test (place i)) (redirected_word image (word_at image q)) (word_at image q)
  carried-object test i q l from below = ap (λ b. cond b (redirected_word image (word_at image q)) (word_at image q)) (reference-owner image sound test i q l from below)

  pub compacted-carried : (i j : ℕ) → i < length image.live → j < size_at image (place i) → compacted_word image (new_address image (place i) + j) ≡ carried image (λ _. true) (place i + j)
  compacted-carried i j l k =
      let w = new_word image sound i j l k in
      let p : ℕ = new_address image (place i) + j in
      let below = slid-below image sound (place i + j) w.0 in
      let to : slid image (place i + j) ≡ p = w.1 in
      cond-true (ltb p (new_top image)) (written image (λ _. true) (origin image p) p) 0 (lt-ltb p (new_top image) (omega arith))
      ∙ ap (λ o. written image (λ _. true) o p) w.2

  abbrev redirected_of : ℕ → ℕ → ℕ
  redirected_of a q = cond (is_reference_of image a q) (redirected_word image (word_at image q)) (word_at image q)

  and_same : (b c : Bool) → c ≡ true → (b && c) ≡ b
  and_same true c h = h
  and_same false c h = refl

  -- the words of a list made address by address, at the addresses to which an object goes
  moved_slice : (f g : ℕ → ℕ) (i : ℕ) → i < length image.live → ((j : ℕ) → j < size_at image (place i) → f (new_address image (place i) + j) ≡ g (place i + j))
      → slice_range (map f (range_with_len 0 (heap_words image))) (new_address image (place i)) (new_address image (place i) + size_at image (place i)) ≡ map g (range_with_len (place i) (size_at image (place i)))
  moved_slice f g i l h =
      let a : ℕ = place i in
      let to : ℕ = new_address image a in
      let n : ℕ = size_at image a in
      slice_range-map-range f (heap_words image) to n (new_end-le i l)
      ∙ ap (λ c. map f (range_with_len c n)) (sym (add-zero to))
      ∙ sym (map-shifted (λ j. f (to + j)) f to 0 n (λ j z k. refl))
      ∙ map-shifted (λ j. f (to + j)) g a 0 n (λ j z k. h j (omega arith))
      ∙ ap (λ c. map g (range_with_len c n)) (add-zero a)

  -- the compacted heap has each object's image at its new address
  pub compact-object : (i : ℕ) → i < length image.live → slice_range (compact image).words (new_address image (place i)) (new_address image (place i) + size_at image (place i)) ≡ object_image image (place i)
  compact-object i l = moved_slice (compacted_word image) (redirected_of (place i)) i l (λ j k.
      let q : ℕ = place i + j in
      compacted-carried i j l k
      ∙ carried-object (λ _. true) i q l (omega arith) (omega arith)
      ∙ ap (λ b. cond b (redirected_word image (word_at image q)) (word_at image q)) (and_same (is_reference_of image (place i) q) true refl))

  pub compacted-top : (p : ℕ) → new_top image ≤ p → compacted_word image p ≡ 0
  compacted-top p l = cond-false (ltb p (new_top image)) (written image (λ _. true) (origin image p) p) 0 (le-ltb p (new_top image) l)

  -- ---- fillers and zeros as parts of the heap

  map-zeros : (f : ℕ → ℕ) (b n : ℕ) → ((p : ℕ) → b ≤ p → p < b + n → f p ≡ 0) → map f (range_with_len b n) ≡ replicate n 0
  map-zeros f b zero h = refl
  map-zeros f b (suc n) h = rw (h b (omega arith) (omega arith)) (ap (λ xs. 0 ∷ xs) (map-zeros f (b + 1) n (λ p l m. h p (omega arith) (omega arith))))

  -- a list that has the fillers' words in the place of the run
  run_slice : (f : ℕ → ℕ) (a b : ℕ) → IsDeadRun image a b → ((p : ℕ) → p < prefix_end image → is_live_word image p ≡ false → f p ≡ filler_word image p)
      → slice_range (map f (range_with_len 0 (heap_words image))) a b ≡ filler_header (b - a) ∷ replicate (b - a - 1) 0
  run_slice f a b run same =
      let some : a < b = run.some in
      let inside : b ≤ prefix_end image = run_inside image a b run in
      let low = prefix_end-le image sound in
      let n : ℕ = b - a - 1 in
      let end : a + suc n ≡ b = omega arith in
      let first : f a ≡ filler_header (b - a) = same a (omega arith) (run.dead a (omega arith) some) ∙ filler-first image a b run in
      ap (slice_range (map f (range_with_len 0 (heap_words image))) a) (sym end)
      ∙ slice_range-map-range f (heap_words image) a (suc n) (omega arith)
      ∙ ap (λ w. w ∷ map f (range_with_len (a + 1) n)) first
      ∙ ap (λ ws. filler_header (b - a) ∷ ws) (map-zeros f (a + 1) n (λ p l m. same p (omega arith) (run.dead p (omega arith) (omega arith)) ∙ filler-rest image a b p run (omega arith) (omega arith)))

  pub compact-filler : (a b : ℕ) → IsDeadRun image a b → slice_range (compact image).words a b ≡ filler_header (b - a) ∷ replicate (b - a - 1) 0
  compact-filler a b run = run_slice (compacted_word image) a b run (compacted-dead image sound)

  pub moved-filler : (a b : ℕ) → IsDeadRun image a b → slice_range (moved image).words a b ≡ filler_header (b - a) ∷ replicate (b - a - 1) 0
  moved-filler a b run = run_slice (moved_word image) a b run (moved-dead image sound)

  pub compact-zeros : slice_range (compact image).words (new_top image) (heap_words image) ≡ replicate (heap_words image - new_top image) 0
  compact-zeros =
      let top = top-le image sound in
      let n : ℕ = heap_words image - new_top image in
      let end : new_top image + n ≡ heap_words image = omega arith in
      ap (slice_range (compact image).words (new_top image)) (sym end)
      ∙ slice_range-map-range (compacted_word image) (heap_words image) (new_top image) n (omega arith)
      ∙ map-zeros (compacted_word image) (new_top image) n (λ p l m. compacted-top p l)

  -- each address below the new top belongs to one object at its new address, or to a dead run
  pub place-of : (p : ℕ) → prefix_end image ≤ p → p < new_top image → (i : ℕ) × (i < length image.live) × (new_address image (place i) ≤ p) × (p < new_address image (place i) + size_at image (place i))
  place-of p l m =
      let w = slid-onto image sound p l m in
      let q : ℕ = w.0 in
      let live : is_live_word image q ≡ true = w.2 in
      let to : slid image q ≡ p = w.3 in
      let o = owner image sound q live in
      let i : ℕ = o.0 in
      let low : place i ≤ q = o.2 in
      let high : q < end_of image (place i) = o.3 in
      let j : ℕ = q - place i in
      let v = new_word image sound i j o.1 (omega arith) in
      let at : place i + j ≡ q = omega arith in
      let goes : slid image q ≡ new_address image (place i) + j = ap (slid image) (sym at) ∙ v.1 in
      (i, o.1, omega arith, omega arith)
