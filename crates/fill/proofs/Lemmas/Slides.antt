-- New addresses of runs of live words, and the words there.
use Rattle.std.proofs.Common.{◌≡◌, ℕ, zero, suc, ◌+◌, ◌-◌, ◌≤◌, ◌<◌, Bool, true, false, ◌&&◌, List, [], ◌∷◌, length, get_or, refl, sym, ◌∙◌, ap, subst, arith, ltb}
use Rattle.std.proofs.lemmas.Bool.{cond-true, cond-false, lt-ltb, le-ltb, and_right}
use Rattle.std.specs.Prelude.{Some, Option}
use Rattle.std.specs.List.{list_any}
use Rattle.object_heap.specs.HeapImage.{HeapImage, HasLiveList, heap_words, word_at, is_live_word, live_words}
use Rattle.summary.specs.NewAddresses.{prefix_end, new_top}
use Rattle.summary.specs.WordMoves.{slid, origin}
use Rattle.summary.specs.Compaction.{written, carried, is_reference_of, redirected_word}
use Rattle.summary.specs.PlanLaws.{PlanLaws}
use Rattle.fill.proofs.Lemmas.Lists.{count_by-more_yes, count_by-none}
use Rattle.raw_region.specs.Region.{part, with_words as put}
use Rattle.fill.specs.WordBlocks.{IsSplitAt, Shows}
use Rattle.summary.specs.Compaction.{word_by}
use Rattle.fill.specs.CopiedWords.{copied_word}
use Rattle.fill.specs.SlidWords.{held_word, word_from, slid_word}
use Rattle.fill.proofs.Lemmas.Writing.{split_more, length-part, get_or-part}

module _ (law : PlanLaws) (image : HeapImage) where
  abbrev B : ℕ
  B = prefix_end image

  pub live_words-none : (a b : ℕ) → a ≤ b → ((q : ℕ) → a ≤ q → q < b → is_live_word image q ≡ false) → live_words image a b ≡ 0
  live_words-none a b l dead = count_by-none (is_live_word image) a (b - a) (λ q m n. dead q m (omega arith))

  pub live_words-run : (a n : ℕ) → ((q : ℕ) → a ≤ q → q < a + n → is_live_word image q ≡ true) → live_words image a (a + n) ≡ n
  live_words-run a zero live = let few = law.live_words-le image a (a + 0) in omega arith
  live_words-run a (suc n) live =
      let e : a + suc n ≡ a + n + 1 = omega arith in
      let before = live_words-run a n (λ q l m. live q l (omega arith)) in
      let more : live_words image a (a + n + 1) ≡ live_words image a (a + n) + 1 = count_by-more_yes (is_live_word image) a (a + n) (omega arith) (live (a + n) (omega arith) (omega arith)) in
      ap (live_words image a) e ∙ omega arith

  pub slid-from : (a b : ℕ) → B ≤ a → a ≤ b → slid image b ≡ slid image a + live_words image a b
  slid-from a b l m =
      let one = law.slid-high image a l in
      let two = law.slid-high image b (omega arith) in
      let cut = law.live_words-add image B a b l m in
      omega arith

  pub slid-gap : (a b : ℕ) → B ≤ a → a ≤ b → ((q : ℕ) → a ≤ q → q < b → is_live_word image q ≡ false) → slid image b ≡ slid image a
  slid-gap a b l m dead = let e = slid-from a b l m in let none = live_words-none a b m dead in omega arith

  pub slid-run : (a n : ℕ) → B ≤ a → ((q : ℕ) → a ≤ q → q < a + n → is_live_word image q ≡ true) → slid image (a + n) ≡ slid image a + n
  slid-run a n l live = let e = slid-from a (a + n) l (omega arith) in let some = live_words-run a n live in omega arith

  -- past the dead words before a run, and past n words of it
  pub slid-past : (from a n to : ℕ) → B ≤ from → from ≤ a → to ≡ slid image from → ((q : ℕ) → from ≤ q → q < a → is_live_word image q ≡ false)
      → ((q : ℕ) → a ≤ q → q < a + n → is_live_word image q ≡ true) → (to ≡ slid image a) × (to + n ≡ slid image (a + n))
  slid-past from a n to l m e dead live =
      let gap = slid-gap from a l m dead in
      let run = slid-run a n (omega arith) live in
      (omega arith, omega arith)

  pub slid-monotone : (a b : ℕ) → B ≤ a → a ≤ b → slid image a ≤ slid image b
  slid-monotone a b l m = let e = slid-from a b l m in omega arith

  pub carried-none : (q : ℕ) → carried image (λ _. false) q ≡ word_at image q
  carried-none q = cond-false (list_any (λ a. is_reference_of image a q && false) image.live) (redirected_word image (word_at image q)) (word_at image q) (none image.live)
    where
      none : (xs : List ℕ) → list_any (λ a. is_reference_of image a q && false) xs ≡ false
      none [] = refl
      none (x ∷ xs) = rw (and_right (is_reference_of image x q) false refl) (none xs)

  pub word_by-above : (test : ℕ → Bool) (p : ℕ) → new_top image ≤ p → word_by image test p ≡ word_at image p
  word_by-above test p l = cond-false (ltb p (new_top image)) (written image test (origin image p) p) (word_at image p) (le-ltb p (new_top image) l)

  pub word_by-below : (test : ℕ → Bool) (p : ℕ) (o : Option ℕ) → p < new_top image → origin image p ≡ o → word_by image test p ≡ written image test o p
  word_by-below test p o l e = cond-true (ltb p (new_top image)) (written image test (origin image p) p) (word_at image p) (lt-ltb p (new_top image) l) ∙ ap (λ o. written image test o p) e

module _ (image : HeapImage) (held : ℕ → List ℕ) where
  pub slid_word-above : (p : ℕ) → new_top image ≤ p → slid_word image held p ≡ held_word image held p
  slid_word-above p l = cond-false (ltb p (new_top image)) (word_from image held (origin image p) p) (held_word image held p) (le-ltb p (new_top image) l)

  pub slid_word-below : (p : ℕ) (o : Option ℕ) → p < new_top image → origin image p ≡ o → slid_word image held p ≡ word_from image held o p
  slid_word-below p o l e = cond-true (ltb p (new_top image)) (word_from image held (origin image p) p) (held_word image held p) (lt-ltb p (new_top image) l) ∙ ap (λ o. word_from image held o p) e

module _ (law : PlanLaws) (image : HeapImage) (sound : HasLiveList image) where
  pub slid-all : slid image (heap_words image) ≡ new_top image
  slid-all = let e = law.new_top-live_words image sound in let l = law.prefix_end-le image sound in law.slid-high image (heap_words image) l ∙ sym e

  pub word_by-slid : (test : ℕ → Bool) (q : ℕ) → is_live_word image q ≡ true → word_by image test (slid image q) ≡ carried image test q
  word_by-slid test q live = word_by-below law image test (slid image q) (Some q) (law.slid-below image sound q live) (law.origin-slid image sound q (law.live_below image sound q live) live)

  -- the new address of a live word gets that word
  pub copied-slid : (q : ℕ) → is_live_word image q ≡ true → copied_word image (slid image q) ≡ word_at image q
  copied-slid q live = word_by-slid (λ _. false) q live ∙ carried-none law image q

module _ (law : PlanLaws) (image : HeapImage) (sound : HasLiveList image) (held : ℕ → List ℕ) where
  abbrev P : ℕ
  P = prefix_end image

  abbrev f : ℕ → ℕ
  f = slid_word image held

  abbrev g : ℕ → ℕ
  g = held_word image held

  -- the new address of a live word gets the word that is held there
  pub slid_word-slid : (q : ℕ) → is_live_word image q ≡ true → f (slid image q) ≡ g q
  slid_word-slid q live = slid_word-below image held (slid image q) (Some q) (law.slid-below image sound q live) (law.origin-slid image sound q (law.live_below image sound q live) live)

  -- so the new addresses of a run get its words
  pub slid_word-run : (a n p : ℕ) → P ≤ a → p ≡ slid image a → ((q : ℕ) → a ≤ q → q < a + n → is_live_word image q ≡ true) → (j : ℕ) → j < n → f (p + j) ≡ g (a + j)
  slid_word-run a n p l e live j m =
      let to = slid-run law image a j l (λ q b c. live q b (omega arith)) in
      let same : p + j ≡ slid image (a + j) = omega arith in
      ap f same ∙ slid_word-slid (a + j) (live (a + j) (omega arith) (omega arith))

  -- a run of live words written at its new address
  pub split_run : (start : ℕ) (xs zs : List ℕ) (a n p : ℕ) → IsSplitAt f g start xs p → P ≤ a → p ≡ slid image a
      → ((q : ℕ) → a ≤ q → q < a + n → is_live_word image q ≡ true) → start ≤ p → p + n ≤ start + length xs
      → length zs ≡ n → ((j : ℕ) → j < n → get_or zs j 0 ≡ g (a + j)) → IsSplitAt f g start (put xs (p - start) zs) (p + n)
  split_run start xs zs a n p h l e live low high long each =
      let same : p + length zs ≡ p + n = omega arith in
      subst (IsSplitAt f g start (put xs (p - start) zs)) same
      (split_more f g start xs zs p h low (omega arith) (λ j m. each j (omega arith) ∙ sym (slid_word-run a n p l e live j (omega arith))))

  -- the same for a part of a source that begins at `first`
  pub split_copy : (start : ℕ) (xs : List ℕ) (first : ℕ) (ys : List ℕ) (a n p : ℕ) → IsSplitAt f g start xs p → Shows g first ys → P ≤ a → p ≡ slid image a
      → ((q : ℕ) → a ≤ q → q < a + n → is_live_word image q ≡ true) → start ≤ p → p + n ≤ start + length xs → first ≤ a → a + n ≤ first + length ys
      → IsSplitAt f g start (put xs (p - start) (part ys (a - first) n)) (p + n)
  split_copy start xs first ys a n p h shows l e live low high under over =
      split_run start xs (part ys (a - first) n) a n p h l e live low high (length-part ys (a - first) n (omega arith)) (λ j m.
      let same : first + (a - first + j) ≡ a + j = omega arith in
      get_or-part ys (a - first) n j m ∙ shows (a - first + j) (omega arith) ∙ ap g same)

  -- the same for words of the block itself that are not yet overwritten
  pub split_slide : (start : ℕ) (xs : List ℕ) (a n p : ℕ) → IsSplitAt f g start xs p → P ≤ a → p ≡ slid image a
      → ((q : ℕ) → a ≤ q → q < a + n → is_live_word image q ≡ true) → start ≤ p → a + n ≤ start + length xs
      → IsSplitAt f g start (put xs (p - start) (part xs (a - start) n)) (p + n)
  split_slide start xs a n p h l e live low over =
      let down = law.slid-le image a in
      split_run start xs (part xs (a - start) n) a n p h l e live low (omega arith) (length-part xs (a - start) n (omega arith)) (λ j m.
      let same : start + (a - start + j) ≡ a + j = omega arith in
      get_or-part xs (a - start) n j m ∙ h.above (a - start + j) (omega arith) (omega arith) ∙ ap g same)
