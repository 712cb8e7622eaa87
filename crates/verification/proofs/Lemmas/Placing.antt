-- The live objects of an image and their new addresses.
use Rattle.std.proofs.Common.{◌≡◌, ℕ, zero, suc, ◌+◌, ◌-◌, ◌≤◌, ◌<◌, inl, inr, true, false, List, [], ◌∷◌, length, get_or, drop, refl, sym, ◌∙◌, ap, subst, arith, ltb}
use Rattle.std.specs.Prelude.{slice_range, fold, replicate, nat_lt, nat_le, if◌then◌else◌}
use Rattle.std.proofs.lemmas.Bool.{cases_Bool, cond-true, cond-false, lt-ltb, le-ltb, le-leb, ltb-true, leb-true, and_from, and_parts, false_from_ne_true}
use Rattle.std.proofs.lemmas.List.{get_or-drop, get_or-take, get_or-replicate}
use Rattle.std.proofs.lemmas.List.FromFn.{get_or-map-range_with_len}
use Rattle.object_heap.specs.HeapImage.{HeapImage, heap_words, word_at, size_at, references_at, end_of, is_live_word, is_null_or_live, live_words}
use Rattle.summary.specs.LiveObjects.{object_count, object_at}
use Rattle.summary.specs.NewAddresses.{prefix_end, new_address, new_end_of, new_top, next_at}
use Rattle.summary.specs.WordMoves.{slid}
use Rattle.object_heap.specs.Header.{filler_header}
use Rattle.summary.specs.Compaction.{is_reference_of, redirected, redirected_word, compacted_word, compact}
use Rattle.verification.specs.Compared.{IsGap, IsPlaced, AreKnown, behind}
use Rattle.verification.proofs.Lemmas.Joined.{AreWanted}
use Rattle.verification.proofs.Lemmas.Gaps.{ArePlaced, behind-zero, behind-suc, behind_low, gap_low, gap_empty, gap_begins, low_stays, top_low}

pub part_at : (xs : List ℕ) (a b j : ℕ) → j < b - a → get_or (slice_range xs a b) j 0 ≡ get_or xs (a + j) 0
part_at xs a b j l = get_or-take (b - a) (drop a xs) j 0 l ∙ get_or-drop a xs j 0

fold_last : (f : ℕ → ℕ) (z x : ℕ) (xs : List ℕ) → fold (λ _ a. f a) z (x ∷ xs) ≡ f (get_or (x ∷ xs) (length xs) 0)
fold_last f z x [] = refl
fold_last f z x (y ∷ ys) = fold_last f (f x) y ys

fold_behind : (f : ℕ → ℕ) (xs : List ℕ) → fold (λ _ a. f a) 0 xs ≡ behind (λ i. f (get_or xs i 0)) (length xs)
fold_behind f [] = sym (behind-zero (λ i. f (get_or [] i 0)))
fold_behind f (x ∷ xs) = fold_last f 0 x xs ∙ sym (behind-suc (λ i. f (get_or (x ∷ xs) i 0)) (length xs))

module _ (image : HeapImage) where
  abbrev at : ℕ → ℕ
  at i = object_at image i

  abbrev size : ℕ → ℕ
  size i = size_at image (at i)

  abbrev place : ℕ → ℕ
  place i = new_address image (at i)

  abbrev pub place_end : ℕ → ℕ
  place_end i = new_end_of image (at i)

  slid_high : (q : ℕ) → prefix_end image ≤ q → prefix_end image ≤ slid image q
  slid_high q h =
      let to : ℕ = prefix_end image + live_words image (prefix_end image) q in
      let is : slid image q ≡ to = cond-false (ltb q (prefix_end image)) q to (le-ltb q (prefix_end image) h) in
      let low : prefix_end image ≤ to = omega arith in
      subst (λ n. prefix_end image ≤ n) (sym is) low

  module _ (known : AreKnown image) where
    sized : (i : ℕ) → i < object_count image → 0 < size i
    sized i l = (known.valid.live_list.sound i 0 l).header

    goes_high : (i : ℕ) → i < object_count image → prefix_end image ≤ at i → prefix_end image ≤ place i
    goes_high i l h =
        let counted = known.counted i 0 l (sized i l) in
        let one : at i + 0 ≡ at i = omega arith in
        let two : place i + 0 ≡ place i = omega arith in
        let is : place i ≡ slid image (at i) = sym two ∙ counted ∙ ap (slid image) one in
        subst (λ n. prefix_end image ≤ n) (sym is) (slid_high (at i) h)

    pub placed : ArePlaced (object_count image) (prefix_end image) (new_top image) at size place
    placed = record {
      some = sized;
      stays = λ i l h. cond-true (ltb (at i) (prefix_end image)) (at i) (next_at image (at i)) (lt-ltb (at i) (prefix_end image) h);
      goes = goes_high;
      ordered = known.ordered;
      apart = known.apart;
      covered = known.covered;
      below = known.below;
      last = subst (λ n. prefix_end image ≤ n) (fold_behind (end_of image) image.live) known.below_end;
    }

    pub is_placed : (i : ℕ) → i < object_count image → IsPlaced image (at i) (place i)
    is_placed i l = record {
      valid = known.valid;
      sound = known.valid.live_list.sound i 0 l;
      references = λ f h. subst (λ w. is_null_or_live image w ≡ true) (known.own.leads (word_at image (at i + 1 + f))) (known.valid.live_list.references i 0 l f h);
      inside = within (place_end i) (new_top image) (heap_words image) (known.below i l) known.top;
      words = words;
    }
      where
        within : (a b c : ℕ) → a ≤ b → b ≤ c → a ≤ c
        within a b c h k = omega (arith, h, k)

        words : (j : ℕ) → j < size i → word_at (compact image) (place i + j) ≡ (if is_reference_of image (at i) (at i + j) then redirected image (word_at image (at i + j)) else word_at image (at i + j))
        words j m =
            let long : (p n : ℕ) → j < n → j < p + n - p = λ p n h. omega (arith, h) in
            sym (part_at (compact image).words (place i) (place_end i) j (long (place i) (size i) m))
            ∙ ap (λ xs. get_or xs j 0) (known.object i l)
            ∙ get_or-map-range_with_len (λ q. if is_reference_of image (at i) q then redirected_word image (word_at image q) else word_at image q) (at i) (size i) j (at i + j) 0 m refl
            ∙ ap (λ w. if is_reference_of image (at i) (at i + j) then w else word_at image (at i + j)) (known.own.redirects (word_at image (at i + j)))

    pub is_gap : (i : ℕ) → i < object_count image → behind place_end i < place i → IsGap image (behind place_end i) (place i)
    is_gap i l some = record {
      some = some;
      inside = gap_low (object_count image) (prefix_end image) (new_top image) at size place placed i l some;
      dead = λ q from to. elim (cases_Bool (is_live_word image q)) [
        | inl live ↦
            let owner = known.owner q live in
            absurd (gap_empty (object_count image) (prefix_end image) (new_top image) at size place placed i l q from to owner.0 owner.1 owner.2 owner.3)
        | inr dead ↦ dead
      ];
      begins = λ high.
          let owner = gap_begins (object_count image) (prefix_end image) (new_top image) at size place placed i l some high in
          known.live owner.0 (behind place_end i - 1) owner.1 owner.2 owner.3;
      ends = λ high.
          let stays = low_stays (object_count image) (prefix_end image) (new_top image) at size place placed i l high in
          known.live i (place i) l (from (place i) (at i) stays) (to (place i) (at i) (size i) stays (sized i l));
    }
      where
        from : (p a : ℕ) → p ≡ a → a ≤ p
        from p a e = omega (arith, e)

        to : (p a s : ℕ) → p ≡ a → 0 < s → p < a + s
        to p a s e h = omega (arith, e, h)

    pub behind_place : (i : ℕ) → i < object_count image → behind place_end i ≤ place i
    behind_place i l = behind_low (object_count image) (prefix_end image) (new_top image) at size place placed i l

    pub top_reached : new_top image ≤ behind place_end (object_count image)
    top_reached = top_low (object_count image) (prefix_end image) (new_top image) at size place placed

    pub end_inside : behind place_end (object_count image) ≤ heap_words image
    end_inside = inside (object_count image) refl
      where
        within : (a b c : ℕ) → a ≤ b → b ≤ c → a ≤ c
        within a b c h k = omega (arith, h, k)

        inside : (m : ℕ) → m ≡ object_count image → behind place_end m ≤ heap_words image
        inside zero e = subst (λ n. n ≤ heap_words image) (sym (behind-zero place_end)) (omega arith)
        inside (suc m) e =
            let l : m < object_count image = omega (arith, e) in
            subst (λ n. n ≤ heap_words image) (sym (behind-suc place_end m)) (within (place_end m) (new_top image) (heap_words image) (known.below m l) known.top)

-- the word at an address of the compaction, by its definition
pub compact_word : (image : HeapImage) (p : ℕ) → p < heap_words image → word_at (compact image) p ≡ compacted_word image p
compact_word image p l = get_or-map-range_with_len (compacted_word image) 0 (heap_words image) p p 0 l (omega arith)

pub zeros_above : (image : HeapImage) (top n : ℕ) → new_top image ≤ top → n ≡ heap_words image - top
    → ((p : ℕ) → new_top image ≤ p → compacted_word image p ≡ 0) → AreWanted image (λ _. 0) top n
zeros_above image top n above is zeros = record {
  word = λ j l.
      compact_word image (top + j) (inside (heap_words image) j is l) ∙ zeros (top + j) (higher (new_top image) j above);
}
  where
    inside : (words j : ℕ) → n ≡ words - top → j < n → top + j < words
    inside words j e l = omega (arith, e, l)

    higher : (a j : ℕ) → a ≤ top → a ≤ top + j
    higher a j h = omega (arith, h)

module _ (image : HeapImage) (a b : ℕ) (some : a < b) (run : slice_range (compact image).words a b ≡ filler_header (b - a) ∷ replicate (b - a - 1) 0) where
  pub filler_first : word_at (compact image) a ≡ filler_header (b - a)
  filler_first =
      let at : a + 0 ≡ a = omega arith in
      let l : 0 < b - a = omega (arith, some) in
      ap (word_at (compact image)) (sym at) ∙ sym (part_at (compact image).words a b 0 l) ∙ ap (λ xs. get_or xs 0 0) run

  pub filler_zeros : AreWanted image (λ _. 0) (a + 1) (b - a - 1)
  filler_zeros = record {
    word = λ j l.
        let at : a + suc j ≡ a + 1 + j = omega arith in
        let m : suc j < b - a = omega (arith, l) in
        ap (word_at (compact image)) (sym at) ∙ sym (part_at (compact image).words a b (suc j) m) ∙ ap (λ xs. get_or xs (suc j) 0) run
        ∙ get_or-replicate (b - a - 1) j 0 0 l;
  }

module _ (image : HeapImage) (a place : ℕ) (placed : IsPlaced image a place) where
  no_reference : (q : ℕ) → (a < q → q ≤ a + references_at image a → ⊥) → is_reference_of image a q ≡ false
  no_reference q h = false_from_ne_true (is_reference_of image a q) (λ e.
      let both = and_parts (nat_lt a q) (nat_le q (a + references_at image a)) e in
      h (ltb-true a q both.0) (leb-true q (a + references_at image a) both.1))

  pub header_word : word_at (compact image) place ≡ word_at image a
  header_word =
      let at : place + 0 ≡ place = omega arith in
      let from : a + 0 ≡ a = omega arith in
      ap (word_at (compact image)) (sym at) ∙ placed.words 0 placed.sound.header
      ∙ cond-false (is_reference_of image a (a + 0)) (redirected image (word_at image (a + 0))) (word_at image (a + 0)) (no_reference (a + 0) (λ h _. low h))
      ∙ ap (word_at image) from
    where
      low : a < a + 0 → ⊥
      low h = omega (arith, h)

  pub reference_word : (f : ℕ) → f < references_at image a → word_at (compact image) (place + 1 + f) ≡ redirected image (word_at image (a + 1 + f))
  reference_word f l =
      let at : place + (1 + f) ≡ place + 1 + f = omega arith in
      let from : a + (1 + f) ≡ a + 1 + f = omega arith in
      ap (word_at (compact image)) (sym at) ∙ placed.words (1 + f) (within (references_at image a) (size_at image a) l placed.sound.references)
      ∙ cond-true (is_reference_of image a (a + (1 + f))) (redirected image (word_at image (a + (1 + f)))) (word_at image (a + (1 + f)))
      (and_from (nat_lt a (a + (1 + f))) (nat_le (a + (1 + f)) (a + references_at image a)) (lt-ltb a (a + (1 + f)) low) (le-leb (a + (1 + f)) (a + references_at image a) (high (references_at image a) l)))
      ∙ ap (λ q. redirected image (word_at image q)) from
    where
      within : (r s : ℕ) → f < r → r < s → 1 + f < s
      within r s h k = omega (arith, h, k)

      low : a < a + (1 + f)
      low = omega arith

      high : (r : ℕ) → f < r → a + (1 + f) ≤ a + r
      high r h = omega (arith, h)

  pub data_words : (done left : ℕ) → done ≡ 1 + references_at image a → left ≡ size_at image a - done → AreWanted image (λ j. word_at image (a + done + j)) (place + done) left
  data_words done left is rest = record {
    word = λ j l.
        let at : place + (done + j) ≡ place + done + j = omega arith in
        let from : a + (done + j) ≡ a + done + j = omega arith in
        ap (word_at (compact image)) (sym at) ∙ placed.words (done + j) (within (size_at image a) j rest l)
        ∙ cond-false (is_reference_of image a (a + (done + j))) (redirected image (word_at image (a + (done + j)))) (word_at image (a + (done + j))) (no_reference (a + (done + j)) (λ _ h. high (references_at image a) j is h))
        ∙ ap (word_at image) from;
  }
    where
      within : (s j : ℕ) → left ≡ s - done → j < left → done + j < s
      within s j e l = omega (arith, e, l)

      high : (r j : ℕ) → done ≡ 1 + r → a + (done + j) ≤ a + r → ⊥
      high r j e h = omega (arith, e, h)

-- a new address that the code computes, by the index of the object
pub place_of : (image plan : HeapImage) (items : List ℕ) (i r : ℕ) → plan ≡ image → items ≡ image.live → r ≡ new_address plan (get_or items i 0) → r ≡ new_address image (object_at image i)
place_of image plan items i r p q e = e ∙ ap (λ (m : HeapImage). new_address m (get_or items i 0)) p ∙ ap (λ (l : List ℕ). new_address image (get_or l i 0)) q

pub end_of_place : (image : HeapImage) (items : List ℕ) (i place words : ℕ) → items ≡ image.live → place ≡ new_address image (object_at image i) → words ≡ size_at image (get_or items i 0)
    → place + words ≡ new_end_of image (object_at image i)
end_of_place image items i place words q e f = ap (λ n. place + n) (f ∙ ap (λ (l : List ℕ). size_at image (get_or l i 0)) q) ∙ ap (λ n. n + size_at image (object_at image i)) e
