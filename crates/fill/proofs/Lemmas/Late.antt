-- The references of the deferred objects, as they are redirected region by region.
use Rattle.std.proofs.Common.{◌≡◌, ℕ, ◌+◌, ◌-◌, ◌≤◌, ◌<◌, inl, inr, ◌⊎◌, Bool, true, false, cond, ◌&&◌, ◌||◌, List, map, [], ◌∷◌, ◌++◌, length, get_or, refl, sym, ◌∙◌, ap, subst, arith, ltb, leb}
use Rattle.std.specs.Prelude.{Some, None, Option}
use Rattle.std.specs.List.{range_with_len, list_any}
use Rattle.std.proofs.Math.Nat.{zero-add}
use Rattle.std.proofs.lemmas.Bool.{cases_lt, true≢false, and_parts, and_from, or_from, lt-ltb, le-leb, ltb-true, leb-true, le-ltb, and_left, and_right, false_from_ne_true}
use Rattle.std.proofs.lemmas.List.{ext_get_or, length-map, get_or-map}
use Rattle.std.proofs.lemmas.List.Folds.{list_any-append, list_any_at, Any-from_list_any}
use Rattle.std.proofs.lemmas.List.FromFn.{get_or-map-range_with_len, length-map-range_with_len, get_or-range_with_len, length-range_with_len}
use Rattle.raw_region.specs.Region.{with_words, part}
use Rattle.object_heap.specs.Layout.{references_in, reference_in}
use Rattle.object_heap.specs.HeapImage.{HeapImage, HasLiveList, word_at, references_at, is_null_or_live}
use Rattle.summary.specs.NewAddresses.{new_address}
use Rattle.summary.specs.Compaction.{moved_word, redirected_word, is_deferred}
use Rattle.summary.specs.RegionData.{deferred}
use Rattle.summary.specs.Updates.{is_late_reference}
use Rattle.fill.proofs.Lemmas.Lists.{range_with_len-add}
use Rattle.fill.proofs.Lemmas.Writing.{length-part, length-with_words, get_or-part, get_or-written_below, get_or-written_at, get_or-written_above}
use Rattle.fill.specs.MovedHeap.{redirected_where, is_reference_behind, is_late_behind, is_late_before}

same_Bool : (b c : Bool) → (b ≡ true → c ≡ true) → (c ≡ true → b ≡ true) → b ≡ c
same_Bool true c f g = sym (f refl)
same_Bool false true f g = g refl
same_Bool false false f g = refl

pub or_false : (b : Bool) → (b || false) ≡ b
or_false true = refl
or_false false = refl

module _ (image : HeapImage) where
  -- the n words from address a up, redirected where the test passes
  module _ (a n : ℕ) where
    abbrev words_by : (ℕ → Bool) → List ℕ
    words_by test = map (redirected_where image test) (range_with_len a n)

    pub length-words : (test : ℕ → Bool) → length (words_by test) ≡ n
    length-words test = length-map-range_with_len (redirected_where image test) a n

    pub words_at : (test : ℕ → Bool) (k : ℕ) → k < n → get_or (words_by test) k 0 ≡ redirected_where image test (a + k)
    words_at test k l = get_or-map-range_with_len (redirected_where image test) a n k (a + k) 0 l refl

    -- a word that the test does not pass is a moved one
    pub words_not : (test : ℕ → Bool) (k : ℕ) → k < n → test (a + k) ≡ false → get_or (words_by test) k 0 ≡ moved_word image (a + k)
    words_not test k l e = words_at test k l ∙ ap (λ b. cond b (redirected_word image (moved_word image (a + k))) (moved_word image (a + k))) e

    -- tests that agree on these addresses
    pub words_same : (test next : ℕ → Bool) → ((p : ℕ) → a ≤ p → p < a + n → test p ≡ next p) → words_by test ≡ words_by next
    words_same test next h =
        let one = length-words test in
        let two = length-words next in
        ext_get_or 0 (words_by test) (words_by next) (omega arith) (λ k l.
        let m : k < n = omega arith in
        words_at test k m ∙ ap (λ b. cond b (redirected_word image (moved_word image (a + k))) (moved_word image (a + k))) (h (a + k) (omega arith) (omega arith)) ∙ sym (words_at next k m))

    -- m more references are redirected
    pub words_row : (test next : ℕ → Bool) (p m : ℕ) → p + m ≤ n → (f : ℕ → ℕ)
        → ((k : ℕ) → p ≤ k → k < p + m → (test (a + k) ≡ false) × (next (a + k) ≡ true) × (f (moved_word image (a + k)) ≡ redirected_word image (moved_word image (a + k))))
        → ((k : ℕ) → (k < p) ⊎ (p + m ≤ k) → test (a + k) ≡ next (a + k))
        → with_words (words_by test) p (map f (part (words_by test) p m)) ≡ words_by next
    words_row test next p m l f here others =
        let two : length (words_by next) ≡ n = length-words next in
        let four = length-with_words (words_by test) (map f (part (words_by test) p m)) p (let one = length-words test in let three = long in omega arith) in
        let one : length (words_by test) ≡ n = length-words test in
        ext_get_or 0 (with_words (words_by test) p (map f (part (words_by test) p m))) (words_by next) (omega arith) (λ k few. each k (omega arith))
      where
        long : length (map f (part (words_by test) p m)) ≡ m
        long = let one = length-words test in length-map (part (words_by test) p m) f ∙ length-part (words_by test) p m (omega arith)

        same : (k : ℕ) → k < n → (k < p) ⊎ (p + m ≤ k) → get_or (words_by test) k 0 ≡ get_or (words_by next) k 0
        same k few out =
            words_at test k few ∙ ap (λ b. cond b (redirected_word image (moved_word image (a + k))) (moved_word image (a + k))) (others k out) ∙ sym (words_at next k few)

        each : (k : ℕ) → k < n → get_or (with_words (words_by test) p (map f (part (words_by test) p m))) k 0 ≡ get_or (words_by next) k 0
        each k few =
            let one : length (words_by test) ≡ n = length-words test in
            let three : length (map f (part (words_by test) p m)) ≡ m = long in
            elim (cases_lt k p) [
              | inl low ↦ get_or-written_below (words_by test) (map f (part (words_by test) p m)) p k (omega arith) low ∙ same k few (inl low)
              | inr high ↦ elim (cases_lt k (p + m)) [
                | inl in_row ↦
                    let j : ℕ = k - p in
                    let is : k ≡ p + j = omega arith in
                    let less : j < m = omega arith in
                    let has = here k high in_row in
                    get_or-written_at (words_by test) (map f (part (words_by test) p m)) p k j (omega arith) is (omega arith)
                    ∙ get_or-map f (part (words_by test) p m) j 0 0 (let some = length-part (words_by test) p m (omega arith) in omega arith)
                    ∙ ap f (get_or-part (words_by test) p m j less ∙ ap (λ i. get_or (words_by test) i 0) (sym is) ∙ words_not test k few has.0)
                    ∙ has.2
                    ∙ sym (words_at next k few ∙ ap (λ b. cond b (redirected_word image (moved_word image (a + k))) (moved_word image (a + k))) has.1)
                | inr above ↦ get_or-written_above (words_by test) (map f (part (words_by test) p m)) p k (omega arith) (omega arith) ∙ same k few (inr above)
              ]
            ]

  abbrev late_in : ℕ → ℕ → Bool
  late_in p e = is_late_behind image (deferred image e) p

  pub late-next : (d p : ℕ) (o : Option ℕ) → deferred image d ≡ o → is_late_before image (d + 1) p ≡ (is_late_before image d p || is_late_behind image o p)
  late-next d p o e =
      ap (list_any (late_in p)) (range_with_len-add 0 d 1)
      ∙ ap (λ n. list_any (late_in p) (range_with_len 0 d ++ range_with_len n 1)) (zero-add d)
      ∙ list_any-append (late_in p) (range_with_len 0 d) (d ∷ [])
      ∙ ap (λ b. list_any (late_in p) (range_with_len 0 d) || b) (or_false (late_in p d) ∙ ap (λ o. is_late_behind image o p) e)

  pub behind-from : (x p : ℕ) → x < p → p ≤ x + references_in image.layout (moved_word image x) → is_reference_behind image x p ≡ true
  behind-from x p l m = and_from (ltb x p) (leb p (x + references_in image.layout (moved_word image x))) (lt-ltb x p l) (le-leb p (x + references_in image.layout (moved_word image x)) m)

  pub behind-parts : (x p : ℕ) → is_reference_behind image x p ≡ true → (x < p) × (p ≤ x + references_in image.layout (moved_word image x))
  behind-parts x p h =
      let both = and_parts (ltb x p) (leb p (x + references_in image.layout (moved_word image x))) h in
      (ltb-true x p both.0, leb-true p (x + references_in image.layout (moved_word image x)) both.1)

  some_behind : (o : Option ℕ) (p : ℕ) → is_late_behind image o p ≡ true → (x : ℕ) × (o ≡ Some x) × (x < p) × (p ≤ x + references_in image.layout (moved_word image x))
  some_behind None p h = absurd (true≢false (sym h))
  some_behind (Some x) p h = let both = behind-parts x p h in (x, refl, both.0, both.1)

  pub late-parts : (d p : ℕ) → is_late_before image d p ≡ true → (e : ℕ) × (x : ℕ) × (e < d) × (deferred image e ≡ Some x) × (x < p) × (p ≤ x + references_in image.layout (moved_word image x))
  late-parts d p h =
      let at = Any-from_list_any (late_in p) (range_with_len 0 d) h in
      let long = length-range_with_len 0 d in
      let l : at.0 < length (range_with_len 0 d) = at.2 in
      let m : at.0 < d = omega arith in
      let is : at.0 ≡ at.1 = sym (zero-add at.0) ∙ sym (get_or-range_with_len 0 d at.0 at.1 m) ∙ at.3 in
      let some = some_behind (deferred image at.0) p (ap (late_in p) is ∙ at.4) in
      (at.0, some.0, m, some.1, some.2, some.3)

  pub late-from : (d p e x : ℕ) → e < d → deferred image e ≡ Some x → x < p → p ≤ x + references_in image.layout (moved_word image x) → is_late_before image d p ≡ true
  late-from d p e x l is m n =
      let long = length-range_with_len 0 d in
      list_any_at (late_in p) (range_with_len 0 d) e 0 (omega arith)
      (ap (late_in p) (get_or-range_with_len 0 d e 0 l ∙ zero-add e) ∙ ap (λ o. is_late_behind image o p) is ∙ behind-from x p m n)

  -- the references of the object at x below p
  abbrev pub late_up_to : ℕ → ℕ → ℕ → ℕ → Bool
  late_up_to d x p q = is_late_before image d q || (ltb x q && ltb q p)

  pub up_to-begin : (d x : ℕ) (q : ℕ) → is_late_before image d q ≡ late_up_to d x (x + 1) q
  up_to-begin d x q = sym (ap (λ b. is_late_before image d q || b) (none (cases_lt x q)) ∙ or_false (is_late_before image d q))
    where
      none : ((x < q) ⊎ (q ≤ x)) → (ltb x q && ltb q (x + 1)) ≡ false
      none (inl l) = and_right (ltb x q) (ltb q (x + 1)) (le-ltb q (x + 1) (omega arith))
      none (inr l) = and_left (ltb x q) (ltb q (x + 1)) (le-ltb x q l)

  pub up_to-outside : (d x p m q : ℕ) → (q < p) ⊎ (p + m ≤ q) → late_up_to d x p q ≡ late_up_to d x (p + m) q
  up_to-outside d x p m q out = ap (λ b. is_late_before image d q || (ltb x q && b)) (same_Bool (ltb q p) (ltb q (p + m))
      (λ h. let l : q < p = ltb-true q p h in lt-ltb q (p + m) (omega arith))
      (λ h. let l : q < p + m = ltb-true q (p + m) h in lt-ltb q p (elim out [
        | inl less ↦ less
        | inr more ↦ let no : ⊥ = omega arith in absurd no
      ])))

  pub up_to-within : (d x p q : ℕ) → x < q → q < p → late_up_to d x p q ≡ true
  up_to-within d x p q l m = right (is_late_before image d q) (and_from (ltb x q) (ltb q p) (lt-ltb x q l) (lt-ltb q p m))
    where
      right : (b : Bool) {c : Bool} → c ≡ true → (b || c) ≡ true
      right true h = refl
      right false h = h

  pub up_to-not : (d x p q : ℕ) → p ≤ q → is_late_before image d q ≡ false → late_up_to d x p q ≡ false
  up_to-not d x p q l e = or_from (is_late_before image d q) (ltb x q && ltb q p) e (and_right (ltb x q) (ltb q p) (le-ltb q p l))

  pub up_to-end : (d x p q : ℕ) → deferred image d ≡ Some x → p ≡ x + 1 + references_in image.layout (moved_word image x) → late_up_to d x p q ≡ is_late_before image (d + 1) q
  up_to-end d x p q e end = ap (λ b. is_late_before image d q || (ltb x q && b)) (same_Bool (ltb q p) (leb q (x + references_in image.layout (moved_word image x)))
      (λ h. let l : q < p = ltb-true q p h in le-leb q (x + references_in image.layout (moved_word image x)) (omega arith))
      (λ h. let l : q ≤ x + references_in image.layout (moved_word image x) = leb-true q (x + references_in image.layout (moved_word image x)) h in lt-ltb q p (omega arith)))
      ∙ sym (late-next d q (Some x) e)

  pub late-all : (n p : ℕ) → ((h : is_late_reference image p ≡ true) → (d : ℕ) × (x : ℕ) × (deferred image d ≡ Some x) × (x < p) × (p ≤ x + references_in image.layout (moved_word image x)))
      → ((d x : ℕ) → deferred image d ≡ Some x → x < p → p ≤ x + references_in image.layout (moved_word image x) → is_late_reference image p ≡ true)
      → ((d x : ℕ) → deferred image d ≡ Some x → x < p → d < n) → is_late_before image n p ≡ is_late_reference image p
  late-all n p late told few = same_Bool (is_late_before image n p) (is_late_reference image p)
      (λ h. let at = late-parts n p h in told at.0 at.1 at.3 at.4 at.5)
      (λ h. let at = late h in late-from n p at.0 at.1 (few at.0 at.1 at.2 at.3) at.2 at.3 at.4)

  -- ---- the deferred object whose new words begin at x
  module _ (sound : HasLiveList image) (d x : ℕ) (here : deferred image d ≡ Some x) where
    abbrev n : ℕ
    n = references_in image.layout (moved_word image x)

    abbrev Told : Type 0
    Told = (p e y : ℕ) → deferred image e ≡ Some y → y < p → p ≤ y + references_in image.layout (moved_word image y) → is_late_reference image p ≡ true

    abbrev Once : Type 0
    Once = (p e f y z : ℕ) → deferred image e ≡ Some y → deferred image f ≡ Some z → y < p → p ≤ y + references_in image.layout (moved_word image y) → z < p → p ≤ z + references_in image.layout (moved_word image z) → (e ≡ f) × (y ≡ z)

    -- its references belong to no deferred object of an earlier region
    pub not_before : Once → (p : ℕ) → x < p → p ≤ x + n → is_late_before image d p ≡ false
    not_before once p l m = false_from_ne_true (is_late_before image d p) (λ h.
        let at = late-parts d p h in
        let same = once p at.0 d at.1 x at.3 here at.4 at.5 l m in
        let less : at.0 < d = at.2 in
        let e : at.0 ≡ d = same.0 in
        omega arith)

    -- nor is its header
    pub header_not_before : Told → is_late_reference image x ≡ false → is_late_before image d x ≡ false
    header_not_before told none = false_from_ne_true (is_late_before image d x) (λ h.
        let at = late-parts d x h in
        true≢false (sym (told x at.0 at.1 at.3 at.4 at.5) ∙ none))

    module _ (i : ℕ) (inside : i < length image.live) (goes : new_address image (get_or image.live i 0) ≡ x) (header : moved_word image (new_address image (get_or image.live i 0)) ≡ word_at image (get_or image.live i 0)) where
      abbrev a : ℕ
      a = get_or image.live i 0

      references_are : n ≡ references_at image a
      references_are = ap (λ p. references_in image.layout (moved_word image p)) (sym goes) ∙ ap (references_in image.layout) header

      pub late_sound : is_deferred image a ≡ true → ((f : ℕ) → f < references_at image a → moved_word image (new_address image a + (1 + f)) ≡ cond (is_deferred image a) (word_at image (a + (1 + f))) (redirected_word image (word_at image (a + (1 + f)))))
          → (p : ℕ) → x < p → p ≤ x + n → is_null_or_live image (reference_in image.layout (moved_word image p)) ≡ true
      late_sound late each p l m =
          let are = references_are in
          let f : ℕ = p - x - 1 in
          let few : f < references_at image a = omega arith in
          let to : new_address image a + (1 + f) ≡ p = omega arith in
          let from : a + (1 + f) ≡ a + 1 + f = omega arith in
          let is : moved_word image p ≡ word_at image (a + 1 + f) = ap (moved_word image) (sym to) ∙ each f few
          ∙ ap (λ b. cond b (word_at image (a + (1 + f))) (redirected_word image (word_at image (a + (1 + f))))) late ∙ ap (word_at image) from in
          subst (λ (w : ℕ). is_null_or_live image (reference_in image.layout w) ≡ true) (sym is) (sound.references i 0 inside f few)
