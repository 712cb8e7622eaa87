-- The longest chain from a region, by those from the regions that it waits for.
use Rattle.std.proofs.Common.{◌≡◌, ◌≢◌, ◌^◌, ◌-◌, min, All, ◌⊎◌, ◌∙◌, ℕ, ◌+◌, ◌*◌, ◌<◌, ◌≤◌, max, List, [], ◌∷◌, ◌++◌, ◌==◌, IsTrue, true, not, ap, arith, inl, inr, length, length-append, refl, slice_index, slice_index_or, subst, sym}
use Rattle.std.proofs.Math.ListN.{get_or-append}
use Rattle.std.proofs.Math.Seq.{get_or-append_seam}
use Rattle.std.proofs.lemmas.Bool.{and_from, and_parts, cases_order, eqb-false, lt-ltb, ne_eqb, not-true, not_from_false}
use Rattle.std.proofs.lemmas.Bool.Decides.{leb_tells}
use Rattle.std.proofs.Math.Nat.{one-le-pow}
use Rattle.std.proofs.lemmas.List.{get_or_past}
use Rattle.std.proofs.lemmas.List.Sums.{sum_by-cons}
use Rattle.std.proofs.Math.Nat.{eq-or-lt_of_le, le-max_left, le-max_right, max-eq_left, max-eq_right, min-eq_left, min-eq_right}
use Rattle.object_heap.specs.HeapImage.{HeapImage, region_words}
use Rattle.summary.specs.NewAddresses.{new_top}
use Rattle.summary.specs.WordMoves.{is_to_fill, reads}
use Rattle.work_order.specs.Chains.{AreLongest, IsAwaited, IsChain, IsLongestAfter, IsLongestChain, IsLongestFrom, fill_words, waits_for, words_of}

module _ (image : HeapImage) where
  pub words-cons : (d : ℕ) (others : List ℕ) → words_of image (d ∷ others) ≡ fill_words image d + words_of image others
  words-cons d others = sum_by-cons (fill_words image) d others

  -- a region, and the longest chain after it
  pub longest-from : (s words : ℕ) → IsLongestAfter image s words → IsLongestFrom image s (fill_words image s + words)
  longest-from s words after = record {
    others = after.others;
    awaited = after.awaited;
    has = words-cons s after.others ∙ ap (λ n. fill_words image s + n) after.has;
    longest = λ rest awaited. let h = after.longest rest awaited in let e = words-cons s rest in omega arith;
  }

  -- a region that waits for none
  none-more : (s : ℕ) → ((d : ℕ) → IsTrue (waits_for image s d) → ⊥) → (rest : List ℕ) → IsAwaited image s rest → words_of image rest ≤ 0
  none-more s none [] awaited = omega arith
  none-more s none (d ∷ rest) awaited = absurd (none d awaited.0)

  pub after-none : (s : ℕ) → ((d : ℕ) → IsTrue (waits_for image s d) → ⊥) → IsLongestAfter image s 0
  after-none s none = record { others = []; awaited = tt; has = refl; longest = none-more s none }

  -- the greatest number of words of what follows region s in a chain through region i
  pub record IsVia (s i words : ℕ) : Type 0 where
    pub others : List ℕ
    pub awaited : IsAwaited image s others
    pub has : words_of image others ≡ words
    pub most : (rest : List ℕ) → IsTrue (waits_for image s i) → IsAwaited image i rest → words_of image (i ∷ rest) ≤ words

  waits : (s i : ℕ) → reads image i s ≡ true → i ≢ s → IsTrue (waits_for image s i)
  waits s i read other = and_from (reads image i s) (not (i == s)) read (not_from_false (i == s) (ne_eqb i s other))

  waits-not : (s : ℕ) → IsTrue (waits_for image s s) → ⊥
  waits-not s own = let both = and_parts (reads image s s) (not (s == s)) own in eqb-false s s (not-true (s == s) both.1) refl

  pub via : (s i : ℕ) (chains : List ℕ) → AreLongest image chains → length chains ≡ s → reads image i s ≡ true → i ≤ s
      → IsVia s i (slice_index_or chains i 0)
  via s i chains below all read le =
      elim (eq-or-lt_of_le le) [
        | inl same ↦
            let past : slice_index_or chains i 0 ≡ 0 = get_or_past chains i 0 (omega arith) in
            record {
              others = [];
              awaited = tt;
              has = sym past;
              most = λ rest own _. absurd (waits-not s (subst (λ n. IsTrue (waits_for image s n)) same own));
            }
        | inr less ↦
            let from = below.each i (omega arith) in
            record {
              others = i ∷ from.others;
              awaited = (waits s i read (λ e. omega (arith, e)), from.awaited);
              has = from.has;
              most = λ rest _ awaited. from.longest rest awaited;
            }
      ]

  -- a region that waits for at most two others
  both-more : (s i j m n : ℕ) → IsVia s i m → IsVia s j n → ((d : ℕ) → IsTrue (waits_for image s d) → (d ≡ i) ⊎ (d ≡ j))
      → (rest : List ℕ) → IsAwaited image s rest → words_of image rest ≤ max m n
  both-more s i j m n one other only [] awaited = omega arith
  both-more s i j m n one other only (d ∷ rest) awaited =
      elim (only d awaited.0) [
        | inl e ↦
            let w : IsTrue (waits_for image s i) = subst (λ x. IsTrue (waits_for image s x)) e awaited.0 in
            let r : IsAwaited image i rest = subst (λ x. IsAwaited image x rest) e awaited.1 in
            let le = one.most rest w r in
            let below : words_of image (i ∷ rest) ≤ max m n = let h = le-max_left m n in omega arith in
            subst (λ x. words_of image (x ∷ rest) ≤ max m n) (sym e) below
        | inr e ↦
            let w : IsTrue (waits_for image s j) = subst (λ x. IsTrue (waits_for image s x)) e awaited.0 in
            let r : IsAwaited image j rest = subst (λ x. IsAwaited image x rest) e awaited.1 in
            let le = other.most rest w r in
            let below : words_of image (j ∷ rest) ≤ max m n = let h = le-max_right m n in omega arith in
            subst (λ x. words_of image (x ∷ rest) ≤ max m n) (sym e) below
      ]

  pub after-both : (s i j m n : ℕ) → IsVia s i m → IsVia s j n → ((d : ℕ) → IsTrue (waits_for image s d) → (d ≡ i) ⊎ (d ≡ j))
      → IsLongestAfter image s (max m n)
  after-both s i j m n one other only =
      elim (leb_tells m n) [
        | inl le ↦ record {
          others = other.others;
          awaited = other.awaited;
          has = other.has ∙ sym (max-eq_right le.1);
          longest = both-more s i j m n one other only;
        }
        | inr gt ↦ record {
          others = one.others;
          awaited = one.awaited;
          has = let le : n ≤ m = omega (arith, gt.1) in one.has ∙ sym (max-eq_left le);
          longest = both-more s i j m n one other only;
        }
      ]

  -- one more region
  pub one-longer : (s words : ℕ) (chains : List ℕ) → AreLongest image chains → length chains ≡ s → IsLongestFrom image s words
      → words ≤ (s + 1) * 1048576 → AreLongest image (chains ++ words ∷ [])
  one-longer s words chains below all from few =
      let long : length (chains ++ words ∷ []) ≡ s + 1 = length-append chains (words ∷ []) ∙ ap (λ n. n + 1) all in
      let at : slice_index (chains ++ words ∷ []) s ≡ words = ap (λ n. slice_index (chains ++ words ∷ []) n) (sym all) ∙ get_or-append_seam chains words [] 0 in
      record {
        each = λ t l.
            elim (eq-or-lt_of_le (let h : t ≤ s = omega arith in h)) [
              | inl e ↦ subst (λ x. IsLongestFrom image x (slice_index (chains ++ words ∷ []) x)) (sym e) (subst (λ w. IsLongestFrom image s w) (sym at) from)
              | inr less ↦
                  let inside : t < length chains = omega arith in
                  subst (λ w. IsLongestFrom image t w) (sym (get_or-append chains (words ∷ []) 0 t inside)) (below.each t inside)
            ];
        few = λ t l.
            elim (eq-or-lt_of_le (let h : t ≤ s = omega arith in h)) [
              | inl e ↦ subst (λ x. slice_index (chains ++ words ∷ []) x ≤ (x + 1) * 1048576) (sym e) (subst (λ w. w ≤ (s + 1) * 1048576) (sym at) few)
              | inr less ↦
                  let inside : t < length chains = omega arith in
                  subst (λ w. w ≤ (t + 1) * 1048576) (sym (get_or-append chains (words ∷ []) 0 t inside)) (below.few t inside)
            ];
      }

  -- a region has at most two readers
  pub one-of-two : (d first last : ℕ) → first ≤ d → d ≤ last → last ≤ first + 1 → (d ≡ first) ⊎ (d ≡ last)
  one-of-two d first last low high near =
      elim (eq-or-lt_of_le low) [ inl e ↦ inl (sym e) | inr less ↦ inr (omega arith) ]

  -- a chain begins with one of these regions, and has no more words than the longest from any of them
  chain-most : (chains : List ℕ) (most : ℕ) → AreLongest image chains → All (λ c. c ≤ most) chains
      → ((s : ℕ) → is_to_fill image s ≡ true → s < length chains) → (other : List ℕ) → IsChain image other → words_of image other ≤ most
  chain-most chains most longest bound filled [] is = omega arith
  chain-most chains most longest bound filled (s ∷ rest) is =
      let inside : s < length chains = filled s is.0 in
      let le = (longest.each s inside).longest rest is.1 in
      let top : slice_index chains s ≤ most = bound s 0 inside in
      omega arith

  -- the longest of all chains
  pub longest-chain : (chains : List ℕ) (most : ℕ) → AreLongest image chains → All (λ c. c ≤ most) chains
      → ((s : ℕ) → is_to_fill image s ≡ true → s < length chains) → ((s : ℕ) → s < length chains → is_to_fill image s ≡ true)
      → (i : ℕ) → i < length chains → slice_index chains i ≡ most → IsLongestChain image most
  longest-chain chains most longest bound filled fills i inside is =
      let from = longest.each i inside in
      record {
        chain = i ∷ from.others;
        is = (fills i inside, from.awaited);
        has = from.has ∙ is;
        longest = chain-most chains most longest bound filled;
      }

  none-most : (chains : List ℕ) → length chains ≡ 0 → ((s : ℕ) → is_to_fill image s ≡ true → s < length chains) → (other : List ℕ)
      → IsChain image other → words_of image other ≤ 0
  none-most chains none filled [] is = omega arith
  none-most chains none filled (s ∷ rest) is = let inside = filled s is.0 in let no : ⊥ = omega arith in absurd no

  -- if no region is to be filled, the longest chain has no words
  pub no-chain : (chains : List ℕ) → length chains ≡ 0 → ((s : ℕ) → is_to_fill image s ≡ true → s < length chains) → IsLongestChain image 0
  no-chain chains none filled = record {
    chain = [];
    is = tt;
    has = refl;
    longest = none-most chains none filled;
  }

  -- if the longest chain has no words, there is no word below the new top
  pub no-word : (words : ℕ) → IsLongestChain image words → words ≡ 0 → new_top image ≡ 0
  no-word words longest none =
      elim (cases_order (new_top image) 0) [
        | inl e ↦ e
        | inr apart ↦ elim apart [
          | inl less ↦ let no : ⊥ = omega (arith, less) in absurd no
          | inr more ↦
              let begins : is_to_fill image 0 ≡ true = lt-ltb (0 * region_words image) (new_top image) (omega (arith, more)) in
              let most = longest.longest (0 ∷ []) (begins, tt) in
              let own = words-cons 0 [] in
              let some : 0 < region_words image = let h : 1 ≤ 2 ^ image.region_log = one-le-pow image.region_log 2 (omega arith) in omega arith in
              let left : 0 < new_top image - 0 * region_words image = omega (arith, more) in
              let has : 0 < fill_words image 0 = elim (leb_tells (region_words image) (new_top image - 0 * region_words image)) [
                | inl le ↦ subst (λ n. 0 < n) (sym (min-eq_left le.1)) some
                | inr gt ↦ subst (λ n. 0 < n) (sym (min-eq_right (let h : new_top image - 0 * region_words image ≤ region_words image = omega (arith, gt.1) in h))) left
              ] in
              let no : ⊥ = omega (arith, most, own, has, none) in absurd no
        ]
      ]
