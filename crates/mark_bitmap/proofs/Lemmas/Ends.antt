-- Where live objects end, by their begin bits and live bits.
use Rattle.std.proofs.Common.{◌≡◌, ℕ, ◌+◌, ◌-◌, ◌≤◌, ◌<◌, inl, inr, Bool, true, false, ◌||◌, ◌&&◌, Option, None, Some, refl, sym, ◌∙◌, ap, arith}
use Rattle.std.specs.Prelude.{not, unwrap_or, MatchOption}
use Rattle.std.proofs.lemmas.Bool.{cases_lt, and_parts, true≢false}
use Rattle.object_heap.specs.HeapImage.{HeapImage, IsValid, heap_words, is_live_word, is_dead_word}
use Rattle.object_heap.specs.Bits.{NoneFrom, IsFirstFrom, NoneBetween, IsFirstBetween}
use Rattle.mark_bitmap.specs.Marks.{continues_at, is_begin, is_end}
use Rattle.mark_bitmap.proofs.Lemmas.Runs.{rest, first-or, live-inside, runs-of}

other : (b : Bool) → not b ≡ false → b ≡ true
other true h = refl
other false h = absurd (true≢false h)

opposite : (b : Bool) → not b ≡ true → b ≡ false
opposite true h = absurd (true≢false (sym h))
opposite false h = refl

and-false : (b : Bool) → (b && false) ≡ false
and-false true = refl
and-false false = refl

-- the object with the word at a ends before e
pub record IsObjectEnd (image : HeapImage) (a e : ℕ) : Type 0 where
  pub after : a < e
  pub last : IsFirstFrom (is_end image) a (e - 1)

module _ (image : HeapImage) (valid : IsValid image) where
  pub continues_at-is : (k : ℕ) → continues_at image k ≡ (is_live_word image k && not (is_begin image k))
  continues_at-is k = rest (is_live_word image k) (is_begin image k) (continues_at image k) ((runs-of image valid).first k)

  pub end-is : (k : ℕ) → is_end image k ≡ (is_live_word image k && not (continues_at image (k + 1)))
  end-is k =
      let sum = (runs-of image valid).last k in
      rest (is_live_word image k) (continues_at image (k + 1)) (is_end image k) (omega (arith, sum))

  pub begin-live : (k : ℕ) → is_begin image k ≡ true → is_live_word image k ≡ true
  begin-live k h = first-or image valid k ∙ ap (λ b. b || continues_at image k) h

  on : (k : ℕ) → is_live_word image k ≡ true → is_begin image k ≡ false → continues_at image k ≡ true
  on k live other =
      continues_at-is k ∙ ap (λ b. b && not (is_begin image k)) live ∙ ap not other

  ends-before : (a e : ℕ) → a < e → is_live_word image a ≡ true → ((k : ℕ) → a + 1 ≤ k → k < e → continues_at image k ≡ true) → continues_at image e ≡ false → IsObjectEnd image a e
  ends-before a e after live goes stops = record {
    after = after;
    last = record {
      behind = omega arith;
      passes = end-is (e - 1) ∙ ap (λ b. b && not (continues_at image (e - 1 + 1))) last_live ∙ ap (λ n. not (continues_at image n)) same ∙ ap not stops;
      least = λ k f l. end-is k ∙ ap (λ b. is_live_word image k && not b) (goes (k + 1) (omega arith) (omega arith)) ∙ and-false (is_live_word image k);
    };
  }
    where
      same : e - 1 + 1 ≡ e
      same = omega arith

      last_live : is_live_word image (e - 1) ≡ true
      last_live = elim (cases_lt a (e - 1)) [
        | inl more ↦ (and_parts (is_live_word image (e - 1)) (not (is_begin image (e - 1))) (sym (continues_at-is (e - 1)) ∙ goes (e - 1) (omega arith) (omega arith))).0
        | inr first ↦ let this : e - 1 ≡ a = omega arith in ap (is_live_word image) this ∙ live
      ]

  -- by the next begin and the first dead word before it
  pub object_end-is : (a : ℕ) (begin dead : Option ℕ) → is_live_word image a ≡ true
      → MatchOption begin (NoneFrom (is_begin image) (a + 1)) (IsFirstFrom (is_begin image) (a + 1))
      → MatchOption dead (NoneBetween (is_dead_word image) (a + 1) (unwrap_or begin 18446744073709551615)) (IsFirstBetween (is_dead_word image) (a + 1) (unwrap_or begin 18446744073709551615))
      → IsObjectEnd image a (unwrap_or dead (unwrap_or begin 18446744073709551615))
  object_end-is a (Some b) (Some d) live f g =
      let from : a + 1 ≤ d = g.first.behind in
      let low : d < b = g.below in
      ends-before a d (omega arith) live
      (λ k m l. on k (other (is_live_word image k) (g.first.least k m l)) (f.least k m (omega arith)))
      (continues_at-is d ∙ ap (λ t. t && not (is_begin image d)) (opposite (is_live_word image d) g.first.passes))
  object_end-is a (Some b) None live f g =
      let from : a + 1 ≤ b = f.behind in
      ends-before a b (omega arith) live
      (λ k m l. on k (other (is_live_word image k) (g k m l)) (f.least k m l))
      (continues_at-is b ∙ ap (λ t. is_live_word image b && not t) f.passes ∙ and-false (is_live_word image b))
  object_end-is a None (Some d) live f g =
      let from : a + 1 ≤ d = g.first.behind in
      ends-before a d (omega arith) live
      (λ k m l. on k (other (is_live_word image k) (g.first.least k m l)) (f k m))
      (continues_at-is d ∙ ap (λ t. t && not (is_begin image d)) (opposite (is_live_word image d) g.first.passes))
  object_end-is a None None live f g =
      let n : ℕ = heap_words image in
      let inside : a < n = live-inside image valid a live in
      let few = valid.limits.few_words in
      let past : is_live_word image n ≡ true = other (is_live_word image n) (g n (omega arith) (omega (arith, few))) in
      let no : n < n = live-inside image valid n past in
      absurd (omega arith)
