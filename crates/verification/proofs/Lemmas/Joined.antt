-- Words that are compared part by part.
use Rattle.std.proofs.Common.{◌≡◌, ℕ, ◌+◌, ◌-◌, ◌≤◌, ◌<◌, ◌≢◌, inl, inr, sym, ◌∙◌, subst, arith}
use Rattle.std.specs.Prelude.{Option, Some, None, MatchOption}
use Rattle.std.proofs.lemmas.Bool.{cases_lt}
use Rattle.object_heap.specs.HeapImage.{HeapImage, word_at}
use Rattle.summary.specs.Compaction.{compact}
use Rattle.verification.specs.Difference.{AreAlike, IsLeastDifference}
use Rattle.verification.specs.Compared.{AreCompacted, IsFirstOther}

-- the words of the compaction from one address on, as a table
pub record AreWanted (before : HeapImage) (wanted : ℕ → ℕ) (at n : ℕ) : Type 0 where
  pub word : (j : ℕ) → j < n → word_at (compact before) (at + j) ≡ wanted j

pub match_map : (r : Option ℕ) (A B : Type 0) (P Q : ℕ → Type 0) → (A → B) → ((x : ℕ) → P x → Q x) → MatchOption r A P → MatchOption r B Q
match_map None A B P Q f g h = f h
match_map (Some x) A B P Q f g h = g x h

module _ (before after : HeapImage) where
  pub none : (from to : ℕ) → to ≤ from → AreCompacted before after from to
  none from to h = record { alike = λ p low high. absurd (let no : ⊥ = omega (arith, low, high, h) in no) }

  pub joined : (from mid to : ℕ) → AreCompacted before after from mid → AreCompacted before after mid to → AreCompacted before after from to
  joined from mid to one two = record {
    alike = λ p low high. elim (cases_lt p mid) [
      | inl first ↦ one.alike p low first
      | inr second ↦ two.alike p second high
    ];
  }

  pub single : (from to : ℕ) → to ≡ from + 1 → word_at after from ≡ word_at (compact before) from → AreCompacted before after from to
  single from to end same = record {
    alike = λ p low high.
        let at : from ≡ p = omega (arith, low, high, end) in
        subst (λ q. word_at after q ≡ word_at (compact before) q) at same;
  }

  pub later : (from mid end to a : ℕ) → from ≤ mid → end ≤ to → AreCompacted before after from mid → IsFirstOther before after mid end a → IsFirstOther before after from to a
  later from mid end to a low high one other =
      let behind : mid ≤ a = other.behind in
      let inside : a < end = other.inside in
      record {
        behind = omega (arith, low, behind);
        inside = omega (arith, inside, high);
        differs = other.differs;
        least = λ p m l. elim (cases_lt p mid) [
          | inl first ↦ one.alike p m first
          | inr second ↦ other.least p second l
        ];
      }

  pub here : (from to a : ℕ) → from ≤ a → a < to → AreCompacted before after from a → word_at after a ≢ word_at (compact before) a → IsFirstOther before after from to a
  here from to a low high one other = record { behind = low; inside = high; differs = other; least = one.alike }

  pub alike_words : (wanted : ℕ → ℕ) (at n to : ℕ) → to ≡ at + n → AreWanted before wanted at n → AreAlike wanted (λ j. word_at after (at + j)) n → AreCompacted before after at to
  alike_words wanted at n to end words alike = record {
    alike = λ p low high.
        let j : ℕ = p - at in
        let l : j < n = omega (arith, low, high, end) in
        let is : at + j ≡ p = omega (arith, low) in
        subst (λ q. word_at after q ≡ word_at (compact before) q) is (alike j l ∙ sym (words.word j l));
  }

  pub first_of_words : (wanted : ℕ → ℕ) (at n to j a : ℕ) → to ≡ at + n → a ≡ at + j → AreWanted before wanted at n → IsLeastDifference wanted (λ j. word_at after (at + j)) n j → IsFirstOther before after at to a
  first_of_words wanted at n to j a end is words other =
      let inside : j < n = other.inside in
      record {
        behind = omega (arith, is);
        inside = omega (arith, is, end, inside);
        differs = subst (λ q. word_at after q ≢ word_at (compact before) q) (sym is) (λ same. other.differs (same ∙ words.word j inside));
        least = λ p low high.
            let k : ℕ = p - at in
            let l : k < j = omega (arith, low, high, is) in
            let m : k < n = omega (arith, l, inside) in
            let place : at + k ≡ p = omega (arith, low) in
            subst (λ q. word_at after q ≡ word_at (compact before) q) place (other.least k l ∙ sym (words.word k m));
      }
