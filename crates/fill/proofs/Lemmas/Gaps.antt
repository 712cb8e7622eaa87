-- Fillers, as they are written.
use Rattle.std.proofs.Common.{◌≡◌, ℕ, ◌+◌, ◌-◌, ◌*◌, ◌/◌, ◌%◌, ◌^◌, ◌≤◌, ◌<◌, inl, inr, mul_assoc, mul_comm, true, false, List, length, replicate, sym, ◌∙◌, ap, subst, arith, eqb}
use Rattle.std.proofs.lemmas.Bool.{cases_lt, cond-true, cond-false, or_from, ne_eqb}
use Rattle.std.proofs.lemmas.Nat.{mul-le, pow-add}
use Rattle.std.proofs.lemmas.List.{get_or-replicate, length-replicate}
use Rattle.std.specs.Prelude.{None}
use Rattle.object_heap.specs.Header.{filler_header}
use Rattle.object_heap.specs.HeapImage.{HeapImage, HasLiveList, word_at, is_live_word}
use Rattle.summary.specs.NewAddresses.{prefix_end}
use Rattle.summary.specs.Fillers.{filler_limit, filler_word, gap_at, may_begin_filler}
use Rattle.summary.specs.PlanLaws.{PlanLaws}
use Rattle.raw_region.specs.Region.{with_words}
use Rattle.fill.specs.WordBlocks.{IsSplitAt}
use Rattle.fill.specs.CopiedWords.{copied_word}
use Rattle.fill.proofs.Lemmas.Slides.{word_by-below, copied-slid}
use Rattle.fill.proofs.Lemmas.Writing.{split_skip, split_more}

within_stride : (a b p : ℕ) → a < p → p < b → b ≤ (a / 2147483648 + 1) * 2147483648 → p % 2147483648 ≡ 0 → ⊥
within_stride a b p l m n e = omega arith

-- a region ends within the stride of a word in it
pub region_in_stride : (log r at : ℕ) → log ≤ 20 → r * 2 ^ log ≤ at → at < r * 2 ^ log + 2 ^ log → r * 2 ^ log + 2 ^ log ≤ (at / 2147483648 + 1) * 2147483648
region_in_stride log r at small low high =
    let w : ℕ = 2 ^ log in
    let m : ℕ = 2 ^ (31 - log) in
    let k : ℕ = at / 2147483648 + 1 in
    let e : log + (31 - log) ≡ 31 = omega arith in
    let product : m * w ≡ 2147483648 = mul_comm m w ∙ (sym (pow-add 2 log (31 - log)) ∙ ap (λ n. 2 ^ n) e) in
    let whole : k * 2147483648 ≡ k * m * w = ap (λ n. k * n) (sym product) ∙ sym (mul_assoc k m w) in
    let past : at < k * 2147483648 = omega arith in
    let next : (r + 1) * w ≡ r * w + w = omega arith in
    elim (cases_lt r (k * m)) [
      | inl less ↦ let fits : (r + 1) * w ≤ k * m * w = mul-le (r + 1) w (k * m) w (omega arith) (omega arith) in omega arith
      | inr more ↦ let over : k * m * w ≤ r * w = mul-le (k * m) w r w (omega arith) (omega arith) in let no : ⊥ = omega arith in absurd no
    ]

module _ (law : PlanLaws) (image : HeapImage) (sound : HasLiveList image) where
  abbrev P : ℕ
  P = prefix_end image

  abbrev c : ℕ → ℕ
  c = copied_word image

  abbrev g : ℕ → ℕ
  g = word_at image

  -- a live word of the prefix stays
  pub copied-stays : (p : ℕ) → p < P → is_live_word image p ≡ true → c p ≡ g p
  copied-stays p l live = let s = law.slid-low image p l in ap c (sym s) ∙ copied-slid law image sound p live

  -- a dead one becomes its filler's word
  pub copied-dead : (p : ℕ) → p < P → is_live_word image p ≡ false → c p ≡ filler_word image p
  copied-dead p l dead = let top = law.top-above image sound in word_by-below law image (λ _. false) p None (omega arith) (law.origin-dead image sound p l dead)

  -- the first word of a dead run, and the words after another dead word
  pub copied-first : (a b : ℕ) → a < b → b ≤ filler_limit image a → ((q : ℕ) → a ≤ q → q < b → is_live_word image q ≡ false) → (b < filler_limit image a → is_live_word image b ≡ true) → may_begin_filler image a ≡ true → c a ≡ filler_header (b - a)
  copied-first a b some l dead live first =
      copied-dead a (omega arith) (dead a (omega arith) some)
      ∙ cond-true (may_begin_filler image a) (filler_header (gap_at image a)) 0 first
      ∙ ap filler_header (law.gap_at-run image a b (omega arith) l dead live)

  pub copied-rest : (p : ℕ) → p < P → is_live_word image p ≡ false → may_begin_filler image p ≡ false → c p ≡ 0
  copied-rest p l dead rest = copied-dead p l dead ∙ cond-false (may_begin_filler image p) (filler_header (gap_at image p)) 0 rest

  pub copied-behind : (a b p : ℕ) → b ≤ P → b ≤ (a / 2147483648 + 1) * 2147483648 → ((q : ℕ) → a ≤ q → q < b → is_live_word image q ≡ false) → a < p → p < b → c p ≡ 0
  copied-behind a b p l near dead m n =
      copied-rest p (omega arith) (dead p (omega arith) n) (or_from (eqb (p % 2147483648) 0) (is_live_word image (p - 1)) (ne_eqb (p % 2147483648) 0 (λ e. within_stride a b p m n near e)) (dead (p - 1) (omega arith) (omega arith)))

  pub split_zero : (start : ℕ) (xs : List ℕ) (p n : ℕ) → IsSplitAt c g start xs p → start ≤ p → p + n ≤ start + length xs → ((q : ℕ) → p ≤ q → q < p + n → c q ≡ 0) → IsSplitAt c g start (with_words xs (p - start) (replicate n 0)) (p + n)
  split_zero start xs p n h low high zeros =
      let long : length (replicate {A = ℕ} n 0) ≡ n = length-replicate n 0 in
      let same : p + length (replicate {A = ℕ} n 0) ≡ p + n = omega arith in
      subst (IsSplitAt c g start (with_words xs (p - start) (replicate n 0))) same (split_more c g start xs (replicate n 0) p h low (omega arith) (λ j m. get_or-replicate n j 0 0 (omega arith) ∙ sym (zeros (p + j) (omega arith) (omega arith))))

  pub split_stays : (start : ℕ) (xs : List ℕ) (p q : ℕ) → IsSplitAt c g start xs p → p ≤ q → q ≤ P → ((r : ℕ) → p ≤ r → r < q → is_live_word image r ≡ true) → IsSplitAt c g start xs q
  split_stays start xs p q h l up live = split_skip c g start xs p q h l (λ r m n k. sym (copied-stays r (omega arith) (live r m n)))
