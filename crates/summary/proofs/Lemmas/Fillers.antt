-- Fillers by longest runs of dead words.
use Rattle.std.proofs.Common.{◌≡◌, ℕ, zero, suc, ◌+◌, ◌-◌, ◌*◌, ◌/◌, ◌%◌, ◌^◌, ◌≤◌, ◌<◌, inl, inr, min, mul_assoc, mul_comm, Bool, true, false, get_or, sym, ◌∙◌, ap, subst, arith, ltb, eqb}
use Rattle.std.proofs.lemmas.Bool.{cases_Bool, cases_lt, cond-true, cond-false, or_left, or_right, or_from, eq-eqb, ne_eqb, not_from_true, not_from_false, lt-ltb}
use Rattle.std.proofs.lemmas.Nat.{mul-le, pow-add}
use Rattle.std.proofs.lemmas.List.FromFn.{get_or-range_with_len, length-range_with_len}
use Rattle.std.proofs.lemmas.List.Sums.{prefix_len_is}
use Rattle.std.specs.Prelude.{not}
use Rattle.std.specs.List.{range_with_len, prefix_len}
use Rattle.object_heap.specs.Header.{filler_header}
use Rattle.object_heap.specs.HeapImage.{HeapImage, HasLiveList, is_live_word, is_dead_word}
use Rattle.summary.specs.NewAddresses.{prefix_end, new_top}
use Rattle.summary.specs.WordMoves.{origin}
use Rattle.summary.specs.Fillers.{IsDeadRun, filler_limit, filler_word, gap_at, may_begin_filler}
use Rattle.summary.specs.Compaction.{compacted_word, moved_word, written, is_deferred}
use Rattle.summary.proofs.Lemmas.Addresses.{new_top-live_words}
use Rattle.summary.proofs.Lemmas.Words.{origin-dead}

-- from p on, up to n addresses, the first that passes
run_end : (t : ℕ → Bool) (p n : ℕ) → (b : ℕ) × (p ≤ b) × (b ≤ p + n) × ((q : ℕ) → p ≤ q → q < b → t q ≡ false) × (b < p + n → t b ≡ true)
run_end t p zero = (p, omega arith, omega arith, (λ q l m. let no : ⊥ = omega arith in absurd no), (λ l. let no : ⊥ = omega arith in absurd no))
run_end t p (suc n) = elim (cases_Bool (t p)) [
  | inl passes ↦ (p, omega arith, omega arith, (λ q l m. let no : ⊥ = omega arith in absurd no), (λ l. passes))
  | inr fails ↦
      let r = run_end t (p + 1) n in
      let b : ℕ = r.0 in
      let low : p + 1 ≤ b = r.1 in
      let high : b ≤ p + 1 + n = r.2 in (
        b,
        omega arith,
        omega arith,
        (λ q l m. elim (cases_lt p q) [
          | inl less ↦ r.3 q (omega arith) m
          | inr more ↦ let e : q ≡ p = omega arith in ap t e ∙ fails
        ]),
        (λ l. r.4 (omega arith)),
      )
]

-- down from an address to a base, the last that passes
run_start : (t : ℕ → Bool) (base k : ℕ) → (a : ℕ) × (base ≤ a) × (a ≤ base + k) × ((q : ℕ) → a ≤ q → q < base + k → t q ≡ false) × (base < a → t (a - 1) ≡ true)
run_start t base zero = (base, omega arith, omega arith, (λ q l m. let no : ⊥ = omega arith in absurd no), (λ l. let no : ⊥ = omega arith in absurd no))
run_start t base (suc k) = elim (cases_Bool (t (base + k))) [
  | inl passes ↦
      let e : base + suc k - 1 ≡ base + k = omega arith in
      (base + suc k, omega arith, omega arith, (λ q l m. let no : ⊥ = omega arith in absurd no), (λ l. ap t e ∙ passes))
  | inr fails ↦
      let r = run_start t base k in
      let a : ℕ = r.0 in
      let low : base ≤ a = r.1 in
      let high : a ≤ base + k = r.2 in (
        a,
        low,
        omega arith,
        (λ q l m. elim (cases_lt q (base + k)) [
          | inl less ↦ r.3 q l less
          | inr more ↦ let e : q ≡ base + k = omega arith in ap t e ∙ fails
        ]),
        r.4,
      )
]

-- the addresses of 2 ^ 31 words
start_of_stride : (p : ℕ) → p / 2147483648 * 2147483648 ≤ p
start_of_stride p = omega arith

same_stride : (a p : ℕ) → p / 2147483648 * 2147483648 ≤ a → a ≤ p → a / 2147483648 ≡ p / 2147483648
same_stride a p low high = omega arith

first_of_stride : (a p : ℕ) → a ≡ p / 2147483648 * 2147483648 → a % 2147483648 ≡ 0
first_of_stride a p e = omega arith

pub within_stride : (a b p : ℕ) → a < p → p < b → b ≤ (a / 2147483648 + 1) * 2147483648 → p % 2147483648 ≡ 0 → ⊥
within_stride a b p l m n e = omega arith

-- a region lies within one stride
pub region_in_stride : (log r at : ℕ) → log ≤ 20 → r * 2 ^ log ≤ at → at < r * 2 ^ log + 2 ^ log → r * 2 ^ log + 2 ^ log ≤ (at / 2147483648 + 1) * 2147483648
region_in_stride log r at small low high =
    let w : ℕ = 2 ^ log in
    let m : ℕ = 2 ^ (31 - log) in
    let k : ℕ = at / 2147483648 + 1 in
    let e : log + (31 - log) ≡ 31 = omega arith in
    let product : m * w ≡ 2147483648 = mul_comm m w ∙ (sym (pow-add 2 log (31 - log)) ∙ ap (λ n. 2 ^ n) e) in
    let whole : k * 2147483648 ≡ k * m * w = ap (λ n. k * n) (sym product) ∙ sym (mul_assoc k m w) in
    let past : at < k * 2147483648 = omega arith in
    let next : (r + 1) * w ≡ r * w + w = omega arith in
    elim (cases_lt r (k * m)) [
      | inl less ↦ let fits : (r + 1) * w ≤ k * m * w = mul-le (r + 1) w (k * m) w (omega arith) (omega arith) in omega arith
      | inr more ↦ let over : k * m * w ≤ r * w = mul-le (k * m) w r w (omega arith) (omega arith) in let no : ⊥ = omega arith in absurd no
    ]

module _ (image : HeapImage) where
  abbrev P : ℕ
  P = prefix_end image

  pub gap_at-run : (a b : ℕ) → a ≤ b → b ≤ filler_limit image a → ((q : ℕ) → a ≤ q → q < b → is_live_word image q ≡ false) → (b < filler_limit image a → is_live_word image b ≡ true) → gap_at image a ≡ b - a
  gap_at-run a b l h dead live = run (filler_limit image a) h live
    where
      run : (limit : ℕ) → b ≤ limit → (b < limit → is_live_word image b ≡ true) → prefix_len (is_dead_word image) (range_with_len a (limit - a)) ≡ b - a
      run limit h live =
          let n : ℕ = limit - a in
          let long = length-range_with_len a n in
          prefix_len_is (is_dead_word image) (range_with_len a n) (b - a) 0 (omega arith)
          (λ k m.
          let at = get_or-range_with_len a n k 0 (omega arith) in
          ap (is_dead_word image) at ∙ not_from_false (is_live_word image (a + k)) (dead (a + k) (omega arith) (omega arith)))
          (λ m.
          let at = get_or-range_with_len a n (b - a) 0 (omega arith) in
          let e : a + (b - a) ≡ b = omega arith in
          ap (is_dead_word image) (at ∙ e) ∙ not_from_true (is_live_word image b) (live (omega arith)))

  -- a run ends below the prefix end, and within 2 ^ 31 words
  pub run_inside : (a b : ℕ) → IsDeadRun image a b → b ≤ P
  run_inside a b run = let inside = run.inside in omega arith

  -- the first word of a run becomes a filler's header, and the others zero
  pub filler-first : (a b : ℕ) → IsDeadRun image a b → filler_word image a ≡ filler_header (b - a)
  filler-first a b run =
      let begins : may_begin_filler image a ≡ true = elim (cases_lt 0 (a % 2147483648)) [
        | inl some ↦ or_right (eqb (a % 2147483648) 0) (is_live_word image (a - 1)) (run.begins some)
        | inr none ↦ or_left (eqb (a % 2147483648) 0) (is_live_word image (a - 1)) (eq-eqb (a % 2147483648) 0 (omega arith))
      ] in
      let less : a < b = run.some in
      cond-true (may_begin_filler image a) (filler_header (gap_at image a)) 0 begins ∙ ap filler_header (gap_at-run a b (omega arith) run.inside run.dead run.ends)

  pub filler-rest : (a b p : ℕ) → IsDeadRun image a b → a < p → p < b → filler_word image p ≡ 0
  filler-rest a b p run l m =
      let inside : b ≤ (a / 2147483648 + 1) * 2147483648 = let limit = run.inside in omega arith in
      cond-false (may_begin_filler image p) (filler_header (gap_at image p)) 0
      (or_from (eqb (p % 2147483648) 0) (is_live_word image (p - 1)) (ne_eqb (p % 2147483648) 0 (λ e. within_stride a b p l m inside e)) (run.dead (p - 1) (omega arith) (omega arith)))

  -- each dead word of the dense prefix is in a run
  pub dead_run-of : (p : ℕ) → p < P → is_live_word image p ≡ false → (a : ℕ) × (b : ℕ) × IsDeadRun image a b × (a ≤ p) × (p < b)
  dead_run-of p l dead =
      let base : ℕ = p / 2147483648 * 2147483648 in
      let start = start_of_stride p in
      let at : base + (p - base) ≡ p = omega arith in
      let limit : ℕ = filler_limit image p in
      let room : p + 1 ≤ limit = omega arith in
      let low = run_start (is_live_word image) base (p - base) in
      let high = run_end (is_live_word image) (p + 1) (limit - (p + 1)) in
      let a : ℕ = low.0 in
      let b : ℕ = high.0 in
      let above : base ≤ a = low.1 in
      let from : a ≤ base + (p - base) = low.2 in
      let up_to : a ≤ p = omega arith in
      let past : p + 1 ≤ b = high.1 in
      let up : b ≤ p + 1 + (limit - (p + 1)) = high.2 in
      let same : filler_limit image a ≡ limit = ap (λ k. min P ((k + 1) * 2147483648)) (same_stride a p above up_to) in
      let within : b ≤ limit = omega arith in
      let run : IsDeadRun image a b = record {
        some = omega arith;
        inside = subst (λ n. b ≤ n) (sym same) within;
        dead = λ q m n. elim (cases_lt q p) [
          | inl less ↦ low.3 q m (omega arith)
          | inr more ↦ elim (cases_lt p q) [
            | inl over ↦ high.3 q (omega arith) n
            | inr same ↦ let e : q ≡ p = omega arith in ap (is_live_word image) e ∙ dead
          ]
        ];
        begins = λ m. elim (cases_lt base a) [
          | inl more ↦ low.4 more
          | inr none ↦
              let first : a % 2147483648 ≡ 0 = first_of_stride a p (omega arith) in
              let no : ⊥ = omega arith in
              absurd no
        ];
        ends = λ m. let below : b < limit = subst (λ n. b < n) same m in high.4 (omega arith);
      } in
      (a, b, run, up_to, omega arith)

module _ (image : HeapImage) (sound : HasLiveList image) where
  pub top-above : prefix_end image ≤ new_top image
  top-above = let e = new_top-live_words image sound in omega arith

  -- a dead word of the dense prefix becomes its filler's word, in the moved heap too
  pub compacted-dead : (p : ℕ) → p < prefix_end image → is_live_word image p ≡ false → compacted_word image p ≡ filler_word image p
  compacted-dead p l dead =
      let top = top-above in
      cond-true (ltb p (new_top image)) (written image (λ _. true) (origin image p) p) 0 (lt-ltb p (new_top image) (omega arith))
      ∙ ap (λ o. written image (λ _. true) o p) (origin-dead image sound p l dead)

  pub moved-dead : (p : ℕ) → p < prefix_end image → is_live_word image p ≡ false → moved_word image p ≡ filler_word image p
  moved-dead p l dead =
      let top = top-above in
      cond-true (ltb p (new_top image)) (written image (λ a. not (is_deferred image a)) (origin image p) p) (get_or image.words p 0) (lt-ltb p (new_top image) (omega arith))
      ∙ ap (λ o. written image (λ a. not (is_deferred image a)) o p) (origin-dead image sound p l dead)
