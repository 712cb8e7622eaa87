-- Tokens of a line end at a space or a newline, so equal texts have equal tokens.
use Rattle.std.proofs.Common.{◌≡◌, ◌≢◌, ℕ, zero, suc, false, ◌+◌, ◌-◌, ◌^◌, ◌%◌, ◌<◌, ◌≤◌, inl, inr, List, [], ◌∷◌, ◌++◌, decimal, get_or, refl, sym, ap, ◌∙◌, arith, append_assoc}
use Rattle.std.specs.Prelude.{◌==◌, flat_map}
use Rattle.std.specs.List.{range_with_len, AllByRecursion}
use Rattle.std.proofs.lemmas.Bool.{cases_lt, ne_eqb}
use Rattle.std.proofs.lemmas.Fmt.{decimal_by_steps, decimal_injective}
use Rattle.heap_text.specs.Text.{reference_text}
pub use Rattle.heap_text.specs.Tokens.{IsToken, reference_word}

-- the text ends a token before it: its first byte is a space, a newline or another one below the digits
abbrev pub EndsToken : List ℕ → Type 0
EndsToken [] = ⊥
EndsToken (b ∷ bs) = b < 48

pub word-append : (xs ys : List ℕ) → IsToken xs → IsToken ys → IsToken (xs ++ ys)
word-append [] ys h k = k
word-append (x ∷ xs) ys h k = (h.0, word-append xs ys h.1 k)

pub decimal_is_word : (n : ℕ) → n < 2 ^ 64 → IsToken (decimal n)
decimal_is_word =
    let P : ℕ → List ℕ → Type 0 = λ m ds. IsToken ds in
    decimal_by_steps P (λ m short. (omega arith, tt)) (λ m ds long h. word-append ds ((48 + m % 10) ∷ []) h (omega arith, tt))

-- equal texts begin with equal tokens, and equal texts follow
pub word_unique : (v w r s : List ℕ) → IsToken v → IsToken w → EndsToken r → EndsToken s → v ++ r ≡ w ++ s → (v ≡ w) × (r ≡ s)
word_unique [] [] r s h k p q e = (refl, e)
word_unique [] (b ∷ w) [] s h k p q e = absurd p
word_unique [] (b ∷ w) (c ∷ r) s h k p q e =
    let f : c ∷ r ≡ b ∷ (w ++ s) = e in
    let same : c ≡ b = cc in
    let low : c < 48 = p in
    let high : 48 ≤ b = k.0 in
    absurd (omega arith)
word_unique (a ∷ v) [] r [] h k p q e = absurd q
word_unique (a ∷ v) [] r (c ∷ s) h k p q e =
    let f : a ∷ (v ++ r) ≡ c ∷ s = e in
    let same : a ≡ c = cc in
    let low : c < 48 = q in
    let high : 48 ≤ a = h.0 in
    absurd (omega arith)
word_unique (a ∷ v) (b ∷ w) r s h k p q e =
    let f : a ∷ (v ++ r) ≡ b ∷ (w ++ s) = e in
    let same : a ≡ b = cc in
    let rest : v ++ r ≡ w ++ s = cc in
    let both = word_unique v w r s h.1 k.1 p q rest in
    let one : v ≡ w = both.0 in
    (cc, both.1)

pub decimal_unique : (m n : ℕ) (r s : List ℕ) → m < 2 ^ 64 → n < 2 ^ 64 → EndsToken r → EndsToken s → decimal m ++ r ≡ decimal n ++ s → (m ≡ n) × (r ≡ s)
decimal_unique m n r s few few' p q e =
    let both = word_unique (decimal m) (decimal n) r s (decimal_is_word m few) (decimal_is_word n few') p q e in
    (decimal_injective m n few few' both.0, both.1)

not_zero : (n : ℕ) → (suc n == 0) ≡ false
not_zero n = ne_eqb (suc n) 0 (λ e. let no : ⊥ = omega (arith, e) in no)

pub some_reference : (n : ℕ) → reference_word (suc n) ≡ 64 ∷ decimal (suc n - 1)
some_reference n = rw (not_zero n) refl

pub reference_is : (w : ℕ) → reference_text w ≡ 32 ∷ reference_word w
reference_is zero = refl
reference_is (suc n) = rw (not_zero n) refl

pub reference_is_word : (w : ℕ) → w < 2 ^ 64 → IsToken (reference_word w)
reference_is_word zero few = (omega arith, (omega arith, (omega arith, (omega arith, tt))))
reference_is_word (suc n) few = rw (some_reference n) (omega arith, decimal_is_word (suc n - 1) (omega arith))

pub reference_injective : (v w : ℕ) → v < 2 ^ 64 → w < 2 ^ 64 → reference_word v ≡ reference_word w → v ≡ w
reference_injective zero zero few few' e = refl
reference_injective zero (suc n) few few' e =
    let f : 110 ∷ (117 ∷ (108 ∷ (108 ∷ []))) ≡ 64 ∷ decimal (suc n - 1) = e ∙ some_reference n in
    let same : 110 ≡ 64 = ap (λ (xs : List ℕ). get_or xs 0 0) f in
    absurd (omega (arith, same))
reference_injective (suc n) zero few few' e =
    let f : 64 ∷ decimal (suc n - 1) ≡ 110 ∷ (117 ∷ (108 ∷ (108 ∷ []))) = sym (some_reference n) ∙ e in
    let same : 64 ≡ 110 = ap (λ (xs : List ℕ). get_or xs 0 0) f in
    absurd (omega (arith, same))
reference_injective (suc m) (suc n) few few' e =
    let f : 64 ∷ decimal (suc m - 1) ≡ 64 ∷ decimal (suc n - 1) = sym (some_reference m) ∙ (e ∙ some_reference n) in
    let same : decimal (suc m - 1) ≡ decimal (suc n - 1) = cc in
    let numbers : suc m - 1 ≡ suc n - 1 = decimal_injective (suc m - 1) (suc n - 1) (omega arith) (omega arith) same in
    omega (arith, numbers)

-- two runs of words are of equal length and have equal words, and equal texts follow
pub record AreAlike (f g : ℕ → ℕ) (a n m : ℕ) (X Y : List ℕ) : Type 0 where
  pub count : n ≡ m
  pub rest : X ≡ Y
  pub words : (q : ℕ) → a ≤ q → q < a + n → f q ≡ g q

-- runs of words, each after a space, up to a text that begins with no further one
module _ (text item : ℕ → List ℕ) (is : (w : ℕ) → text w ≡ 32 ∷ item w)
    (words : (w : ℕ) → w < 2 ^ 64 → IsToken (item w))
    (injective : (v w : ℕ) → v < 2 ^ 64 → w < 2 ^ 64 → item v ≡ item w → v ≡ w)
    (Ends : List ℕ → Type 0) (ends_token : (X : List ℕ) → Ends X → EndsToken X)
    (ends : (w : ℕ) (A X : List ℕ) → w < 2 ^ 64 → Ends X → 32 ∷ (item w ++ A) ≢ X) where
  abbrev pub run_of : (ℕ → ℕ) → ℕ → ℕ → List ℕ
  run_of f a n = flat_map (λ q. text (f q)) (range_with_len a n)

  run_ends : (f : ℕ → ℕ) (a n : ℕ) (X : List ℕ) → Ends X → EndsToken (run_of f a n ++ X)
  run_ends f a zero X e = ends_token X e
  run_ends f a (suc n) X e = rw (is (f a)) (omega arith)

  parts : (f : ℕ → ℕ) (a n : ℕ) (X : List ℕ) → run_of f a (suc n) ++ X ≡ 32 ∷ (item (f a) ++ (run_of f (a + 1) n ++ X))
  parts f a n X = append_assoc (text (f a)) (run_of f (a + 1) n) X ∙ ap (λ (t : List ℕ). t ++ (run_of f (a + 1) n ++ X)) (is (f a))

  pub run_unique : (f g : ℕ → ℕ) → ((q : ℕ) → f q < 2 ^ 64) → ((q : ℕ) → g q < 2 ^ 64) → (n m a : ℕ) (X Y : List ℕ) → Ends X → Ends Y
      → run_of f a n ++ X ≡ run_of g a m ++ Y → AreAlike f g a n m X Y
  run_unique f g few few' zero zero a X Y p q e = record { count = refl; rest = e; words = λ i low high. absurd (omega arith) }
  run_unique f g few few' zero (suc m) a X Y p q e = absurd (ends (g a) (run_of g (a + 1) m ++ Y) X (few' a) p (sym (e ∙ parts g a m Y)))
  run_unique f g few few' (suc n) zero a X Y p q e = absurd (ends (f a) (run_of f (a + 1) n ++ X) Y (few a) q (sym (parts f a n X) ∙ e))
  run_unique f g few few' (suc n) (suc m) a X Y p q e =
      let A : List ℕ = run_of f (a + 1) n ++ X in
      let B : List ℕ = run_of g (a + 1) m ++ Y in
      let both : 32 ∷ (item (f a) ++ A) ≡ 32 ∷ (item (g a) ++ B) = sym (parts f a n X) ∙ (e ∙ parts g a m Y) in
      let same : item (f a) ++ A ≡ item (g a) ++ B = cc in
      let one = word_unique (item (f a)) (item (g a)) A B (words (f a) (few a)) (words (g a) (few' a)) (run_ends f (a + 1) n X p) (run_ends g (a + 1) m Y q) same in
      let first : f a ≡ g a = injective (f a) (g a) (few a) (few' a) one.0 in
      let others = run_unique f g few few' n m (a + 1) X Y p q one.1 in
      record {
        count = ap suc others.count;
        rest = others.rest;
        words = λ i low high. elim (cases_lt a i) [
          | inl later ↦ others.words i (omega arith) (omega arith)
          | inr here ↦ let at : i ≡ a = omega arith in ap f at ∙ (first ∙ ap g (sym at))
        ];
      }

  list_ends : (xs : List ℕ) (X : List ℕ) → Ends X → EndsToken (flat_map text xs ++ X)
  list_ends [] X e = ends_token X e
  list_ends (x ∷ xs) X e = rw (is x) (omega arith)

  front : (x : ℕ) (xs : List ℕ) (X : List ℕ) → flat_map text (x ∷ xs) ++ X ≡ 32 ∷ (item x ++ (flat_map text xs ++ X))
  front x xs X = append_assoc (text x) (flat_map text xs) X ∙ ap (λ (t : List ℕ). t ++ (flat_map text xs ++ X)) (is x)

  -- equal texts begin with equal lists, and equal texts follow
  pub list_unique : (xs ys : List ℕ) → AllByRecursion (λ w. w < 2 ^ 64) xs → AllByRecursion (λ w. w < 2 ^ 64) ys → (X Y : List ℕ) → Ends X → Ends Y
      → flat_map text xs ++ X ≡ flat_map text ys ++ Y → (xs ≡ ys) × (X ≡ Y)
  list_unique [] [] few few' X Y p q e = (refl, e)
  list_unique [] (y ∷ ys) few few' X Y p q e = absurd (ends y (flat_map text ys ++ Y) X few'.0 p (sym (e ∙ front y ys Y)))
  list_unique (x ∷ xs) [] few few' X Y p q e = absurd (ends x (flat_map text xs ++ X) Y few.0 q (sym (front x xs X) ∙ e))
  list_unique (x ∷ xs) (y ∷ ys) few few' X Y p q e =
      let A : List ℕ = flat_map text xs ++ X in
      let B : List ℕ = flat_map text ys ++ Y in
      let both : 32 ∷ (item x ++ A) ≡ 32 ∷ (item y ++ B) = sym (front x xs X) ∙ (e ∙ front y ys Y) in
      let same : item x ++ A ≡ item y ++ B = cc in
      let one = word_unique (item x) (item y) A B (words x few.0) (words y few'.0) (list_ends xs X p) (list_ends ys Y q) same in
      let first : x ≡ y = injective x y few.0 few'.0 one.0 in
      let others = list_unique xs ys few.1 few'.1 X Y p q one.1 in
      let rest : xs ≡ ys = others.0 in
      (cc, others.1)
