-- Texts: words that end at a byte, and decimal numbers.
use Rattle.std.proofs.Common.{◌≡◌, ◌≢◌, ℕ, suc, ◌+◌, ◌/◌, ◌%◌, ◌^◌, ◌<◌, ◌≤◌, Bool, true, false, List, [], ◌∷◌, ◌++◌, length, get_or, take, drop, refl, sym, ap, ◌∙◌, inl, inr, arith, add-one, drop-cons}
use Rattle.std.specs.Prelude.{not, ◌==◌, ◌||◌, decimal}
use Rattle.std.specs.List.{list_any}
use Rattle.std.proofs.lemmas.Bool.{cases_lt, eq-eqb, ne_eqb, or_from, not-true, not_from_false, false≢true}
use Rattle.std.proofs.lemmas.List.{take-append-drop}
use Rattle.std.proofs.lemmas.List.Folds.{list_any-append}
use Rattle.std.proofs.lemmas.Fmt.{decimal_digit, decimal_step, decimal_by_steps}
use Rattle.std.proofs.Math.Seq.{take-suc}
use Rattle.history.specs.Reading.{is_without}

pub without_nil : (c : ℕ) → is_without c [] ≡ true
without_nil c = refl

without_parts : (c b : ℕ) (bs : List ℕ) → is_without c (b ∷ bs) ≡ true → (b ≢ c) × (is_without c bs ≡ true)
without_parts c b bs h = go (b == c) (list_any (λ x. x == c) bs) h refl
  where
    go : (x y : Bool) → not (x || y) ≡ true → x ≡ (b == c) → (b ≢ c) × (not y ≡ true)
    go true y h e = absurd (false≢true h)
    go false y h e = (λ same. let f : false ≡ true = e ∙ eq-eqb b c same in false≢true f, h)

-- the byte is in the middle
not_without : (c : ℕ) (front rest : List ℕ) → is_without c (front ++ c ∷ rest) ≡ true → ⊥
not_without c [] rest h = (without_parts c c rest h).0 refl
not_without c (b ∷ front) rest h = not_without c front rest (without_parts c b (front ++ c ∷ rest) h).1

pub without-append : (c : ℕ) (xs ys : List ℕ) → is_without c xs ≡ true → is_without c ys ≡ true → is_without c (xs ++ ys) ≡ true
without-append c xs ys h k =
    not_from_false (list_any (λ b. b == c) (xs ++ ys)) (list_any-append (λ b. b == c) xs ys ∙ or_from (list_any (λ b. b == c) xs) (list_any (λ b. b == c) ys) (not-true (list_any (λ b. b == c) xs) h) (not-true (list_any (λ b. b == c) ys) k))

pub without_one : (c b : ℕ) → b ≢ c → is_without c (b ∷ []) ≡ true
without_one c b n = rw (ne_eqb b c n) refl

-- a word that ends at a byte is unique, and so is what follows
pub split_unique : (c : ℕ) (v w r s : List ℕ) → is_without c v ≡ true → is_without c w ≡ true → v ++ c ∷ r ≡ w ++ c ∷ s → (v ≡ w) × (r ≡ s)
split_unique c [] [] r s h k e = (refl, cc)
split_unique c [] (b ∷ w) r s h k e = absurd ((without_parts c b w k).0 (let f : c ∷ r ≡ b ∷ (w ++ c ∷ s) = e in cc))
split_unique c (a ∷ v) [] r s h k e = absurd ((without_parts c a v h).0 (let f : a ∷ (v ++ c ∷ r) ≡ c ∷ s = e in cc))
split_unique c (a ∷ v) (b ∷ w) r s h k e =
    let f : a ∷ (v ++ c ∷ r) ≡ b ∷ (w ++ c ∷ s) = e in
    let same : a ≡ b = cc in
    let rest : v ++ c ∷ r ≡ w ++ c ∷ s = cc in
    let both = split_unique c v w r s (without_parts c a v h).1 (without_parts c b w k).1 rest in
    let one : v ≡ w = both.0 in
    (cc, both.1)

-- one byte more that isn't the end
pub word_more : (c : ℕ) (bs : List ℕ) (i : ℕ) → i < length bs → get_or bs i 0 ≢ c → is_without c (take i bs) ≡ true → is_without c (take (i + 1) bs) ≡ true
word_more c bs i lt other h =
    ap (λ (n : ℕ). is_without c (take n bs)) (add-one i) ∙ (ap (is_without c) (take-suc bs i 0 lt) ∙ without-append c (take i bs) (get_or bs i 0 ∷ []) h (without_one c (get_or bs i 0) other))

-- the end is found
pub word_ends : (c : ℕ) (bs : List ℕ) (i : ℕ) → i < length bs → get_or bs i 0 ≡ c → bs ≡ take i bs ++ c ∷ drop (i + 1) bs
word_ends c bs i lt here =
    sym (take-append-drop i bs) ∙ ap (λ xs. take i bs ++ xs) (drop-cons bs i 0 lt ∙ (ap (λ (b : ℕ). b ∷ drop (suc i) bs) here ∙ ap (λ (n : ℕ). c ∷ drop n bs) (sym (add-one i))))

pub no_end : (c : ℕ) (bs : List ℕ) → is_without c bs ≡ true → (front rest : List ℕ) → bs ≢ front ++ c ∷ rest
no_end c bs h front rest e = not_without c front rest (ap (is_without c) (sym e) ∙ h)

-- a number's digits are none of the lower bytes
pub decimal_without : (c n : ℕ) → c < 48 → n < 2 ^ 64 → is_without c (decimal n) ≡ true
decimal_without c n low few =
    let P : ℕ → List ℕ → Type 0 = λ m ds. is_without c ds ≡ true in
    decimal_by_steps P (λ m short. without_one c (48 + m) (λ e. let no : ⊥ = omega arith in no))
    (λ m ds long h. without-append c ds ((48 + m % 10) ∷ []) h (without_one c (48 + m % 10) (λ e. let no : ⊥ = omega arith in no))) n few

nil_not_snoc : (ys : List ℕ) (y : ℕ) → [] ≡ ys ++ y ∷ [] → ⊥
nil_not_snoc [] y e = cc
nil_not_snoc (b ∷ ys) y e = let f : [] ≡ b ∷ (ys ++ y ∷ []) = e in cc

-- the last of a list, and those before it
snoc_same : (xs ys : List ℕ) (x y : ℕ) → xs ++ x ∷ [] ≡ ys ++ y ∷ [] → (xs ≡ ys) × (x ≡ y)
snoc_same [] [] x y e = (refl, cc)
snoc_same [] (b ∷ ys) x y e = absurd (nil_not_snoc ys y (let f : x ∷ [] ≡ b ∷ (ys ++ y ∷ []) = e in cc))
snoc_same (a ∷ xs) [] x y e = absurd (nil_not_snoc xs x (let f : a ∷ (xs ++ x ∷ []) ≡ y ∷ [] = e in cc))
snoc_same (a ∷ xs) (b ∷ ys) x y e =
    let f : a ∷ (xs ++ x ∷ []) ≡ b ∷ (ys ++ y ∷ []) = e in
    let same : a ≡ b = cc in
    let both = snoc_same xs ys x y (let g : xs ++ x ∷ [] ≡ ys ++ y ∷ [] = cc in g) in
    let front : xs ≡ ys = both.0 in
    (cc, both.1)

-- the last digit of a number, and those before it
pub decimal_short : (n : ℕ) → n < 10 → decimal n ≡ [] ++ (48 + n % 10) ∷ []
decimal_short n l = decimal_digit n l ∙ ap (λ d. (48 + d) ∷ []) (let m : n ≡ n % 10 = omega arith in m)

pub digits_of_short : (n last : ℕ) (front : List ℕ) → n < 10 → front ++ last ∷ [] ≡ decimal n → (front ≡ []) × (last ≡ 48 + n % 10)
digits_of_short n last front l e = snoc_same front [] last (48 + n % 10) (e ∙ decimal_short n l)

pub digits_of_long : (n last : ℕ) (front : List ℕ) → 10 ≤ n → n < 2 ^ 64 → front ++ last ∷ [] ≡ decimal n → (front ≡ decimal (n / 10)) × (last ≡ 48 + n % 10)
digits_of_long n last front l few e = snoc_same front (decimal (n / 10)) last (48 + n % 10) (e ∙ decimal_step n l few)

-- the last digit of a number, whatever its length
pub last_digit : (n last : ℕ) (front : List ℕ) → n < 2 ^ 64 → front ++ last ∷ [] ≡ decimal n → last ≡ 48 + n % 10
last_digit n last front few e = elim (cases_lt n 10) [
  | inl short ↦ (digits_of_short n last front short e).1
  | inr long ↦ (digits_of_long n last front long few e).1
]

pub digits_one : (n last : ℕ) (front : List ℕ) → n < 10 → last ≡ 48 + n % 10 → front ≡ [] → front ++ last ∷ [] ≡ decimal n
digits_one n last front l d e = ap (λ (xs : List ℕ). xs ++ last ∷ []) e ∙ (ap (λ (x : ℕ). [] ++ x ∷ []) d ∙ sym (decimal_short n l))

pub digits_more : (n last : ℕ) (front : List ℕ) → 10 ≤ n → n < 2 ^ 64 → last ≡ 48 + n % 10 → front ≡ decimal (n / 10) → front ++ last ∷ [] ≡ decimal n
digits_more n last front l few d e = ap (λ (xs : List ℕ). xs ++ last ∷ []) e ∙ (ap (λ (x : ℕ). decimal (n / 10) ++ x ∷ []) d ∙ sym (decimal_step n l few))

pub empty_is : (xs : List ℕ) → length xs ≡ 0 → xs ≡ []
empty_is [] e = refl
empty_is (x ∷ xs) e = absurd (let no : ⊥ = omega arith in no)
