-- Splitting a line at its spaces, and reading numbers.
use Rattle.std.proofs.Common.{◌≡◌, ◌≢◌, inl, inr, ℕ, zero, suc, ◌+◌, ◌*◌, ◌-◌, ◌%◌, ◌^◌, ◌<◌, ◌≤◌, true, ◌&&◌, decimal, List, [], ◌∷◌, ◌++◌, rules, length, get_or, take, drop, refl, sym, ap, ◌∙◌, arith, add-one, length-append}
use Rattle.std.specs.Str.{all_ascii_digits}
use lib.Pointwise.{pointwise}
use lib.Dec.{eqb}
use Rattle.std.proofs.lemmas.Bool.{cases_lt, eq-eqb}
use Rattle.std.proofs.lemmas.Fmt.{decimal_digit, decimal_nonempty, decimal_is_IsNumeral, digits_value-decimal, first_decimal, decimal_by_steps}
use Rattle.std.proofs.lemmas.List.{at_drop_more, drop_all, get_or-drop, get_or_append_left}
use Rattle.std.proofs.Math.Nat.{pow-suc, pow-le-pow_right}
use Rattle.std.proofs.lemmas.Str.Parse.{IsNumeralModel, digit_at, numerals_by_fold}
use Rattle.heap_text.specs.Tokens.{IsToken, IsAfterToken}

-- the first space of a token and what follows it is at the token's end
pub space_ends : (token rest : List ℕ) (i : ℕ) → IsToken token → IsAfterToken rest → i < length (token ++ rest)
    → ((k : ℕ) → k < i → get_or (token ++ rest) k 0 ≢ 32) → get_or (token ++ rest) i 0 ≡ 32 → i ≡ length token
space_ends [] [] i t r l before here = absurd (omega arith)
space_ends [] (b ∷ rest) zero t r l before here = refl
space_ends [] (b ∷ rest) (suc i) t r l before here = absurd (before 0 (omega arith) r)
space_ends (b ∷ token) rest zero t r l before here = absurd (omega (arith, t.0, here))
space_ends (b ∷ token) rest (suc i) t r l before here =
    ap suc (space_ends token rest i t.1 r (omega arith) (λ k low. before (suc k) (omega arith)) here)

-- without a space nothing follows the token
pub no_space : (token rest : List ℕ) → IsToken token → IsAfterToken rest → ((k : ℕ) → k < length (token ++ rest) → get_or (token ++ rest) k 0 ≢ 32) → rest ≡ []
no_space [] [] t r none = refl
no_space [] (b ∷ rest) t r none = absurd (none 0 (omega arith) r)
no_space (b ∷ token) rest t r none = no_space token rest t.1 r (λ k low. none (suc k) (omega arith))

pub take_token : (token rest : List ℕ) → take (length token) (token ++ rest) ≡ token
take_token [] rest = refl
take_token (b ∷ token) rest = ap (λ (xs : List ℕ). b ∷ xs) (take_token token rest)

pub drop_token : (token rest : List ℕ) → drop (length token) (token ++ rest) ≡ rest
drop_token [] rest = refl
drop_token (b ∷ token) rest = drop_token token rest

-- the number that digits continue
abbrev pub read_on : ℕ → List ℕ → ℕ
read_on n [] = n
read_on n (c ∷ cs) = read_on (n * 10 + (c - 48)) cs

pub read_on_model : IsNumeralModel (λ ds. all_ascii_digits ds ≡ true) (read_on 0)
read_on_model = numerals_by_fold _ (search rules) read_on (search rules)

pub read_on_grows : (n : ℕ) (cs : List ℕ) → n ≤ read_on n cs
read_on_grows n [] = omega arith
read_on_grows n (c ∷ cs) = omega (arith, read_on_grows (n * 10 + (c - 48)) cs)

-- the text of a number
module _ (n : ℕ) (bytes : List ℕ) (few : n < 2 ^ 64) (is : bytes ≡ decimal n) where
  pub decimal_some : 0 < length bytes
  decimal_some = omega (arith, decimal_nonempty n few, ap (λ (xs : List ℕ). length xs) is)

  pub decimal_short : get_or bytes 0 0 ≡ 48 → length bytes ≡ 1
  decimal_short zero_first = elim (cases_lt 0 n) [
    | inl some ↦ absurd (omega (arith, zero_first, first_decimal n some few, ap (λ (xs : List ℕ). get_or xs 0 0) is))
    | inr none ↦
        let none' : n ≡ 0 = omega arith in
        let whole : bytes ≡ 48 ∷ [] = is ∙ (ap decimal none' ∙ decimal_digit 0 (omega arith)) in
        ap (λ (xs : List ℕ). length xs) whole
  ]

  pub decimal_digits : (i : ℕ) → i < length bytes → (48 ≤ get_or bytes i 0) × (get_or bytes i 0 ≤ 57)
  decimal_digits i inside =
      let numeral = decimal_is_IsNumeral n few in
      let digit = digit_at (decimal n) i numeral.0.1 (omega (arith, inside, ap (λ (xs : List ℕ). length xs) is)) in
      let same : get_or bytes i 0 ≡ get_or (decimal n) i 0 = ap (λ (xs : List ℕ). get_or xs i 0) is in
      (omega (arith, same, digit), omega (arith, same, digit))

  pub decimal_value : read_on 0 bytes ≡ n
  decimal_value = ap (read_on 0) is ∙ digits_value-decimal read_on_model n few

  -- the next digit continues the number to one that is at most n
  pub decimal_so_far : (number i : ℕ) → read_on number (drop i bytes) ≡ read_on 0 bytes → i < length bytes → number * 10 + (get_or bytes i 0 - 48) ≤ n
  decimal_so_far number i so_far inside =
      let step : read_on number (drop i bytes) ≡ read_on (number * 10 + (get_or bytes i 0 - 48)) (drop (i + 1) bytes) = at_drop_more (read_on number) bytes i 0 inside in
      omega (arith, step, so_far, decimal_value, read_on_grows (number * 10 + (get_or bytes i 0 - 48)) (drop (i + 1) bytes))

-- a number of so many digits is read, and the digits that are left continue it
pub record IsReading (n count number : ℕ) : Type 0 where
  pub within : count ≤ length (decimal n)
  pub continues : read_on number (drop count (decimal n)) ≡ read_on 0 (decimal n)

-- bytes that begin with the text of a number
module _ (n : ℕ) (rest bytes : List ℕ) (few : n < 2 ^ 64) (after : IsAfterToken rest) (is : bytes ≡ decimal n ++ rest) where
  pub digit_there : (k : ℕ) → k < length (decimal n) → get_or bytes k 0 ≡ get_or (decimal n) k 0
  digit_there k inside = ap (λ (xs : List ℕ). get_or xs k 0) is ∙ get_or_append_left (decimal n) rest 0 k inside

  after_there : (xs : List ℕ) → IsAfterToken xs → 0 < length xs → get_or xs 0 0 ≡ 32
  after_there [] h some = absurd (omega (arith, some))
  after_there (x ∷ xs) h some = h

  pub rest_there : drop (length (decimal n)) bytes ≡ rest
  rest_there = ap (λ (xs : List ℕ). drop (length (decimal n)) xs) is ∙ drop_token (decimal n) rest

  pub space_there : length (decimal n) < length bytes → get_or bytes (length (decimal n)) 0 ≡ 32
  space_there inside =
      let some : 0 < length rest = omega (arith, inside, ap (λ (xs : List ℕ). length xs) is, length-append (decimal n) rest) in
      let at : length (decimal n) + 0 ≡ length (decimal n) = omega arith in
      ap (λ (k : ℕ). get_or bytes k 0) (sym at)
      ∙ (sym (get_or-drop (length (decimal n)) bytes 0 0) ∙ (ap (λ (xs : List ℕ). get_or xs 0 0) rest_there ∙ after_there rest after some))

  pub digits_inside : length (decimal n) ≤ length bytes
  digits_inside = omega (arith, ap (λ (xs : List ℕ). length xs) is, length-append (decimal n) rest)

  -- a digit that comes next is one of the number
  pub next_inside : (count number : ℕ) → IsReading n count number → count < length bytes → 48 ≤ get_or bytes count 0 → count < length (decimal n)
  next_inside count number r inside digit = elim (cases_lt count (length (decimal n))) [
    | inl low ↦ low
    | inr past ↦
        let here : length (decimal n) ≡ count = omega (arith, past, r.within) in
        let space : get_or bytes count 0 ≡ 32 = ap (λ (k : ℕ). get_or bytes k 0) (sym here) ∙ space_there (omega (arith, here, inside)) in
        absurd (omega (arith, space, digit))
  ]

  -- another byte comes next after the last digit only
  pub last_inside : (count number : ℕ) → IsReading n count number → (count < length (decimal n) → (48 ≤ get_or bytes count 0) × (get_or bytes count 0 ≤ 57) → ⊥) → count ≡ length (decimal n)
  last_inside count number r no_digit = elim (cases_lt count (length (decimal n))) [
    | inl low ↦
        let d = decimal_digits n (decimal n) few refl count low in
        let same = digit_there count low in
        absurd (no_digit low (omega (arith, d.0, same), omega (arith, d.1, same)))
    | inr past ↦ omega (arith, past, r.within)
  ]

  pub reading_step : (count number : ℕ) → IsReading n count number → count < length (decimal n) → IsReading n (count + 1) (number * 10 + (get_or bytes count 0 - 48))
  reading_step count number r low = record {
    within = omega (arith, low);
    continues = ap (λ (b : ℕ). read_on (number * 10 + (b - 48)) (drop (count + 1) (decimal n))) (digit_there count low)
        ∙ (sym (at_drop_more (read_on number) (decimal n) count 0 low) ∙ r.continues);
  }

  pub reading_most : (count number : ℕ) → IsReading n count number → count < length (decimal n) → number * 10 + (get_or bytes count 0 - 48) ≤ n
  reading_most count number r low =
      omega (arith, digit_there count low, decimal_so_far n (decimal n) few refl number count r.continues low)

  pub reading_end : (count number : ℕ) → IsReading n count number → count ≡ length (decimal n) → number ≡ n
  reading_end count number r end =
      let none : drop count (decimal n) ≡ [] = drop_all count (decimal n) (omega (arith, end)) in
      ap (read_on number) (sym none) ∙ (r.continues ∙ decimal_value n (decimal n) few refl)

pub reading_begin : (n : ℕ) → IsReading n 0 0
reading_begin n = record { within = omega arith; continues = refl }

-- a digit more keeps the number below the next power of ten
pub below_power : (number digit count : ℕ) → number < 10 ^ count → digit ≤ 9 → number * 10 + digit < 10 ^ (count + 1)
below_power number digit count small d =
    let step : 10 ^ (count + 1) ≡ 10 ^ count * 10 = ap (λ (k : ℕ). 10 ^ k) (add-one count) ∙ pow-suc 10 count in
    omega (arith, step, small, d)

pub safe_power : (count : ℕ) → count ≤ 19 → 10 ^ count ≤ 10000000000000000000
safe_power count low = pow-le-pow_right {n = 10} (omega arith) low

pub append_token : (xs ys : List ℕ) → IsToken xs → IsToken ys → IsToken (xs ++ ys)
append_token [] ys h k = k
append_token (x ∷ xs) ys h k = (h.0, append_token xs ys h.1 k)

pub decimal_is_token : (n : ℕ) → n < 2 ^ 64 → IsToken (decimal n)
decimal_is_token =
    let P : ℕ → List ℕ → Type 0 = λ m ds. IsToken ds in
    decimal_by_steps P (λ m short. (omega arith, tt)) (λ m ds long h. append_token ds ((48 + m % 10) ∷ []) h (omega arith, tt))

-- a line begins with its label
pub same_bytes : (xs : List ℕ) → pointwise eqb xs xs ≡ true
same_bytes [] = refl
same_bytes (x ∷ xs) = ap (λ b. b && pointwise eqb xs xs) (eq-eqb x x refl) ∙ same_bytes xs

pub begins_with : (line label rest : List ℕ) → line ≡ label ++ rest → pointwise eqb (take (length label) line) label ≡ true
begins_with line label rest is =
    ap (λ (xs : List ℕ). pointwise eqb xs label) (ap (λ (xs : List ℕ). take (length label) xs) is ∙ take_token label rest) ∙ same_bytes label
