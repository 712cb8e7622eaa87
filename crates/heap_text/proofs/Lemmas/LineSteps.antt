-- Lines of a text: what a line is that ends at the first newline.
use Rattle.std.proofs.Common.{◌≡◌, ℕ, ◌+◌, ◌^◌, ◌<◌, ◌≤◌, inl, inr, Bool, List, [], ◌∷◌, ◌++◌, codes, decimal, get_or, drop, refl, sym, ap, ◌∙◌, arith, append_assoc}
use Rattle.std.specs.Prelude.{◌==◌, if◌then◌else◌, flat_map}
use Rattle.std.specs.List.{AllByRecursion}
use Rattle.std.proofs.lemmas.Bool.{ne_eqb, cases_Bool}
use Rattle.std.proofs.lemmas.List.Sums.{sum_by-cons, sum_by-append}
use Rattle.heap_text.specs.Text.{number_line, number_text, reference_text}
use Rattle.heap_text.specs.TextLines.{ended_lines}
use Rattle.heap_text.specs.Tokens.{IsToken, reference_word}
use Rattle.heap_text.specs.Words.{all_equal, data_part, dead_part, references_part}
use Rattle.heap_text.proofs.Lemmas.PartSteps.{equal_part, first_fits, unequal_part}
use Rattle.heap_text.proofs.Lemmas.TokenSteps.{decimal_is_token}
use Rattle.heap_text.proofs.Lemmas.WordTexts.{reference_is, reference_is_word}

-- 1 for a newline
abbrev pub newlines_of : ℕ → ℕ
newlines_of b = if b == 10 then 1 else 0

pub lines_cons : (b : ℕ) (bs : List ℕ) → ended_lines (b ∷ bs) ≡ newlines_of b + ended_lines bs
lines_cons b bs = sum_by-cons newlines_of b bs

pub lines_append : (xs ys : List ℕ) → ended_lines (xs ++ ys) ≡ ended_lines xs + ended_lines ys
lines_append xs ys = sum_by-append newlines_of xs ys

pub no_newline : (b : ℕ) (bs : List ℕ) → b ≡ 10 → ended_lines (b ∷ bs) ≡ 0 → ⊥
no_newline b bs is none =
    let one : newlines_of b ≡ 1 = ap newlines_of is in
    omega (arith, lines_cons b bs, one, none)

pub less_lines : (b : ℕ) (bs : List ℕ) → ended_lines (b ∷ bs) ≡ 0 → ended_lines bs ≡ 0
less_lines b bs none = omega (arith, lines_cons b bs, none)

-- the first line of a text and what follows it
pub line_unique : (xs ys r s : List ℕ) → ended_lines xs ≡ 0 → ended_lines ys ≡ 0 → xs ++ (10 ∷ r) ≡ ys ++ (10 ∷ s) → (xs ≡ ys) × (r ≡ s)
line_unique [] [] r s p q e = (refl, ap (λ (zs : List ℕ). drop 1 zs) e)
line_unique [] (y ∷ ys) r s p q e =
    let first : 10 ≡ y = ap (λ (zs : List ℕ). get_or zs 0 0) e in
    absurd (no_newline y ys (sym first) q)
line_unique (x ∷ xs) [] r s p q e =
    let first : x ≡ 10 = ap (λ (zs : List ℕ). get_or zs 0 0) e in
    absurd (no_newline x xs first p)
line_unique (x ∷ xs) (y ∷ ys) r s p q e =
    let first : x ≡ y = ap (λ (zs : List ℕ). get_or zs 0 0) e in
    let both = line_unique xs ys r s (less_lines x xs p) (less_lines y ys q) (ap (λ (zs : List ℕ). drop 1 zs) e) in
    let tails : xs ≡ ys = both.0 in
    (cc, both.1)

pub token_lines : (bs : List ℕ) → IsToken bs → ended_lines bs ≡ 0
token_lines [] t = refl
token_lines (b ∷ bs) t =
    let low : 48 ≤ b = t.0 in
    let none : newlines_of b ≡ 0 = ap (λ (test : Bool). if test then 1 else 0) (ne_eqb b 10 (λ e. let no : ⊥ = omega (arith, e, low) in no)) in
    omega (arith, lines_cons b bs, none, token_lines bs t.1)

pub decimal_lines : (n : ℕ) → n < 2 ^ 64 → ended_lines (decimal n) ≡ 0
decimal_lines n few = token_lines (decimal n) (decimal_is_token n few)

pub number_lines : (n : ℕ) → n < 2 ^ 64 → ended_lines (number_text n) ≡ 0
number_lines n few = omega (arith, lines_append (codes " ") (decimal n), decimal_lines n few)

pub numbers_lines : (ws : List ℕ) → AllByRecursion (λ w. w < 2 ^ 64) ws → ended_lines (flat_map number_text ws) ≡ 0
numbers_lines [] fits = refl
numbers_lines (w ∷ ws) fits = omega (arith, lines_append (number_text w) (flat_map number_text ws), number_lines w fits.0, numbers_lines ws fits.1)

pub reference_lines : (w : ℕ) → w < 2 ^ 64 → ended_lines (reference_text w) ≡ 0
reference_lines w few =
    let is : ended_lines (reference_text w) ≡ ended_lines (32 ∷ reference_word w) = ap ended_lines (reference_is w) in
    omega (arith, is, lines_cons 32 (reference_word w), token_lines (reference_word w) (reference_is_word w few))

pub references_lines : (len : ℕ) (ws : List ℕ) → len ≤ 68719476736 → AllByRecursion (λ w. w ≤ len) ws → ended_lines (flat_map reference_text ws) ≡ 0
references_lines len [] few fits = refl
references_lines len (w ∷ ws) few fits =
    omega (arith, lines_append (reference_text w) (flat_map reference_text ws), reference_lines w (omega (arith, fits.0, few)), references_lines len ws few fits.1)

pub references_part_lines : (len : ℕ) (ws : List ℕ) → len ≤ 68719476736 → AllByRecursion (λ w. w ≤ len) ws → ended_lines (references_part ws) ≡ 0
references_part_lines len [] few fits = refl
references_part_lines len (w ∷ ws) few fits = omega (arith, lines_append (codes " refs") (flat_map reference_text (w ∷ ws)), references_lines len (w ∷ ws) few fits)

pub data_part_lines : (ws : List ℕ) → AllByRecursion (λ w. w < 2 ^ 64) ws → ended_lines (data_part ws) ≡ 0
data_part_lines [] fits = refl
data_part_lines (w ∷ ws) fits = omega (arith, lines_append (codes " data") (flat_map number_text (w ∷ ws)), numbers_lines (w ∷ ws) fits)

pub dead_part_lines : (ws : List ℕ) → AllByRecursion (λ w. w < 2 ^ 64) ws → ended_lines (dead_part ws) ≡ 0
dead_part_lines ws fits = elim (cases_Bool (all_equal ws)) [
  | inl equal ↦
      omega (arith, ap ended_lines (equal_part ws equal), lines_append (codes " of") (number_text (get_or ws 0 0)), number_lines (get_or ws 0 0) (first_fits ws fits))
  | inr other ↦
      omega (arith, ap ended_lines (unequal_part ws other), lines_append (codes " words") (flat_map number_text ws), numbers_lines ws fits)
]

-- a line of a name and a number
pub number_line_front : (name space number newline X : List ℕ) → (name ++ (space ++ (number ++ newline))) ++ X ≡ ((name ++ space) ++ number) ++ (newline ++ X)
number_line_front name space number newline X = simp append_assoc

pub number_line_is : (name line rest X : List ℕ) (n : ℕ) → n < 2 ^ 64 → ended_lines (name ++ codes " ") ≡ 0 → ended_lines line ≡ 0 → line ++ (10 ∷ rest) ≡ number_line name n ++ X
    → (line ≡ (name ++ codes " ") ++ decimal n) × (rest ≡ X)
number_line_is name line rest X n few one one' is =
    line_unique line ((name ++ codes " ") ++ decimal n) rest X one' (omega (arith, one, lines_append (name ++ codes " ") (decimal n), decimal_lines n few))
    (is ∙ number_line_front name (codes " ") (decimal n) (codes "\n") X)
