-- How many bytes a line can have, and which.
use Rattle.std.proofs.Common.{◌≡◌, ℕ, zero, suc, ◌+◌, ◌*◌, ◌-◌, ◌^◌, ◌<◌, ◌≤◌, ◌⊎◌, inl, inr, true, false, ◌&&◌, ◌||◌, List, [], ◌∷◌, ◌++◌, codes, decimal, get_or, drop, length, refl, sym, ap, ◌∙◌, subst, arith, length-append, ◌==◌}
use Rattle.std.specs.Prelude.{flat_map, nat_le}
use Rattle.std.specs.List.{AllByRecursion, list_all}
use Rattle.std.proofs.lemmas.Bool.{and_parts, cases_Bool, le-leb}
use Rattle.std.proofs.lemmas.Fmt.{length-decimal-le}
use Rattle.std.proofs.lemmas.List.Folds.{list_all-append}
use Rattle.heap_text.specs.Text.{number_text, reference_text}
use Rattle.heap_text.specs.TextLines.{ended_lines}
use Rattle.heap_text.specs.TextBytes.{is_text_byte}
use Rattle.heap_text.specs.Words.{all_equal, data_part, dead_part, references_part}
use Rattle.heap_text.proofs.Lemmas.LineSteps.{no_newline, less_lines}
use Rattle.heap_text.proofs.Lemmas.PartSteps.{equal_part, unequal_part, first_fits}
use Rattle.heap_text.proofs.Lemmas.TokenSteps.{decimal_digits}
use Rattle.heap_text.proofs.Lemmas.WordTexts.{reference_is, some_reference}
use Rattle.heap_text.proofs.Lemmas.HeapLines.{object_line, dead_line}

-- at most so many bytes, and each may be in a line
pub record IsPart (bytes : List ℕ) (most : ℕ) : Type 0 where
  pub short : length bytes ≤ most
  pub plain : list_all is_text_byte bytes ≡ true

pub part_append : (xs ys : List ℕ) (m n : ℕ) → IsPart xs m → IsPart ys n → IsPart (xs ++ ys) (m + n)
part_append xs ys m n p q =
    record {
      short = omega (arith, length-append xs ys, p.short, q.short);
      plain = list_all-append is_text_byte xs ys ∙ (ap (λ b. b && list_all is_text_byte ys) p.plain ∙ q.plain);
    }

pub part_within : (xs : List ℕ) (m n : ℕ) → IsPart xs m → m ≤ n → IsPart xs n
part_within xs m n p low = record { short = omega (arith, p.short, low); plain = p.plain }

digit_plain : (b : ℕ) → 48 ≤ b → b ≤ 57 → is_text_byte b ≡ true
digit_plain b low high = go (cases_Bool ((b == 32) || (b == 45) || (b == 64)))
  where
    digit : (nat_le 48 b && nat_le b 57) ≡ true
    digit = rw (le-leb 48 b low) (le-leb b 57 high)

    go : (((b == 32) || (b == 45) || (b == 64)) ≡ true) ⊎ (((b == 32) || (b == 45) || (b == 64)) ≡ false) → is_text_byte b ≡ true
    go (inl e) = rw e refl
    go (inr e) = rw e (rw digit refl)

all_plain : (xs : List ℕ) → ((i : ℕ) → i < length xs → is_text_byte (get_or xs i 0) ≡ true) → list_all is_text_byte xs ≡ true
all_plain [] each = refl
all_plain (x ∷ xs) each = ap (λ b. b && list_all is_text_byte xs) (each 0 (omega arith)) ∙ all_plain xs (λ i low. each (suc i) (omega (arith, low)))

pub decimal_within : (k n : ℕ) → 0 < k → n < 10 ^ k → n < 2 ^ 64 → IsPart (decimal n) k
decimal_within k n some low few =
    record {
      short = length-decimal-le k n some low few;
      plain = all_plain (decimal n) (λ i inside. let digit = decimal_digits n (decimal n) few refl i inside in digit_plain (get_or (decimal n) i 0) digit.0 digit.1);
    }

pub decimal_part : (n : ℕ) → n < 2 ^ 64 → IsPart (decimal n) 20
decimal_part n few = decimal_within 20 n (omega arith) (omega (arith, few)) few

pub number_part : (n : ℕ) → n < 2 ^ 64 → IsPart (number_text n) 21
number_part n few = part_append (codes " ") (decimal n) 1 20 (record { short = omega arith; plain = refl }) (decimal_part n few)

pub numbers_part : (ws : List ℕ) → AllByRecursion (λ w. w < 2 ^ 64) ws → IsPart (flat_map number_text ws) (21 * length ws)
numbers_part [] fits = record { short = omega arith; plain = refl }
numbers_part (w ∷ ws) fits =
    part_within (number_text w ++ flat_map number_text ws) (21 + 21 * length ws) (21 * suc (length ws))
    (part_append (number_text w) (flat_map number_text ws) 21 (21 * length ws) (number_part w fits.0) (numbers_part ws fits.1)) (omega arith)

pub reference_part : (w : ℕ) → w ≤ 68719476736 → IsPart (reference_text w) 21
reference_part zero few = record { short = omega arith; plain = refl }
reference_part (suc n) few =
    let is : reference_text (suc n) ≡ codes " @" ++ decimal (suc n - 1) = reference_is (suc n) ∙ ap (λ (t : List ℕ). 32 ∷ t) (some_reference n) in
    subst (λ (t : List ℕ). IsPart t 21) (sym is)
    (part_within (codes " @" ++ decimal (suc n - 1)) 13 21
    (part_append (codes " @") (decimal (suc n - 1)) 2 11 (record { short = omega arith; plain = refl }) (decimal_within 11 (suc n - 1) (omega arith) (omega (arith, few)) (omega (arith, few))))
    (omega arith))

pub references_part_is : (len : ℕ) (ws : List ℕ) → len ≤ 68719476736 → AllByRecursion (λ w. w ≤ len) ws → IsPart (flat_map reference_text ws) (21 * length ws)
references_part_is len [] few fits = record { short = omega arith; plain = refl }
references_part_is len (w ∷ ws) few fits =
    part_within (reference_text w ++ flat_map reference_text ws) (21 + 21 * length ws) (21 * suc (length ws))
    (part_append (reference_text w) (flat_map reference_text ws) 21 (21 * length ws) (reference_part w (omega (arith, few, fits.0))) (references_part_is len ws few fits.1)) (omega arith)

refs_part : (len : ℕ) (ws : List ℕ) → len ≤ 68719476736 → AllByRecursion (λ w. w ≤ len) ws → IsPart (references_part ws) (5 + 21 * length ws)
refs_part len [] few fits = record { short = omega arith; plain = refl }
refs_part len (w ∷ ws) few fits =
    part_append (codes " refs") (flat_map reference_text (w ∷ ws)) 5 (21 * length (w ∷ ws)) (record { short = omega arith; plain = refl }) (references_part_is len (w ∷ ws) few fits)

others_part : (ws : List ℕ) → AllByRecursion (λ w. w < 2 ^ 64) ws → IsPart (data_part ws) (5 + 21 * length ws)
others_part [] fits = record { short = omega arith; plain = refl }
others_part (w ∷ ws) fits =
    part_append (codes " data") (flat_map number_text (w ∷ ws)) 5 (21 * length (w ∷ ws)) (record { short = omega arith; plain = refl }) (numbers_part (w ∷ ws) fits)

run_part : (ws : List ℕ) → AllByRecursion (λ w. w < 2 ^ 64) ws → 0 < length ws → IsPart (dead_part ws) (6 + 21 * length ws)
run_part ws fits some = elim (cases_Bool (all_equal ws)) [
  | inl equal ↦
      subst (λ (t : List ℕ). IsPart t (6 + 21 * length ws)) (sym (equal_part ws equal))
      (part_within (codes " of" ++ number_text (get_or ws 0 0)) 24 (6 + 21 * length ws)
      (part_append (codes " of") (number_text (get_or ws 0 0)) 3 21 (record { short = omega arith; plain = refl }) (number_part (get_or ws 0 0) (first_fits ws fits))) (omega (arith, some)))
  | inr other ↦
      subst (λ (t : List ℕ). IsPart t (6 + 21 * length ws)) (sym (unequal_part ws other))
      (part_append (codes " words") (flat_map number_text ws) 6 (21 * length ws) (record { short = omega arith; plain = refl }) (numbers_part ws fits))
]

place_part : (a : ℕ) → a < 2 ^ 64 → IsPart (64 ∷ decimal a) 21
place_part a few = part_append (codes "@") (decimal a) 1 20 (record { short = omega arith; plain = refl }) (decimal_part a few)

pub object_line_part : (len a : ℕ) (refs others : List ℕ) → len ≤ 68719476736 → AllByRecursion (λ w. w ≤ len) refs → AllByRecursion (λ w. w < 2 ^ 64) others
    → a + (1 + (length refs + length others)) ≤ len → IsPart (object_line a refs others) (64 + 21 * len)
object_line_part len a refs others few fits fits' inside =
    let size : ℕ = 1 + (length refs + length others) in
    part_within (object_line a refs others) (21 + (7 + (21 + ((5 + 21 * length refs) + (5 + 21 * length others))))) (64 + 21 * len)
    (part_append (64 ∷ decimal a) (codes " object" ++ (number_text size ++ (references_part refs ++ data_part others))) 21 (7 + (21 + ((5 + 21 * length refs) + (5 + 21 * length others))))
    (place_part a (omega (arith, inside, few)))
    (part_append (codes " object") (number_text size ++ (references_part refs ++ data_part others)) 7 (21 + ((5 + 21 * length refs) + (5 + 21 * length others))) (record { short = omega arith; plain = refl })
    (part_append (number_text size) (references_part refs ++ data_part others) 21 ((5 + 21 * length refs) + (5 + 21 * length others)) (number_part size (omega (arith, inside, few)))
    (part_append (references_part refs) (data_part others) (5 + 21 * length refs) (5 + 21 * length others) (refs_part len refs few fits) (others_part others fits')))))
    (omega (arith, inside))

pub dead_line_part : (len a : ℕ) (ws : List ℕ) → len ≤ 68719476736 → AllByRecursion (λ w. w < 2 ^ 64) ws → a + length ws ≤ len → 0 < length ws → IsPart (dead_line a ws) (64 + 21 * len)
dead_line_part len a ws few fits inside some =
    part_within (dead_line a ws) (21 + (5 + (21 + (6 + 21 * length ws)))) (64 + 21 * len)
    (part_append (64 ∷ decimal a) (codes " dead" ++ (number_text (length ws) ++ dead_part ws)) 21 (5 + (21 + (6 + 21 * length ws))) (place_part a (omega (arith, inside, few)))
    (part_append (codes " dead") (number_text (length ws) ++ dead_part ws) 5 (21 + (6 + 21 * length ws)) (record { short = omega arith; plain = refl })
    (part_append (number_text (length ws)) (dead_part ws) 21 (6 + 21 * length ws) (number_part (length ws) (omega (arith, inside, few))) (run_part ws fits some))))
    (omega (arith, inside))

pub front_line_part : (label : List ℕ) (n : ℕ) → IsPart label 20 → n < 2 ^ 64 → IsPart (label ++ decimal n) 64
front_line_part label n p few = part_within (label ++ decimal n) 40 64 (part_append label (decimal n) 20 20 p (decimal_part n few)) (omega arith)

pub roots_line_part : (len : ℕ) (roots : List ℕ) → len ≤ 68719476736 → AllByRecursion (λ w. w ≤ len) roots → length roots ≤ len
    → IsPart (codes "roots" ++ flat_map reference_text roots) (64 + 21 * len)
roots_line_part len roots few fits room =
    part_within (codes "roots" ++ flat_map reference_text roots) (5 + 21 * length roots) (64 + 21 * len)
    (part_append (codes "roots") (flat_map reference_text roots) 5 (21 * length roots) (record { short = omega arith; plain = refl }) (references_part_is len roots few fits))
    (omega (arith, room))

-- the line that a text begins with
pub record HasLine (text : List ℕ) (most : ℕ) : Type 0 where
  pub line : List ℕ
  pub rest : List ℕ
  pub is : text ≡ line ++ (10 ∷ rest)
  pub part : IsPart line most

-- what comes before a newline is within the first line
tail_part : (b : ℕ) (bs : List ℕ) (most : ℕ) → IsPart (b ∷ bs) (suc most) → IsPart bs most
tail_part b bs most p = record { short = omega (arith, p.short); plain = (and_parts (is_text_byte b) (list_all is_text_byte bs) p.plain).1 }

pub unfinished_part : (xs ys r s : List ℕ) (most : ℕ) → ended_lines xs ≡ 0 → IsPart ys most → xs ++ r ≡ ys ++ (10 ∷ s) → IsPart xs most
unfinished_part [] ys r s most one p e = record { short = omega arith; plain = refl }
unfinished_part (x ∷ xs) [] r s most one p e =
    let first : x ≡ 10 = ap (λ (zs : List ℕ). get_or zs 0 0) e in
    absurd (no_newline x xs first one)
unfinished_part (x ∷ xs) (y ∷ ys) r s zero one p e = absurd (omega (arith, p.short))
unfinished_part (x ∷ xs) (y ∷ ys) r s (suc most) one p e =
    let first : x ≡ y = ap (λ (zs : List ℕ). get_or zs 0 0) e in
    let others = unfinished_part xs ys r s most (less_lines x xs one) (tail_part y ys most p) (ap (λ (zs : List ℕ). drop 1 zs) e) in
    let plain : is_text_byte x ≡ true = ap is_text_byte first ∙ (and_parts (is_text_byte y) (list_all is_text_byte ys) p.plain).0 in
    record { short = omega (arith, others.short); plain = ap (λ b. b && list_all is_text_byte xs) plain ∙ others.plain }
