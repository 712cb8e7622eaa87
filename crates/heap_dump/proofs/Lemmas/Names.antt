-- The names that are shown are short, and have no newline.
use Rattle.std.proofs.Common.{◌≡◌, ◌≢◌, ℕ, zero, suc, ◌+◌, ◌*◌, ◌/◌, ◌%◌, ◌^◌, ◌<◌, ◌≤◌, Bool, true, false, cond, eqb, leb, ltb, List, [], ◌∷◌, ◌++◌, length, take, codes, refl, sym, ◌∙◌, ap, ap₂, arith}
use Rattle.std.specs.Prelude.{filter, flat_map}
use Rattle.std.specs.Fmt.{digit_glyph, digits, digits_onto}
use Rattle.std.proofs.lemmas.Bool.{eqb-true, true≢false}
use Rattle.std.proofs.lemmas.Bool.Decides.{nat_tests}
use Rattle.std.proofs.lemmas.List.{length-append, length-take}
use Rattle.std.proofs.lemmas.List.Elements.{filter-append}
use Rattle.std.proofs.lemmas.List.Sums.{length-filter}
use Rattle.heap_dump.specs.ClassNames.{cut_name, first_name, is_shown, newlines, shown_byte}

-- either of two short lists
either : (most : ℕ) (b : Bool) (xs ys : List ℕ) → length xs ≤ most → length ys ≤ most → length (cond b xs ys) ≤ most
either most true xs ys one other = one
either most false xs ys one other = other

-- the digits of a number that has at most k + 1, before more digits
digit_more : (fuel k n : ℕ) (more : List ℕ) → n < 16 ^ suc k
    → ((j : ℕ) → n / 16 < 16 ^ suc j → length (digits_onto fuel 16 false (n / 16) (digit_glyph false (n % 16) ∷ more)) ≤ suc (length more) + suc j)
    → length (digits_onto (suc fuel) 16 false n more) ≤ length more + suc k
digit_more fuel k n more few shorter = go (eqb (n / 16) 0) refl
  where
    digit : ℕ
    digit = digit_glyph false (n % 16)

    rest : (k : ℕ) → n < 16 ^ suc k → n / 16 ≢ 0 → length (digits_onto fuel 16 false (n / 16) (digit ∷ more)) ≤ length more + suc k
    rest zero few some = absurd (some (omega (arith, few)))
    rest (suc k) few some = omega (arith, shorter k (omega (arith, few)))

    go : (b : Bool) → eqb (n / 16) 0 ≡ b → length (cond b (digit ∷ more) (digits_onto fuel 16 false (n / 16) (digit ∷ more))) ≤ length more + suc k
    go true e = omega arith
    go false e = rest k few (grind (arith, nat_tests))

digits_before : (fuel k n : ℕ) (more : List ℕ) → n < 16 ^ suc k → length (digits_onto fuel 16 false n more) ≤ length more + suc k
digits_before zero k n more few = omega arith
digits_before (suc fuel) k n more few =
    digit_more fuel k n more few (λ j l. digits_before fuel j (n / 16) (digit_glyph false (n % 16) ∷ more) l)

hex_short : (n : ℕ) → n < 2 ^ 64 → length (digits 16 false n) ≤ 16
unfolding digits
hex_short n small = digits_before 64 15 n [] (omega arith)

-- a name that is made of an id
pub unnamed_short : (id : ℕ) → id < 2 ^ 64 → length (codes "class@" ++ digits 16 false id) ≤ 2020
unnamed_short id small = let long = length-append (codes "class@") (digits 16 false id) in omega (arith, long, hex_short id small)

pub id_short : (id : ℕ) → id < 2 ^ 64 → length (codes "0x" ++ digits 16 false id) ≤ 18
id_short id small = let long = length-append (codes "0x") (digits 16 false id) in omega (arith, long, hex_short id small)

pub first_short : (number : ℕ) → length (first_name number) ≤ 2020
first_short number = either 2020 (eqb number 0) _ _ (omega arith) (either 2020 (eqb number 1) _ _ (omega arith) (either 2020 (eqb number 2) _ _ (omega arith)
    (either 2020 (eqb number 3) _ _ (omega arith) (either 2020 (eqb number 4) _ _ (omega arith) (either 2020 (eqb number 5) _ _ (omega arith)
    (either 2020 (eqb number 6) _ _ (omega arith) (either 2020 (eqb number 7) _ _ (omega arith) (either 2020 (eqb number 8) _ _ (omega arith)
    (either 2020 (eqb number 9) _ _ (omega arith) (omega arith))))))))))

byte_short : (byte : ℕ) → length (shown_byte byte) ≤ 4
byte_short byte = either 4 (eqb byte 47) _ _ (omega arith) (either 4 (is_shown byte) _ _ (omega arith) (omega arith))

bytes_short : (name : List ℕ) → length (flat_map shown_byte name) ≤ 4 * length name
bytes_short [] = omega arith
bytes_short (byte ∷ name) =
    let long = length-append (shown_byte byte) (flat_map shown_byte name) in omega (arith, long, byte_short byte, bytes_short name)

pub cut_short : (id : ℕ) (name : List ℕ) → id < 2 ^ 64 → length (cut_name id name) ≤ 2020
cut_short id name small = go (leb (length name) 500) refl
  where
    front : List ℕ
    front = flat_map shown_byte (take 500 name)

    mark : List ℕ
    mark = codes "...@" ++ digits 16 false id

    go : (b : Bool) → leb (length name) 500 ≡ b → length (cond b (flat_map shown_byte name) (front ++ mark)) ≤ 2020
    go true e = let few : length name ≤ 500 = grind (arith, nat_tests) in omega (arith, few, bytes_short name)
    go false e =
        let few : length (take 500 name) ≤ 500 = omega (arith, length-take 500 name) in
        omega (arith, few, length-append front mark, length-append (codes "...@") (digits 16 false id), bytes_short (take 500 name), hex_short id small)

-- the text has no newline
abbrev IsInLine : List ℕ → Type 0
IsInLine text = filter (λ byte. eqb byte 10) text ≡ []

no_newlines : (text : List ℕ) → IsInLine text → newlines text ≡ 0
no_newlines text h = sym (length-filter (λ byte. eqb byte 10) text) ∙ ap length h

joined : (xs ys : List ℕ) → IsInLine xs → IsInLine ys → IsInLine (xs ++ ys)
joined xs ys h k = filter-append (λ byte. eqb byte 10) xs ys ∙ ap₂ (λ (a b : List ℕ). a ++ b) h k

either_line : (b : Bool) (xs ys : List ℕ) → IsInLine xs → IsInLine ys → IsInLine (cond b xs ys)
either_line true xs ys h k = h
either_line false xs ys h k = k

before : (byte : ℕ) (text : List ℕ) → eqb byte 10 ≡ false → IsInLine text → IsInLine (byte ∷ text)
before byte text e h = ap (λ b. cond b (byte ∷ filter (λ byte. eqb byte 10) text) (filter (λ byte. eqb byte 10) text)) e ∙ h

glyph : (d : ℕ) → eqb (digit_glyph false d) 10 ≡ false
glyph d = go (ltb d 10)
  where
    go : (b : Bool) → eqb (cond b (48 + d) (87 + d)) 10 ≡ false
    go true = grind (arith, nat_tests)
    go false = grind (arith, nat_tests)

digits_line : (fuel n : ℕ) (more : List ℕ) → IsInLine more → IsInLine (digits_onto fuel 16 false n more)
digits_line zero n more h = h
digits_line (suc fuel) n more h =
    let next = before (digit_glyph false (n % 16)) more (glyph (n % 16)) h in
    either_line (eqb (n / 16) 0) _ _ next (digits_line fuel (n / 16) (digit_glyph false (n % 16) ∷ more) next)

hex_line : (n : ℕ) → IsInLine (digits 16 false n)
unfolding digits
hex_line n = digits_line 64 n [] refl

pub unnamed_line : (id : ℕ) → newlines (codes "class@" ++ digits 16 false id) ≡ 0
unnamed_line id = no_newlines (codes "class@" ++ digits 16 false id) (joined (codes "class@") (digits 16 false id) refl (hex_line id))

pub id_line : (id : ℕ) → newlines (codes "0x" ++ digits 16 false id) ≡ 0
id_line id = no_newlines (codes "0x" ++ digits 16 false id) (joined (codes "0x") (digits 16 false id) refl (hex_line id))

pub first_line : (number : ℕ) → newlines (first_name number) ≡ 0
first_line number = no_newlines (first_name number) (either_line (eqb number 0) _ _ refl (either_line (eqb number 1) _ _ refl
    (either_line (eqb number 2) _ _ refl (either_line (eqb number 3) _ _ refl (either_line (eqb number 4) _ _ refl (either_line (eqb number 5) _ _ refl
    (either_line (eqb number 6) _ _ refl (either_line (eqb number 7) _ _ refl (either_line (eqb number 8) _ _ refl (either_line (eqb number 9) _ _ refl refl))))))))))

byte_line : (byte : ℕ) → IsInLine (shown_byte byte)
byte_line byte = either_line (eqb byte 47) _ _ refl (shown (is_shown byte) refl)
  where
    high : ℕ
    high = digit_glyph false (byte / 16)

    low : ℕ
    low = digit_glyph false (byte % 16)

    coded : List ℕ
    coded = codes "\\x" ++ high ∷ low ∷ []

    is_coded : IsInLine coded
    is_coded = joined (codes "\\x") (high ∷ low ∷ []) refl (before high (low ∷ []) (glyph (byte / 16)) (before low [] (glyph (byte % 16)) refl))

    visible : (b : Bool) → eqb byte 10 ≡ b → is_shown byte ≡ true → eqb byte 10 ≡ false
    visible false e h = e
    visible true e h = absurd (true≢false (sym h ∙ ap is_shown (eqb-true byte 10 e)))

    shown : (b : Bool) → is_shown byte ≡ b → IsInLine (cond b (byte ∷ []) coded)
    shown true h = before byte [] (visible (eqb byte 10) refl h) refl
    shown false h = is_coded

bytes_line : (name : List ℕ) → IsInLine (flat_map shown_byte name)
bytes_line [] = refl
bytes_line (byte ∷ name) = joined (shown_byte byte) (flat_map shown_byte name) (byte_line byte) (bytes_line name)

pub cut_line : (id : ℕ) (name : List ℕ) → newlines (cut_name id name) ≡ 0
cut_line id name = no_newlines (cut_name id name) (either_line (leb (length name) 500) _ _ (bytes_line name)
    (joined (flat_map shown_byte (take 500 name)) (codes "...@" ++ digits 16 false id) (bytes_line (take 500 name))
    (joined (codes "...@") (digits 16 false id) refl (hex_line id))))
