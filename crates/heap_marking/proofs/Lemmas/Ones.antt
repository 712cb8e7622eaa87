-- The places of the bits that are set in words of 64 bits.
use Rattle.std.proofs.Common.{◌≡◌, ℕ, zero, suc, ◌+◌, ◌-◌, ◌*◌, ◌/◌, ◌%◌, ◌^◌, ◌≤◌, ◌<◌, inl, inr, Bool, true, false, cond, List, [], ◌∷◌, ◌++◌, length, get_or, drop, length-take, length-drop, length-append, refl, sym, ◌∙◌, ap, arith, eqb, subst, bit_and}
use Rattle.std.proofs.lemmas.Bool.{cases_eq, cond-true, cond-false}
use Rattle.std.proofs.lemmas.List.{append-nil, get_or-take, get_or-drop, length-map}
use Rattle.std.proofs.lemmas.List.Elements.{filter-append}
use Rattle.std.proofs.lemmas.List.Sums.{length-filter}
use Rattle.std.proofs.lemmas.Nat.Bits.{bit_at-zero, bit_at_clear_other, bit_at_clear_same, bit_at-trailing_zeros}
use Rattle.std.specs.Prelude.{count_by, filter, map, slice_range}
use Rattle.std.specs.Int.{bit_at, bit_not, trailing_zeros, w64}
use Rattle.std.specs.List.{range_with_len}
use Rattle.object_heap.specs.Bits.{has, ones_of, addresses_between, addresses_of}
use Rattle.heap_marking.proofs.Lemmas.Numbers.{filter_same}

-- the least number that passes comes first
filter_first : (q q' : ℕ → Bool) (from n p : ℕ) → from ≤ p → p < from + n → q p ≡ true → q' p ≡ false → ((a : ℕ) → a < p → q a ≡ false) → ((a : ℕ) → a < from + n → (a ≡ p → ⊥) → q' a ≡ q a)
    → filter q (range_with_len from n) ≡ p ∷ filter q' (range_with_len from n)
filter_first q q' from zero p l m one none before same = let no : ⊥ = omega arith in absurd no
filter_first q q' from (suc n) p l m one none before same =
    let r : List ℕ = range_with_len (from + 1) n in
    elim (cases_eq from p) [
      | inl here ↦
          let yes : q from ≡ true = ap q here ∙ one in
          let no : q' from ≡ false = ap q' here ∙ none in
          let rest : filter q r ≡ filter q' r = filter_same q q' (from + 1) n (λ a k j. sym (same a (omega arith) (λ e. let never : ⊥ = omega arith in never))) in
          cond-true (q from) (from ∷ filter q r) (filter q r) yes ∙ ap (λ x. x ∷ filter q r) here ∙ ap (λ xs. p ∷ xs) (rest ∙ sym (cond-false (q' from) (from ∷ filter q' r) (filter q' r) no))
      | inr other ↦
          let no : q from ≡ false = before from (omega (arith, l, other)) in
          let no' : q' from ≡ false = same from (omega arith) other ∙ no in
          cond-false (q from) (from ∷ filter q r) (filter q r) no
          ∙ filter_first q q' (from + 1) n p (omega (arith, l, other)) (omega arith) one none before (λ a k e. same a (omega arith) e)
          ∙ ap (λ xs. p ∷ xs) (sym (cond-false (q' from) (from ∷ filter q' r) (filter q' r) no'))
    ]

filter_none : (q : ℕ → Bool) (from n : ℕ) → ((a : ℕ) → from ≤ a → a < from + n → q a ≡ false) → filter q (range_with_len from n) ≡ []
filter_none q from zero h = refl
filter_none q from (suc n) h =
    let r : List ℕ = range_with_len (from + 1) n in
    cond-false (q from) (from ∷ filter q r) (filter q r) (h from (omega arith) (omega arith)) ∙ filter_none q (from + 1) n (λ a l m. h a (omega arith) (omega arith))

-- no bit is set in 0
pub ones_of-zero : (word : ℕ) → word ≡ 0 → ones_of word ≡ []
ones_of-zero word e = filter_none (λ j. eqb (bit_at word j) 1) 0 64 (λ a l m. ap (λ w. eqb (bit_at w a) 1) e ∙ ap (λ b. eqb b 1) (bit_at-zero a))

-- the lowest bit comes first, and then those of the word without it
pub ones_of-next : (word place : ℕ) → place < 64 → bit_at word place ≡ 1 → ((i : ℕ) → i < place → bit_at word i ≡ 0)
    → ones_of word ≡ place ∷ ones_of (bit_and word (bit_not w64 (1 * 2 ^ place % 2 ^ 64)))
ones_of-next word place l one before =
    let rest : ℕ = bit_and word (bit_not w64 (1 * 2 ^ place % 2 ^ 64)) in
    filter_first (λ j. eqb (bit_at word j) 1) (λ j. eqb (bit_at rest j) 1) 0 64 place (omega arith) (omega arith)
    (ap (λ b. eqb b 1) one)
    (ap (λ b. eqb b 1) (bit_at_clear_same w64 word place l))
    (λ a m. ap (λ b. eqb b 1) (before a m))
    (λ a m other. ap (λ b. eqb b 1) (bit_at_clear_other w64 word place l a m other))

-- the bit that is found from the right comes first
pub ones_of-lowest : (rest place : ℕ) → 0 < rest → rest < 2 ^ 64 → place ≡ trailing_zeros w64 rest → ones_of rest ≡ place ∷ ones_of (bit_and rest (bit_not w64 (1 * 2 ^ place % 2 ^ 64)))
ones_of-lowest rest place some fits e =
    let low = bit_at-trailing_zeros w64 rest some fits in
    subst (λ p. ones_of rest ≡ p ∷ ones_of (bit_and rest (bit_not w64 (1 * 2 ^ p % 2 ^ 64)))) (sym e) (ones_of-next rest (trailing_zeros w64 rest) low.0 low.1 low.2)

-- ---- word by word

-- the numbers from b on that pass
filter_shift : (q : ℕ → Bool) (b from n : ℕ) → filter q (range_with_len (b + from) n) ≡ map (λ j. b + j) (filter (λ j. q (b + j)) (range_with_len from n))
filter_shift q b from zero = refl
filter_shift q b from (suc n) =
    let e : b + from + 1 ≡ b + (from + 1) = omega arith in
    let rest : filter q (range_with_len (b + from + 1) n) ≡ map (λ j. b + j) (filter (λ j. q (b + j)) (range_with_len (from + 1) n)) = ap (λ a. filter q (range_with_len a n)) e ∙ filter_shift q b (from + 1) n in
    ap (λ xs. cond (q (b + from)) ((b + from) ∷ xs) xs) rest ∙ mapped (q (b + from)) (filter (λ j. q (b + j)) (range_with_len (from + 1) n))
  where
    mapped : (t : Bool) (xs : List ℕ) → cond t ((b + from) ∷ map (λ j. b + j) xs) (map (λ j. b + j) xs) ≡ map (λ j. b + j) (cond t (from ∷ xs) xs)
    mapped true xs = refl
    mapped false xs = refl

range_split : (a m n : ℕ) → range_with_len a (m + n) ≡ range_with_len a m ++ range_with_len (a + m) n
range_split a zero n = let e : a + 0 ≡ a = omega arith in let z : zero + n ≡ n = omega arith in ap (range_with_len a) z ∙ ap (λ b. range_with_len b n) (sym e)
range_split a (suc m) n =
    let e : suc m + n ≡ suc (m + n) = omega arith in
    let f : a + 1 + m ≡ a + suc m = omega arith in
    ap (range_with_len a) e ∙ ap (λ l. a ∷ l) (range_split (a + 1) m n ∙ ap (λ b. range_with_len (a + 1) m ++ range_with_len b n) f)

-- the addresses of one word of bits
in_word : (bits : List ℕ) (i j : ℕ) → j < 64 → has bits (64 * i + j) ≡ eqb (bit_at (get_or bits i 0) j) 1
in_word bits i j l =
    let row : (64 * i + j) / 64 ≡ i = omega arith in
    let place : (64 * i + j) % 64 ≡ j = omega arith in
    ap (λ r. eqb (bit_at (get_or bits r 0) ((64 * i + j) % 64)) 1) row ∙ ap (λ k. eqb (bit_at (get_or bits i 0) k) 1) place

-- ---- from word to word

-- the addresses of adjacent parts append
pub between-append : (words : List ℕ) (a b c : ℕ) → a ≤ b → b ≤ c → addresses_between words a c ≡ addresses_between words a b ++ addresses_between words b c
between-append words a b c l m =
    let low : List ℕ = range_with_len (64 * a) (64 * (b - a)) in
    let e : 64 * (c - a) ≡ 64 * (b - a) + 64 * (c - b) = omega (arith, l, m) in
    let f : 64 * a + 64 * (b - a) ≡ 64 * b = omega (arith, l) in
    ap (λ n. filter (has words) (range_with_len (64 * a) n)) e
    ∙ ap (filter (has words)) (range_split (64 * a) (64 * (b - a)) (64 * (c - b)))
    ∙ filter-append (has words) low (range_with_len (64 * a + 64 * (b - a)) (64 * (c - b)))
    ∙ ap (λ x. filter (has words) low ++ filter (has words) (range_with_len x (64 * (c - b)))) f

-- there are none between a word and itself
pub between-none : (words : List ℕ) (a b : ℕ) → a ≡ b → addresses_between words a b ≡ []
between-none words a b e = let none : 64 * (b - a) ≡ 0 = omega arith in ap (λ n. filter (has words) (range_with_len (64 * a) n)) none

-- the addresses of one word
between-word : (words : List ℕ) (i : ℕ) → addresses_between words i (i + 1) ≡ map (λ j. 64 * i + j) (ones_of (get_or words i 0))
between-word words i =
    let e : 64 * (i + 1 - i) ≡ 64 = omega arith in
    let z : 64 * i ≡ 64 * i + 0 = omega arith in
    ap (λ n. filter (has words) (range_with_len (64 * i) n)) e
    ∙ ap (λ a. filter (has words) (range_with_len a 64)) z
    ∙ filter_shift (has words) (64 * i) 0 64
    ∙ ap (map (λ j. 64 * i + j)) (filter_same (λ j. has words (64 * i + j)) (λ j. eqb (bit_at (get_or words i 0) j) 1) 0 64 (λ j l m. in_word words i j (omega arith)))

-- one word more
pub between-next : (words : List ℕ) (a i : ℕ) → a ≤ i → addresses_between words a (i + 1) ≡ addresses_between words a i ++ map (λ j. 64 * i + j) (ones_of (get_or words i 0))
between-next words a i l = between-append words a i (i + 1) l (omega arith) ∙ ap (λ xs. addresses_between words a i ++ xs) (between-word words i)

-- one word more, by number
pub more-between : (words : List ℕ) (a i next : ℕ) → a ≤ i → next ≡ length (addresses_between words a i) → next + length (ones_of (get_or words i 0)) ≡ length (addresses_between words a (i + 1))
more-between words a i next l e =
    ap (λ n. n + length (ones_of (get_or words i 0))) e
    ∙ ap (λ n. length (addresses_between words a i) + n) (sym (length-map (ones_of (get_or words i 0)) (λ j. 64 * i + j)))
    ∙ sym (length-append (addresses_between words a i) (map (λ j. 64 * i + j) (ones_of (get_or words i 0))))
    ∙ ap length (sym (between-next words a i l))

-- a part has as many addresses as its two parts
pub length-between-append : (words : List ℕ) (a b c : ℕ) → a ≤ b → b ≤ c → length (addresses_between words a c) ≡ length (addresses_between words a b) + length (addresses_between words b c)
length-between-append words a b c l m = ap length (between-append words a b c l m) ∙ length-append (addresses_between words a b) (addresses_between words b c)

sum_fits : (n x y z : ℕ) → n ≡ x → z ≡ x + y → n ≤ z
sum_fits n x y z e f = omega (arith, e, f)

-- the addresses of a word have room behind those before it
pub between-room : (words : List ℕ) (a i b next room : ℕ) → a ≤ i → i < b → next ≡ length (addresses_between words a i) → room ≡ length (addresses_between words a b) → next + length (ones_of (get_or words i 0)) ≤ room
between-room words a i b next room l m e f =
    sum_fits (next + length (ones_of (get_or words i 0))) (length (addresses_between words a (i + 1))) (length (addresses_between words (i + 1) b)) room
    (more-between words a i next l e)
    (f ∙ length-between-append words a (i + 1) b (omega (arith, l)) (omega (arith, m)))

-- ---- a part of the words by itself

-- a bit of a part
in_part : (words : List ℕ) (a b j : ℕ) → j < 64 * (b - a) → has (slice_range words a b) j ≡ has words (64 * a + j)
in_part words a b j l =
    let row : a + j / 64 ≡ (64 * a + j) / 64 = omega arith in
    let place : j % 64 ≡ (64 * a + j) % 64 = omega arith in
    let word : get_or (slice_range words a b) (j / 64) 0 ≡ get_or words ((64 * a + j) / 64) 0 = get_or-take (b - a) (drop a words) (j / 64) 0 (omega (arith, l)) ∙ get_or-drop a words (j / 64) 0 ∙ ap (λ r. get_or words r 0) row in
    ap (λ w. eqb (bit_at w (j % 64)) 1) word ∙ ap (λ k. eqb (bit_at (get_or words ((64 * a + j) / 64) 0) k) 1) place

-- a part has as many addresses as set bits
pub length-between : (words : List ℕ) (a b : ℕ) → a ≤ b → b ≤ length words → count_by (has (slice_range words a b)) (range_with_len 0 (64 * length (slice_range words a b))) ≡ length (addresses_between words a b)
length-between words a b l m =
    let part : List ℕ = slice_range words a b in
    let size : length part ≡ b - a = let t = length-take (b - a) (drop a words) in let d = length-drop a words in omega (arith, t, d, l, m) in
    let z : 64 * a ≡ 64 * a + 0 = omega arith in
    let own : List ℕ = filter (λ j. has words (64 * a + j)) (range_with_len 0 (64 * (b - a))) in
    let shifted : addresses_between words a b ≡ map (λ j. 64 * a + j) own = ap (λ x. filter (has words) (range_with_len x (64 * (b - a)))) z ∙ filter_shift (has words) (64 * a) 0 (64 * (b - a)) in
    sym (length-filter (has part) (range_with_len 0 (64 * length part)))
    ∙ ap (λ n. length (filter (has part) (range_with_len 0 (64 * n)))) size
    ∙ ap length (filter_same (has part) (λ j. has words (64 * a + j)) 0 (64 * (b - a)) (λ j low high. in_part words a b j (omega (arith, high))))
    ∙ sym (ap length shifted ∙ length-map own (λ j. 64 * a + j))

-- ---- the addresses below one

-- where no bit from `size` on is set, the addresses are those below
pub addresses-below : (words : List ℕ) (size : ℕ) → size ≤ 64 * length words → ((a : ℕ) → size ≤ a → has words a ≡ false) → addresses_of words ≡ filter (has words) (range_with_len 0 size)
addresses-below words size l none =
    let low : List ℕ = range_with_len 0 size in
    let rest : ℕ = 64 * length words - size in
    let z : 64 * 0 ≡ 0 = omega arith in
    let e : 64 * (length words - 0) ≡ size + rest = omega (arith, l) in
    ap (λ a. filter (has words) (range_with_len a (64 * (length words - 0)))) z
    ∙ ap (λ n. filter (has words) (range_with_len 0 n)) e
    ∙ ap (filter (has words)) (range_split 0 size rest)
    ∙ filter-append (has words) low (range_with_len (0 + size) rest)
    ∙ ap (λ xs. filter (has words) low ++ xs) (filter_none (has words) (0 + size) rest (λ a m k. none a (omega arith)))
    ∙ append-nil (filter (has words) low)
