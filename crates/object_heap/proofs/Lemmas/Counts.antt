-- How many bits are set in a range.
use Rattle.std.proofs.Common.{◌≡◌, ℕ, zero, suc, ◌+◌, ◌-◌, ◌*◌, ◌/◌, ◌%◌, ◌^◌, ◌≤◌, ◌<◌, Bool, cond, eqb, List, [], ◌∷◌, ◌++◌, get_or, refl, sym, ◌∙◌, ap, arith, add-zero, zero-add, bit_and}
use Rattle.std.specs.Prelude.{count_by}
use Rattle.std.specs.List.{range_with_len}
use Rattle.std.specs.Int.{bit_at}
use Rattle.std.specs.Int.RustNames.{count_ones}
use Rattle.std.proofs.lemmas.Nat.{mod-pow-add, ones_cat, and_mask, one_shl, mod_below, pow_below}
use Rattle.std.proofs.lemmas.Nat.Bits.{bit_at-lt}
use Rattle.std.proofs.Math.Nat.{mod-eq_of_lt, one-le-pow}
use Rattle.std.proofs.lemmas.List.Sums.{sum_by-cons, sum_by-append, count_by-le-length}
use Rattle.std.proofs.lemmas.List.FromFn.{length-range_with_len}
use Rattle.object_heap.specs.Bits.{has}

pub count_by-cons : (p : ℕ → Bool) (x : ℕ) (xs : List ℕ) → count_by p (x ∷ xs) ≡ cond (p x) 1 0 + count_by p xs
count_by-cons p x xs = sum_by-cons (λ y. cond (p y) 1 0) x xs

range-split : (a m n : ℕ) → range_with_len a (m + n) ≡ range_with_len a m ++ range_with_len (a + m) n
range-split a zero n =
    let e : 0 + n ≡ n = omega arith in
    let f : a + 0 ≡ a = omega arith in
    ap (range_with_len a) e ∙ sym (ap (λ b. range_with_len b n) f)
range-split a (suc m) n =
    let e : suc m + n ≡ suc (m + n) = omega arith in
    let f : a + 1 + m ≡ a + suc m = omega arith in
    ap (range_with_len a) e ∙ ap (λ l. a ∷ l) (range-split (a + 1) m n ∙ ap (λ b. range_with_len (a + 1) m ++ range_with_len b n) f)

-- a count over a range in two parts
pub count-split : (p : ℕ → Bool) (a m n : ℕ) → count_by p (range_with_len a (m + n)) ≡ count_by p (range_with_len a m) + count_by p (range_with_len (a + m) n)
count-split p a m n = ap (count_by p) (range-split a m n) ∙ sum_by-append (λ y. cond (p y) 1 0) (range_with_len a m) (range_with_len (a + m) n)

-- tests that give one answer at each place of two ranges pass equally often
pub count-same : (p q : ℕ → Bool) (a b n : ℕ) → ((j : ℕ) → j < n → p (a + j) ≡ q (b + j)) → count_by p (range_with_len a n) ≡ count_by q (range_with_len b n)
count-same p q a b zero h = refl
count-same p q a b (suc n) h =
    let here : p a ≡ q b = ap p (sym (add-zero a)) ∙ h 0 (omega arith) ∙ ap q (add-zero b) in
    count_by-cons p a (range_with_len (a + 1) n)
    ∙ ap (λ t. cond t 1 0 + count_by p (range_with_len (a + 1) n)) here
    ∙ ap (λ m. cond (q b) 1 0 + m) (count-same p q (a + 1) (b + 1) n (λ j l. next j l))
    ∙ sym (count_by-cons q b (range_with_len (b + 1) n))
  where
    next : (j : ℕ) → j < n → p (a + 1 + j) ≡ q (b + 1 + j)
    next j l =
        let e : a + 1 + j ≡ a + suc j = omega arith in
        let f : b + suc j ≡ b + 1 + j = omega arith in
        ap p e ∙ h (suc j) (omega arith) ∙ ap q f

pub count-le : (p : ℕ → Bool) (a n : ℕ) → count_by p (range_with_len a n) ≤ n
count-le p a n = let l = count_by-le-length p (range_with_len a n) in let e = length-range_with_len a n in omega arith

one_more : (d : ℕ) → d < 2 → count_ones d ≡ cond (eqb d 1) 1 0
unfolding count_ones
one_more zero h = refl
one_more (suc zero) h = refl
one_more (suc (suc d)) h = let no : ⊥ = omega arith in absurd no

-- the low k bits of a number, counted one by one and at once
pub count_bits : (w k : ℕ) → count_by (λ j. eqb (bit_at w j) 1) (range_with_len 0 k) ≡ count_ones (w % 2 ^ k)
count_bits w zero =
    let none : w % 1 ≡ 0 = omega arith in
    sym (ap count_ones none ∙ one_more 0 (omega arith))
count_bits w (suc k) =
    let p : ℕ → Bool = λ j. eqb (bit_at w j) 1 in
    let split : count_by p (range_with_len 0 (k + 1)) ≡ count_by p (range_with_len 0 k) + count_by p (range_with_len (0 + k) 1) = count-split p 0 k 1 in
    let at : 0 + k ≡ k = zero-add k in
    let last : count_by p (range_with_len (0 + k) 1) ≡ cond (p k) 1 0 + 0 = ap (λ n. count_by p (range_with_len n 1)) at ∙ count_by-cons p k [] in
    let rest : count_by p (range_with_len 0 k) ≡ count_ones (w % 2 ^ k) = count_bits w k in
    let low : w % 2 ^ k < 2 ^ k = mod_below w (2 ^ k) (let h : 1 ≤ 2 ^ k = one-le-pow k 2 (omega arith) in omega arith) in
    let parts : w % 2 ^ (1 + k) ≡ bit_at w k * 2 ^ k + w % 2 ^ k = mod-pow-add w 1 k in
    let ones : count_ones (w % 2 ^ (1 + k)) ≡ count_ones (bit_at w k) + count_ones (w % 2 ^ k) = ap count_ones parts ∙ ones_cat k (bit_at w k) (w % 2 ^ k) low in
    let top : count_ones (bit_at w k) ≡ cond (p k) 1 0 = one_more (bit_at w k) (bit_at-lt w k) in
    let more : suc k ≡ k + 1 = omega arith in
    let more' : 1 + k ≡ suc k = omega arith in
    ap (λ n. count_by p (range_with_len 0 n)) more ∙ join _ _ _ _ _ _ split last rest ones top ∙ ap (λ n. count_ones (w % 2 ^ n)) more'
  where
    join : (a b c d e f : ℕ) → a ≡ b + c → c ≡ d + 0 → b ≡ e → f ≡ count_ones (bit_at w k) + e → count_ones (bit_at w k) ≡ d → a ≡ f
    join a b c d e f h1 h2 h3 h4 h5 = omega arith

-- the first k bits of the word with index q
pub count-in_word : (words : List ℕ) (q k : ℕ) → k ≤ 64 → count_by (has words) (range_with_len (64 * q) k) ≡ count_ones (get_or words q 0 % 2 ^ k)
count-in_word words q k h =
    count-same (has words) (λ j. eqb (bit_at (get_or words q 0) j) 1) (64 * q) 0 k (λ j l. at j l) ∙ count_bits (get_or words q 0) k
  where
    at : (j : ℕ) → j < k → has words (64 * q + j) ≡ eqb (bit_at (get_or words q 0) (0 + j)) 1
    at j l =
        let e : (64 * q + j) / 64 ≡ q = omega arith in
        let f : (64 * q + j) % 64 ≡ 0 + j = omega arith in
        ap (λ n. eqb (bit_at (get_or words n 0) ((64 * q + j) % 64)) 1) e ∙ ap (λ n. eqb (bit_at (get_or words q 0) n) 1) f

-- the bits of a word below bit i, by a mask
pub count-below : (words : List ℕ) (i word : ℕ) → word ≡ get_or words (i / 64) 0 → count_ones (bit_and word (1 * 2 ^ (i % 64) % 18446744073709551616 - 1) % 18446744073709551616) ≡ count_by (has words) (range_with_len (i - i % 64) (i % 64))
count-below words i word is =
    let start : 64 * (i / 64) ≡ i - i % 64 = omega arith in
    let s : ℕ = i % 64 in
    let small : 2 ^ s < 2 ^ 64 = pow_below s 64 (omega arith) in
    let low : word % 2 ^ s < 2 ^ s = mod_below word (2 ^ s) (let h : 1 ≤ 2 ^ s = one-le-pow s 2 (omega arith) in omega arith) in
    let fits : word % 2 ^ s < 2 ^ 64 = omega arith in
    ap (λ n. count_ones (bit_and word (n - 1) % 18446744073709551616)) (one_shl s 64 (omega arith))
    ∙ ap (λ n. count_ones (n % 18446744073709551616)) (and_mask word s)
    ∙ ap count_ones (mod-eq_of_lt fits)
    ∙ ap (λ n. count_ones (n % 2 ^ s)) is
    ∙ sym (count-in_word words (i / 64) (i % 64) (omega arith))
    ∙ ap (λ n. count_by (has words) (range_with_len n (i % 64))) start

-- one more whole word
pub count-more : (words : List ℕ) (first n total word : ℕ) → word ≡ get_or words (first + n) 0 → total ≡ count_by (has words) (range_with_len (64 * first) (64 * n)) → total + count_ones (word % 2 ^ 64) ≡ count_by (has words) (range_with_len (64 * first) (64 * (n + 1)))
count-more words first n total word is so_far =
    let p : ℕ → Bool = has words in
    let split : count_by p (range_with_len (64 * first) (64 * n + 64)) ≡ count_by p (range_with_len (64 * first) (64 * n)) + count_by p (range_with_len (64 * first + 64 * n) 64) = count-split p (64 * first) (64 * n) 64 in
    let place : 64 * first + 64 * n ≡ 64 * (first + n) = omega arith in
    let long : 64 * n + 64 ≡ 64 * (n + 1) = omega arith in
    let one : count_by p (range_with_len (64 * first + 64 * n) 64) ≡ count_ones (word % 2 ^ 64) =
    ap (λ a. count_by p (range_with_len a 64)) place ∙ count-in_word words (first + n) 64 (omega arith) ∙ ap (λ w. count_ones (w % 2 ^ 64)) (sym is) in
    let whole : count_by p (range_with_len (64 * first) (64 * n + 64)) ≡ count_by p (range_with_len (64 * first) (64 * (n + 1))) = ap (λ m. count_by p (range_with_len (64 * first) m)) long in
    join _ _ _ _ _ _ split one so_far whole
  where
    join : (a b c d e f : ℕ) → a ≡ b + c → c ≡ d → e ≡ b → a ≡ f → e + d ≡ f
    join a b c d e f h1 h2 h3 h4 = omega arith

-- one more whole word, from the first on
pub count-next : (words : List ℕ) (n total : ℕ) → total ≡ count_by (has words) (range_with_len 0 (64 * n)) → total + count_ones (get_or words n 0 % 2 ^ 64) ≡ count_by (has words) (range_with_len 0 (64 * (n + 1)))
count-next words n total so_far =
    let none : 64 * 0 ≡ 0 = omega arith in
    let at : n ≡ 0 + n = omega arith in
    count-more words 0 n total (get_or words n 0) (ap (λ k. get_or words k 0) at) (so_far ∙ ap (λ a. count_by (has words) (range_with_len a (64 * n))) (sym none))
    ∙ ap (λ a. count_by (has words) (range_with_len a (64 * (n + 1)))) none

-- the bits of some of the words are those of all words from a place on
pub count-part : (part words : List ℕ) (first n : ℕ) → ((i : ℕ) → i < n → get_or part i 0 ≡ get_or words (first + i) 0) → count_by (has part) (range_with_len 0 (64 * n)) ≡ count_by (has words) (range_with_len (64 * first) (64 * n))
count-part part words first n same = count-same (has part) (has words) 0 (64 * first) (64 * n) (λ j l. at j l)
  where
    at : (j : ℕ) → j < 64 * n → has part (0 + j) ≡ has words (64 * first + j)
    at j l =
        let low : (0 + j) / 64 ≡ j / 64 = omega arith in
        let high : first + j / 64 ≡ (64 * first + j) / 64 = omega arith in
        let bit : (0 + j) % 64 ≡ (64 * first + j) % 64 = omega arith in
        ap (λ q. eqb (bit_at (get_or part q 0) ((0 + j) % 64)) 1) low
        ∙ ap (λ w. eqb (bit_at w ((0 + j) % 64)) 1) (same (j / 64) (omega arith))
        ∙ ap (λ q. eqb (bit_at (get_or words q 0) ((0 + j) % 64)) 1) high
        ∙ ap (λ b. eqb (bit_at (get_or words ((64 * first + j) / 64) 0) b) 1) bit

-- whole words, and the parts of a word at both ends
pub count-ends : (p : ℕ → Bool) (from to whole before after : ℕ) → from ≤ to → whole ≡ count_by p (range_with_len (64 * (from / 64)) (64 * (to / 64 - from / 64))) → after ≡ count_by p (range_with_len (to - to % 64) (to % 64)) → before ≡ count_by p (range_with_len (from - from % 64) (from % 64)) → whole + after ≡ before + count_by p (range_with_len from (to - from))
count-ends p from to whole before after h e f g =
    let start : ℕ = 64 * (from / 64) in
    let left : count_by p (range_with_len start (from % 64 + (to - from))) ≡ count_by p (range_with_len start (from % 64)) + count_by p (range_with_len (start + from % 64) (to - from)) = count-split p start (from % 64) (to - from) in
    let right : count_by p (range_with_len start (64 * (to / 64 - from / 64) + to % 64)) ≡ count_by p (range_with_len start (64 * (to / 64 - from / 64))) + count_by p (range_with_len (start + 64 * (to / 64 - from / 64)) (to % 64)) = count-split p start (64 * (to / 64 - from / 64)) (to % 64) in
    let long : from % 64 + (to - from) ≡ 64 * (to / 64 - from / 64) + to % 64 = omega arith in
    let a : start ≡ from - from % 64 = omega arith in
    let b : start + from % 64 ≡ from = omega arith in
    let d : start + 64 * (to / 64 - from / 64) ≡ to - to % 64 = omega arith in
    join _ _ _ _ _ _ _ _ _ left right
    (ap (λ n. count_by p (range_with_len start n)) long)
    (g ∙ ap (λ n. count_by p (range_with_len n (from % 64))) (sym a))
    (ap (λ n. count_by p (range_with_len n (to - from))) b)
    e
    (f ∙ ap (λ n. count_by p (range_with_len n (to % 64))) (sym d))
  where
    join : (l l1 l2 r r1 r2 b m w : ℕ) → l ≡ l1 + l2 → r ≡ r1 + r2 → l ≡ r → b ≡ l1 → l2 ≡ m → w ≡ r1 → after ≡ r2 → w + after ≡ b + m
    join l l1 l2 r r1 r2 b m w h1 h2 h3 h4 h5 h6 h7 = omega arith
