-- The bits of the parts of a heap, one after the other.
use Rattle.std.proofs.Common.{◌≡◌, ℕ, zero, suc, ◌+◌, ◌-◌, ◌*◌, ◌/◌, ◌%◌, ◌^◌, ◌≤◌, ◌<◌, inl, inr, false, List, [], ◌∷◌, ◌++◌, length, get_or, take, pow-add, refl, sym, ◌∙◌, ap, arith, eqb, length-append}
use Rattle.std.proofs.Math.Nat.{div-mul-le_self, lt-div-mul-add, mul-le-mul_right}
use Rattle.std.proofs.lemmas.Bool.{cases_lt}
use Rattle.std.proofs.lemmas.List.{get_or_append_left, get_or-append_right, get_or-take, get_or_default, length-take-le}
use Rattle.std.proofs.lemmas.Nat.Bits.{bit_at-zero}
use Rattle.std.specs.Int.{bit_at}
use Rattle.object_heap.specs.Bits.{has}
use Rattle.heap_marking.specs.Rounds.{mark_of}
use Rattle.heap_marking.specs.declared.marking.part.Part.{Part}
use Rattle.heap_marking.proofs.Lemmas.Numbers.{part_some}

-- ---- bits of lists of words

has_left : (xs ys : List ℕ) (a : ℕ) → a < 64 * length xs → has (xs ++ ys) a ≡ has xs a
has_left xs ys a l = ap (λ w. eqb (bit_at w (a % 64)) 1) (get_or_append_left xs ys 0 (a / 64) (omega (arith, l)))

has_right : (xs ys : List ℕ) (a b : ℕ) → a ≡ 64 * length xs + b → has (xs ++ ys) a ≡ has ys b
has_right xs ys a b e =
    let word : a / 64 ≡ length xs + b / 64 = omega (arith, e) in
    let place : a % 64 ≡ b % 64 = omega (arith, e) in
    let at : get_or (xs ++ ys) (length xs + b / 64) 0 ≡ get_or ys (length xs + b / 64 - length xs) 0 = get_or-append_right xs ys (length xs) (length xs + b / 64) 0 refl (omega arith) in
    let same : length xs + b / 64 - length xs ≡ b / 64 = omega arith in
    ap (λ i. eqb (bit_at (get_or (xs ++ ys) i 0) (a % 64)) 1) word
    ∙ ap (λ j. eqb (bit_at (get_or (xs ++ ys) (length xs + b / 64) 0) j) 1) place
    ∙ ap (λ w. eqb (bit_at w (b % 64)) 1) (at ∙ ap (λ i. get_or ys i 0) same)

has_taken : (n : ℕ) (xs : List ℕ) (a : ℕ) → a / 64 < n → has (take n xs) a ≡ has xs a
has_taken n xs a l = ap (λ w. eqb (bit_at w (a % 64)) 1) (get_or-take n xs (a / 64) 0 l)

word_past : (xs : List ℕ) (i : ℕ) → length xs ≤ i → get_or xs i 0 ≡ 0
word_past [] zero l = refl
word_past [] (suc i) l = refl
word_past (x ∷ xs) zero l = let no : ⊥ = omega arith in absurd no
word_past (x ∷ xs) (suc i) l = word_past xs i (omega arith)

no_bit : (w j : ℕ) → w ≡ 0 → eqb (bit_at w j) 1 ≡ false
no_bit w j e = ap (λ v. eqb (bit_at v j) 1) e ∙ ap (λ b. eqb b 1) (bit_at-zero j)

pub has_past : (xs : List ℕ) (a : ℕ) → length xs ≤ a / 64 → has xs a ≡ false
has_past xs a l = no_bit (get_or xs (a / 64) 0) (a % 64) (word_past xs (a / 64) l)

zero_word : (i : ℕ) → get_or {A = ℕ} (0 ∷ []) i 0 ≡ 0
zero_word zero = refl
zero_word (suc zero) = refl
zero_word (suc (suc i)) = refl

-- ---- parts of s addresses

pub below_end : (a i s : ℕ) → 0 < s → a / s < i → a < i * s
below_end a i s some l =
    let most : (a / s + 1) * s ≤ i * s = mul-le-mul_right s (omega (arith, l)) in
    let split : (a / s + 1) * s ≡ a / s * s + s = product (a / s) s in
    let next : a < a / s * s + s = lt-div-mul-add {a = a} {b = s} some in
    omega (arith, most, split, next)
  where
    product : (m n : ℕ) → (m + 1) * n ≡ m * n + n
    product m n = omega arith

pub past_end : (a i s : ℕ) → i ≤ a / s → i * s ≤ a
past_end a i s l =
    let least : i * s ≤ a / s * s = mul-le-mul_right s l in
    let whole : a / s * s ≤ a = div-mul-le_self a s in
    omega (arith, least, whole)

module _ (log : ℕ) (parts : List Part) where
  abbrev size : ℕ
  size = 2 ^ log

  -- the bits of the first i parts
  pub record AreJoined (i : ℕ) (joined : List ℕ) : Type 0 where
    pub long : 64 * length joined ≡ i * size
    pub bits : (a : ℕ) (d : Part) → a / size < i → has joined a ≡ mark_of log parts a d

  pub joined_none : AreJoined 0 []
  joined_none = record {
    long = omega arith;
    bits = λ a d l. let no : ⊥ = omega (arith, l) in absurd no;
  }

  pub joined_more : (i : ℕ) (joined : List ℕ) (p : Part) (n : ℕ) → i < length parts → p ≡ get_or parts i p → size ≡ 64 * n → size < 64 * length p.bits
      → AreJoined i joined → AreJoined (i + 1) (joined ++ take ((size + 63) / 64) p.bits)
  joined_more i joined p n low is whole room before =
      let count : (size + 63) / 64 ≡ n = omega (arith, whole) in
      let part : List ℕ = take ((size + 63) / 64) p.bits in
      let part_long : length part ≡ n = length-take-le ((size + 63) / 64) p.bits (omega (arith, count, whole, room)) ∙ count in
      let start = before.long in
      record {
        long = let sum = length-append joined part in let more = product i size in omega (arith, sum, more, part_long, whole, start);
        bits = λ a d l. elim (cases_lt (a / size) i) [
          | inl old ↦ has_left joined part a (let below = below_end a i size (part_some log) old in omega (arith, below, start)) ∙ before.bits a d old
          | inr new ↦
              let here : a / size ≡ i = omega (arith, l, new) in
              let b : ℕ = a - a / size * size in
              let from : a / size * size ≤ a = div-mul-le_self a size in
              let to : a < a / size * size + size = lt-div-mul-add {a = a} {b = size} (part_some log) in
              let at : a / size * size ≡ i * size = ap (λ k. k * size) here in
              has_right joined part a b (omega (arith, start, from, at))
              ∙ has_taken ((size + 63) / 64) p.bits b (omega (arith, count, whole, from, to))
              ∙ ap (λ q. has q.bits b) (is ∙ get_or_default parts i p d low ∙ ap (λ k. get_or parts k d) (sym here))
        ];
      }
    where
      product : (m s : ℕ) → (m + 1) * s ≡ m * s + s
      product m s = omega arith

  module _ (words : ℕ) (joined : List ℕ) (all : AreJoined (length parts) joined) (covers : words ≤ length parts * size) where
    abbrev whole_set : List ℕ
    whole_set = take (words / 64 + 1) (joined ++ 0 ∷ [])

    pub whole_room : length whole_set ≡ words / 64 + 1
    whole_room =
        let long = all.long in
        let sum = length-append joined (0 ∷ []) in
        length-take-le (words / 64 + 1) (joined ++ 0 ∷ []) (omega (arith, long, sum, covers))

    pub whole_marks : (a : ℕ) (d : Part) → a / 64 < words / 64 + 1 → a / size < length parts → has whole_set a ≡ mark_of log parts a d
    whole_marks a d l low =
        has_taken (words / 64 + 1) (joined ++ 0 ∷ []) a l
        ∙ has_left joined (0 ∷ []) a (let below = below_end a (length parts) size (part_some log) low in let long = all.long in omega (arith, below, long))
        ∙ all.bits a d low

    pub whole_outside : (a : ℕ) → length parts ≤ a / size → has whole_set a ≡ false
    whole_outside a high = elim (cases_lt (a / 64) (words / 64 + 1)) [
      | inr past ↦ has_past whole_set a (let room = whole_room in omega (arith, past, room))
      | inl within ↦
          let long = all.long in
          let above = past_end a (length parts) size high in
          has_taken (words / 64 + 1) (joined ++ 0 ∷ []) a within
          ∙ has_right joined (0 ∷ []) a (a - 64 * length joined) (omega (arith, long, above))
          ∙ no_bit (get_or (0 ∷ []) ((a - 64 * length joined) / 64) 0) ((a - 64 * length joined) % 64) (zero_word ((a - 64 * length joined) / 64))
    ]

-- a part has whole words of bits
pub words_of_part : (log : ℕ) → 6 ≤ log → 2 ^ log ≡ 64 * 2 ^ (log - 6)
words_of_part log low =
    let split : log ≡ 6 + (log - 6) = omega (arith, low) in
    ap (λ n. 2 ^ n) split ∙ pow-add 2 6 (log - 6)
