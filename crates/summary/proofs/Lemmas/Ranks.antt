-- Redirection by one count, and how bits are counted.
use Rattle.std.proofs.Common.{◌≡◌, ℕ, zero, suc, ◌+◌, ◌-◌, ◌*◌, ◌/◌, ◌%◌, ◌^◌, ◌≤◌, ◌<◌, min, inl, inr, Bool, true, cond, eqb, List, [], length, get_or, refl, sym, ◌∙◌, ap, subst, arith, ltb, add-zero, zero-add, bit_and}
use Rattle.std.specs.Prelude.{count_by}
use Rattle.std.specs.List.{range_with_len, Contains, list_any}
use Rattle.std.specs.Int.{bit_at}
use Rattle.std.specs.Int.RustNames.{count_ones}
use Rattle.std.proofs.lemmas.Bool.{cases_lt, cond-false, ne_eqb, lt-ltb, le-ltb, or_cases, eqb-true}
use Rattle.std.proofs.lemmas.Nat.{mod-pow-add, ones_cat, and_mask, one_shl, mod_below}
use Rattle.std.proofs.lemmas.Nat.Bits.{bit_at-lt}
use Rattle.std.proofs.lemmas.List.{get_or_default}
use Rattle.std.proofs.lemmas.List.Folds.{Any-from_list_any}
use Rattle.std.proofs.Math.Nat.{one-le-pow}
use Rattle.object_heap.specs.HeapImage.{HeapImage, HasLiveList, heap_words, is_live_word, live_words, is_null_or_live}
use Rattle.summary.proofs.Lemmas.Spans.{count_by-cons}
use Rattle.summary.specs.LiveObjects.{object_at}
use Rattle.summary.specs.NewAddresses.{prefix_end, new_address}
use Rattle.summary.specs.WordMoves.{slid}
use Rattle.summary.specs.Compaction.{redirected}
use Rattle.mark_bitmap.specs.Marks.{AreLiveBits}
use Rattle.summary.specs.Redirections.{AreBits, is_counted, counted_below, first_rank}
use Rattle.summary.proofs.Lemmas.Addresses.{new_address-slid}
use Rattle.summary.proofs.Lemmas.Blocks.{count_by-all}
use Rattle.summary.proofs.Lemmas.Destinations.{count_by-parts}
use Rattle.summary.proofs.Lemmas.Words.{live_below, is_live, live_words-add, live_words-le, slid-low, slid-high}

-- tests that agree at each place of two ranges pass equally often
count_by-along : (p r : ℕ → Bool) (a b n : ℕ) → ((j : ℕ) → j < n → p (a + j) ≡ r (b + j)) → count_by p (range_with_len a n) ≡ count_by r (range_with_len b n)
count_by-along p r a b zero h = refl
count_by-along p r a b (suc n) h =
    let here : p a ≡ r b = ap p (sym (add-zero a)) ∙ h 0 (omega arith) ∙ ap r (add-zero b) in
    let one = count_by-cons p a (range_with_len (a + 1) n) in
    let two = count_by-cons r b (range_with_len (b + 1) n) in
    let first : cond {A = ℕ} (p a) 1 0 ≡ cond (r b) 1 0 = ap (λ c. cond {A = ℕ} c 1 0) here in
    let more = count_by-along p r (a + 1) (b + 1) n (λ j l. next j l) in
    omega arith
  where
    next : (j : ℕ) → j < n → p (a + 1 + j) ≡ r (b + 1 + j)
    next j l =
        let e : a + 1 + j ≡ a + suc j = omega arith in
        let f : b + suc j ≡ b + 1 + j = omega arith in
        ap p e ∙ h (suc j) (omega arith) ∙ ap r f

-- ---- bits of a word

one_bit : (d : ℕ) → d < 2 → count_ones d ≡ cond (eqb d 1) 1 0
unfolding count_ones
one_bit zero h = refl
one_bit (suc zero) h = refl
one_bit (suc (suc d)) h = let no : ⊥ = omega arith in absurd no

-- the low k bits of a number, counted one by one and at once
low_bits-counted : (w k : ℕ) → count_by (λ j. eqb (bit_at w j) 1) (range_with_len 0 k) ≡ count_ones (w % 2 ^ k)
low_bits-counted w zero =
    let none : w % 1 ≡ 0 = omega arith in
    sym (ap count_ones none ∙ one_bit 0 (omega arith))
low_bits-counted w (suc k) =
    let p : ℕ → Bool = λ j. eqb (bit_at w j) 1 in
    let split : count_by p (range_with_len 0 (k + 1)) ≡ count_by p (range_with_len 0 k) + count_by p (range_with_len (0 + k) 1) = count_by-parts p 0 k 1 in
    let at : 0 + k ≡ k = zero-add k in
    let last : count_by p (range_with_len (0 + k) 1) ≡ cond (p k) 1 0 + 0 = ap (λ n. count_by p (range_with_len n 1)) at ∙ count_by-cons p k [] in
    let rest = low_bits-counted w k in
    let low : w % 2 ^ k < 2 ^ k = mod_below w (2 ^ k) (let h : 1 ≤ 2 ^ k = one-le-pow k 2 (omega arith) in omega arith) in
    let parts : w % 2 ^ (1 + k) ≡ bit_at w k * 2 ^ k + w % 2 ^ k = mod-pow-add w 1 k in
    let ones : count_ones (w % 2 ^ (1 + k)) ≡ count_ones (bit_at w k) + count_ones (w % 2 ^ k) = ap count_ones parts ∙ ones_cat k (bit_at w k) (w % 2 ^ k) low in
    let top : count_ones (bit_at w k) ≡ cond (p k) 1 0 = one_bit (bit_at w k) (bit_at-lt w k) in
    let more : suc k ≡ k + 1 = omega arith in
    let more' : 1 + k ≡ suc k = omega arith in
    ap (λ n. count_by p (range_with_len 0 n)) more ∙ omega arith ∙ ap (λ n. count_ones (w % 2 ^ n)) more'

-- the numbers for which the low k bits of a word stand
bits-counted : (test : ℕ → Bool) (first word k : ℕ) → AreBits test first word → k ≤ 64 → count_by test (range_with_len first k) ≡ count_ones (word % 2 ^ k)
bits-counted test first word k are l =
    count_by-along test (λ j. eqb (bit_at word j) 1) first 0 k (λ j m. (
    let z : 0 + j ≡ j = zero-add j in
    sym (are j (omega arith)) ∙ ap (λ i. eqb (bit_at word i) 1) (sym z)))
    ∙ low_bits-counted word k

-- the numbers for which the bits of a word below bit k stand, by a mask
masked-counted : (test : ℕ → Bool) (first word k : ℕ) → AreBits test first word → k < 64
    → count_ones (bit_and word (1 * 2 ^ k % 18446744073709551616 - 1)) ≡ count_by test (range_with_len first k)
masked-counted test first word k are l =
    ap (λ n. count_ones (bit_and word (n - 1))) (one_shl k 64 l)
    ∙ ap count_ones (and_mask word k)
    ∙ sym (bits-counted test first word k are (omega arith))

-- ---- what is counted

module _ (image : HeapImage) where
  abbrev P : ℕ
  P = prefix_end image

  abbrev L : ℕ → ℕ → ℕ
  L = live_words image

  -- the bits of 64 words
  pub bits-of : (live : List ℕ) → AreLiveBits image live → (i : ℕ) → AreBits (is_live_word image) (64 * i) (get_or live i 0)
  bits-of live are i j l =
      let word : (64 * i + j) / 64 ≡ i = omega arith in
      let bit : (64 * i + j) % 64 ≡ j = omega arith in
      ap (λ k. eqb (bit_at (get_or live k 0) j) 1) (sym word)
      ∙ ap (λ k. eqb (bit_at (get_or live ((64 * i + j) / 64) 0) k) 1) (sym bit)
      ∙ are.bits (64 * i + j)

  -- the live words up to the start of a word of bits, and those of the bits below one of it
  pub live-within : (i k word : ℕ) → AreBits (is_live_word image) (64 * i) word → k < 64
      → L 0 (64 * i) + count_ones (bit_and word (1 * 2 ^ k % 18446744073709551616 - 1)) ≡ L 0 (64 * i + k)
  live-within i k word are l =
      let cut = live_words-add image 0 (64 * i) (64 * i + k) (omega arith) (omega arith) in
      let few : 64 * i + k - 64 * i ≡ k = omega arith in
      let at : L (64 * i) (64 * i + k) ≡ count_by (is_live_word image) (range_with_len (64 * i) k) = ap (λ n. count_by (is_live_word image) (range_with_len (64 * i) n)) few in
      let ones = masked-counted (is_live_word image) (64 * i) word k are l in
      omega arith

  -- the live words up to the start of the next word of bits
  pub live-next : (i word : ℕ) → AreBits (is_live_word image) (64 * i) word
      → L 0 (64 * i) + count_ones (word % 2 ^ 64) ≡ L 0 (64 * (i + 1))
  live-next i word are =
      let cut = live_words-add image 0 (64 * i) (64 * (i + 1)) (omega arith) (omega arith) in
      let few : 64 * (i + 1) - 64 * i ≡ 64 = omega arith in
      let at : L (64 * i) (64 * (i + 1)) ≡ count_by (is_live_word image) (range_with_len (64 * i) 64) = ap (λ n. count_by (is_live_word image) (range_with_len (64 * i) n)) few in
      let ones = bits-counted (is_live_word image) (64 * i) word 64 are (omega arith) in
      omega arith

  -- the numbers counted below an address plus 1 are null and as many words as the new address
  pub counted-slid : (a : ℕ) → counted_below image (suc a) ≡ suc (slid image a)
  counted-slid a =
      let c : ℕ → Bool = is_counted image in
      let one = count_by-cons c 0 (range_with_len 1 a) in
      let null : cond {A = ℕ} (c 0) 1 0 ≡ 1 = refl in
      let rest : count_by c (range_with_len 1 a) ≡ slid image a = elim (cases_lt a P) [
        | inl low ↦
            let all = count_by-all c 1 a (λ q l m. stays q l (omega arith)) in
            let to = slid-low image a low in
            omega arith
        | inr high ↦
            let e : a ≡ P + (a - P) = omega arith in
            let parts = count_by-parts c 1 P (a - P) in
            let whole : count_by c (range_with_len 1 a) ≡ count_by c (range_with_len 1 (P + (a - P))) = ap (λ n. count_by c (range_with_len 1 n)) e in
            let all = count_by-all c 1 P (λ q l m. stays q l (omega arith)) in
            let live : count_by c (range_with_len (1 + P) (a - P)) ≡ live_words image P a = count_by-along c (is_live_word image) (1 + P) P (a - P) (λ j l. slides j) in
            let to = slid-high image a high in
            omega arith
      ] in
      omega arith
    where
      stays : (q : ℕ) → 1 ≤ q → q ≤ P → is_counted image q ≡ true
      stays q l m =
          let below : ltb (q - 1) P ≡ true = lt-ltb (q - 1) P (omega arith) in
          let some = ne_eqb q 0 (λ e. omega arith) in
          rw some (rw below refl)

      slides : (j : ℕ) → is_counted image (1 + P + j) ≡ is_live_word image (P + j)
      slides j =
          let at : 1 + P + j - 1 ≡ P + j = omega arith in
          let above = le-ltb (P + j) P (omega arith) in
          let some = ne_eqb (1 + P + j) 0 (λ e. omega arith) in
          rw some (rw at (rw above refl))

module _ (image : HeapImage) where
  -- one live word more
  live-more : (a : ℕ) → is_live_word image a ≡ true → live_words image 0 (a + 1) ≡ live_words image 0 a + 1
  live-more a is =
      let cut = live_words-add image 0 a (a + 1) (omega arith) (omega arith) in
      let few : a + 1 - a ≡ 1 = omega arith in
      let last : live_words image a (a + 1) ≡ cond (is_live_word image a) 1 0 + 0
      = ap (λ n. count_by (is_live_word image) (range_with_len a n)) few ∙ count_by-cons (is_live_word image) a [] in
      let one : cond {A = ℕ} (is_live_word image a) 1 0 ≡ 1 = ap (λ c. cond {A = ℕ} c 1 0) is in
      omega arith

  -- the lesser of a reference and the live words below it, counted on from the first rank
  pub least-counted : (x count : ℕ) → (0 < x → is_live_word image (x - 1) ≡ true) → count ≡ first_rank image + live_words image 0 x → min x count ≡ counted_below image x
  least-counted x count live is = elim (cases_lt 0 x) [
    | inr none ↦ (
        let null : counted_below image x ≡ 0 = ap (counted_below image) (let e : x ≡ 0 = omega arith in e) in
        omega arith)
    | inl some ↦
        let a : ℕ = x - 1 in
        let e : x ≡ suc a = omega arith in
        let next : a + 1 ≡ x = omega arith in
        let more : live_words image 0 x ≡ live_words image 0 a + 1 = ap (live_words image 0) (sym next) ∙ live-more a (live some) in
        let to : counted_below image x ≡ suc (slid image a) = ap (counted_below image) e ∙ counted-slid image a in
        let dead = live_words-le image 0 (prefix_end image) in
        elim (cases_lt a (prefix_end image)) [
          | inl low ↦
              let cut = live_words-add image 0 a (prefix_end image) (omega arith) (omega arith) in
              let one = live_words-add image 0 x (prefix_end image) (omega arith) (omega arith) in
              let few = live_words-le image x (prefix_end image) in
              let stays = slid-low image a low in
              omega arith
          | inr high ↦
              let cut = live_words-add image 0 (prefix_end image) a (omega arith) high in
              let few = live_words-le image (prefix_end image) a in
              let goes = slid-high image a high in
              omega arith
        ]
  ]

  -- the lesser of an address and the live words below it, counted on from the first rank
  pub least-slid : (q count : ℕ) → count ≡ first_rank image + live_words image 0 q → min q count ≡ slid image q
  least-slid q count is =
      let dead = live_words-le image 0 (prefix_end image) in
      elim (cases_lt q (prefix_end image)) [
        | inl low ↦
            let cut = live_words-add image 0 q (prefix_end image) (omega arith) (omega arith) in
            let few = live_words-le image q (prefix_end image) in
            let stays = slid-low image q low in
            omega arith
        | inr high ↦
            let cut = live_words-add image 0 (prefix_end image) q (omega arith) high in
            let few = live_words-le image (prefix_end image) q in
            let goes = slid-high image q high in
            omega arith
      ]

-- a listed address has an index
index_of : (xs : List ℕ) (a : ℕ) → Contains xs a → (i : ℕ) × (i < length xs) × (get_or xs i 0 ≡ a)
index_of xs a h = (h.0, h.1, get_or_default xs h.0 0 a h.1 ∙ h.2)

module _ (image : HeapImage) (sound : HasLiveList image) where
  pub live_in_heap : (a : ℕ) → Contains image.live a → a < heap_words image
  live_in_heap a h =
      let listed = index_of image.live a h in
      let some = (sound.sound listed.0 0 listed.1).header in
      let at : object_at image listed.0 ≡ a = listed.2 in
      let below = live_below image sound (object_at image listed.0) (is_live image sound listed.0 (object_at image listed.0) listed.1 (omega arith) (omega arith)) in
      omega arith

  -- the first word of a live object is live
  pub listed-live : (a : ℕ) → Contains image.live a → is_live_word image a ≡ true
  listed-live a h =
      let listed = index_of image.live a h in
      let some = (sound.sound listed.0 0 listed.1).header in
      let at : object_at image listed.0 ≡ a = listed.2 in
      subst (λ (y : ℕ). is_live_word image y ≡ true) at (is_live image sound listed.0 (object_at image listed.0) listed.1 (omega arith) (omega arith))

  -- a live object goes where its first word goes
  object-slid : (a : ℕ) → Contains image.live a → new_address image a ≡ slid image a
  object-slid a h =
      let listed = index_of image.live a h in
      let x : ℕ = object_at image listed.0 in
      let some = (sound.sound listed.0 0 listed.1).header in
      let first = new_address-slid image sound listed.0 0 listed.1 some in
      let at : slid image (x + 0) ≡ slid image x = ap (slid image) (add-zero x) in
      let goes : new_address image x ≡ slid image x = omega arith in
      subst (λ (y : ℕ). new_address image y ≡ slid image y) listed.2 goes

  pub object-counted : (a : ℕ) → Contains image.live a → counted_below image (a + 1) ≡ new_address image a + 1
  object-counted a h =
      let goes = object-slid a h in
      let count = counted-slid image a in
      let next : a + 1 ≡ suc a = omega arith in
      let same = ap (counted_below image) next in
      omega arith

  -- a reference that is not null leads to an object
  leads : (w : ℕ) → is_null_or_live image w ≡ true → (w ≡ 0 → ⊥) → Contains image.live (w - 1)
  leads w h some = elim (or_cases (eqb w 0) (list_any (λ a. eqb w (a + 1)) image.live) h) [
    | inl null ↦ absurd (some (eqb-true w 0 null))
    | inr any ↦
        let at = Any-from_list_any (λ a. eqb w (a + 1)) image.live any in
        let e = eqb-true w (at.1 + 1) at.4 in
        let is : w - 1 ≡ at.1 = omega arith in
        (at.0, at.2, get_or_default image.live at.0 (w - 1) at.1 at.2 ∙ at.3 ∙ sym is)
  ]

  -- a reference lies in the heap, or just after its last word
  pub reference-inside : (w : ℕ) → is_null_or_live image w ≡ true → w ≤ heap_words image
  reference-inside w h = elim (cases_lt 0 w) [
    | inl some ↦ let inside = live_in_heap (w - 1) (leads w h (λ none. omega arith)) in omega arith
    | inr none ↦ omega arith
  ]

-- the word of a reference that is not null is live
pub reference-live : (image : HeapImage) → HasLiveList image → (w : ℕ) → is_null_or_live image w ≡ true → 0 < w → is_live_word image (w - 1) ≡ true
reference-live image sound w h some = listed-live image sound (w - 1) (leads image sound w h (λ none. omega arith))

pub redirected-counted : (image : HeapImage) → HasLiveList image → (w : ℕ) → is_null_or_live image w ≡ true → redirected image w ≡ counted_below image w
redirected-counted image sound w h = elim (cases_lt 0 w) [
  | inl some ↦
      let not_null : w ≡ 0 → ⊥ = λ none. omega arith in
      let count = object-counted image sound (w - 1) (leads image sound w h not_null) in
      let e : w - 1 + 1 ≡ w = omega arith in
      let same = ap (counted_below image) e in
      let goes = cond-false (eqb w 0) 0 (new_address image (w - 1) + 1) (ne_eqb w 0 not_null) in
      omega arith
  | inr none ↦
      let e : w ≡ 0 = omega arith in
      rw e refl
]
