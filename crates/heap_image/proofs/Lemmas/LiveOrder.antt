-- Addresses that ascend, below a bound.
use Rattle.std.proofs.Common.{◌≡◌, ℕ, zero, suc, ◌+◌, ◌-◌, ◌≤◌, ◌<◌, Bool, true, false, ◌&&◌, List, length, get_or, refl, sym, ◌∙◌, ap, arith, leb, ltb, None, All}
use Rattle.std.proofs.lemmas.Bool.{le-leb, lt-leb, lt-ltb, or_from, or_left, or_right, or_parts, and_from, and_right, leb-false}
use Rattle.std.proofs.lemmas.List.Elements.{All-from_get_or}
use Rattle.object_heap.specs.ObjectFaults.{is_misplaced, misplaced_index}
use Rattle.std.specs.List.{range_with_len}
use Rattle.std.proofs.lemmas.List.FromFn.{get_or-range_with_len, length-range_with_len}
use Rattle.heap_image.proofs.Lemmas.LiveListFaults.{find_None-at}

module _ (words : ℕ) (live : List ℕ) (i next : ℕ) (first : i ≡ 0 → next ≡ 0) (later : 0 < i → next ≡ get_or live (i - 1) 0 + 1) where
  abbrev a : ℕ
  a = get_or live i 0

  abbrev low : Bool
  low = ltb 0 i && leb a (get_or live (i - 1) 0)

  pub placed : a < words → next ≤ a → is_misplaced words live i ≡ false
  placed inside above = or_from (leb words a) low (lt-leb words a inside) (behind i first later above)
    where
      behind : (i : ℕ) → (i ≡ 0 → next ≡ 0) → (0 < i → next ≡ get_or live (i - 1) 0 + 1) → next ≤ a → (ltb 0 i && leb a (get_or live (i - 1) 0)) ≡ false
      behind zero first later above = refl
      behind (suc i) first later above =
          let is = later (omega arith) in
          and_right (ltb 0 (suc i)) (leb a (get_or live (suc i - 1) 0)) (lt-leb a (get_or live (suc i - 1) 0) (omega arith))

  pub too_high : words ≤ a → is_misplaced words live i ≡ true
  too_high high = or_left (leb words a) low (le-leb words a high)

  pub too_low : a < next → is_misplaced words live i ≡ true
  too_low below = or_right (leb words a) low (behind i first later below)
    where
      behind : (i : ℕ) → (i ≡ 0 → next ≡ 0) → (0 < i → next ≡ get_or live (i - 1) 0 + 1) → a < next → (ltb 0 i && leb a (get_or live (i - 1) 0)) ≡ true
      behind zero first later below = let none = first refl in let no : ⊥ = omega arith in absurd no
      behind (suc i) first later below =
          let is = later (omega arith) in
          and_from (ltb 0 (suc i)) (leb a (get_or live (suc i - 1) 0)) (lt-ltb 0 (suc i) (omega arith)) (le-leb a (get_or live (suc i - 1) 0) (omega arith))

-- where none is misplaced, all are below the bound
pub all_below : (words : ℕ) (live : List ℕ) → misplaced_index words live ≡ None → All (λ a. a < words) live
all_below words live none = All-from_get_or (λ a. a < words) live 0 (λ i l.
    let at : is_misplaced words live (get_or (range_with_len 0 (length live)) i 0) ≡ false = find_None-at (is_misplaced words live) (range_with_len 0 (length live)) 0 none i (let n = length-range_with_len 0 (length live) in omega arith) in
    let index : get_or (range_with_len 0 (length live)) i 0 ≡ i = get_or-range_with_len 0 (length live) i 0 l ∙ omega arith in
    let here : is_misplaced words live i ≡ false = ap (is_misplaced words live) (sym index) ∙ at in
    leb-false words (get_or live i 0) ((or_parts (leb words (get_or live i 0)) (ltb 0 i && leb (get_or live i 0) (get_or live (i - 1) 0)) here).0))
