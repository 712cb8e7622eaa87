-- Marks of the live addresses.
use Rattle.std.proofs.Common.{◌≡◌, ℕ, ◌+◌, ◌/◌, ◌≤◌, ◌<◌, inl, inr, false, List, length, get_or, sym, ◌∙◌, arith, eqb}
use Rattle.std.proofs.lemmas.Bool.{eq-eqb, ne_eqb, cases_eq}
use Rattle.std.proofs.lemmas.List.Folds.{list_any_none}
use Rattle.std.proofs.lemmas.List.Elements.{All-from_get_or, All-get_or}
use Rattle.std.specs.Prelude.{All}
use Rattle.std.specs.List.{list_any}
use Rattle.object_heap.specs.Bits.{MarkBegins, has}

-- what is marked, where the bits are those of the addresses and no others
pub begins_of : (words : ℕ) (live bits : List ℕ) → length bits ≡ words / 64 + 1 → ((k : ℕ) → has bits k ≡ list_any (λ a. eqb a k) live) → MarkBegins live words bits
begins_of words live bits room set = record { room = room; marked = set }

pub either_way : (a b : ℕ) → eqb a b ≡ eqb b a
either_way a b = elim (cases_eq a b) [
  | inl same ↦ eq-eqb a b same ∙ sym (eq-eqb b a (sym same))
  | inr other ↦ ne_eqb a b other ∙ sym (ne_eqb b a (λ e. other (sym e)))
]

-- no address of the list is that high
pub none_above : (words a : ℕ) (live : List ℕ) → All (λ b. b < words) live → words ≤ a → list_any (λ b. eqb b a) live ≡ false
none_above words a live below high = list_any_none (λ b. eqb b a) live (All-from_get_or (λ b. eqb b a ≡ false) live 0 (λ i l.
    let inside : get_or live i 0 < words = All-get_or (λ b. b < words) live i 0 l below in
    ne_eqb (get_or live i 0) a (λ e. let no : ⊥ = omega arith in no)))
