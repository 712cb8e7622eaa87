-- References, and the marks by which they are checked.
use Rattle.std.proofs.Common.{◌≡◌, ℕ, ◌+◌, ◌-◌, ◌≤◌, ◌<◌, inl, inr, Bool, false, ◌||◌, List, get_or, sym, ◌∙◌, ap, arith, eqb}
use Rattle.std.proofs.lemmas.Bool.{eq-eqb, ne_eqb, cases_eq, or_from}
use Rattle.std.proofs.lemmas.List.Folds.{list_any_none}
use Rattle.std.proofs.lemmas.List.Elements.{All-from_get_or, All-get_or}
use Rattle.std.specs.Prelude.{All}
use Rattle.std.specs.List.{list_any}
use Rattle.object_heap.specs.Bits.{MarkBegins, has}

one_less : (r b : ℕ) → 0 < r → eqb r (b + 1) ≡ eqb (r - 1) b
one_less r b some = elim (cases_eq (r - 1) b) [
  | inl same ↦ eq-eqb r (b + 1) (omega arith) ∙ sym (eq-eqb (r - 1) b same)
  | inr other ↦ ne_eqb r (b + 1) (λ e. other (omega arith)) ∙ sym (ne_eqb (r - 1) b other)
]

either_way : (a b : ℕ) → eqb a b ≡ eqb b a
either_way a b = elim (cases_eq a b) [
  | inl same ↦ eq-eqb a b same ∙ sym (eq-eqb b a (sym same))
  | inr other ↦ ne_eqb a b other ∙ sym (ne_eqb b a (λ e. other (sym e)))
]

module _ (words : ℕ) (live bits : List ℕ) (below : All (λ b. b < words) live) (marks : MarkBegins live words bits) (r : ℕ) (some : r ≡ 0 → ⊥) where
  abbrev leads : Bool
  leads = (eqb r 0 || list_any (λ b. eqb r (b + 1)) live)

  pub leads_by_mark : r ≤ words → has bits (r - 1) ≡ leads
  leads_by_mark inside =
      let positive : 0 < r = omega arith in
      let same : (b : ℕ) → eqb b (r - 1) ≡ eqb r (b + 1) = λ b. either_way b (r - 1) ∙ sym (one_less r b positive) in
      marks.marked (r - 1) ∙ (λ i. list_any (λ b. same b i) live) ∙ ap (λ t. t || list_any (λ b. eqb r (b + 1)) live) (sym (ne_eqb r 0 some))

  pub leads_nowhere : words < r → false ≡ leads
  leads_nowhere outside =
      let none : list_any (λ b. eqb r (b + 1)) live ≡ false = list_any_none (λ b. eqb r (b + 1)) live (All-from_get_or (λ b. eqb r (b + 1) ≡ false) live 0 (λ i l.
      let inside : get_or live i 0 < words = All-get_or (λ b. b < words) live i 0 l below in
      ne_eqb r (get_or live i 0 + 1) (λ e. omega arith))) in
      sym (or_from (eqb r 0) (list_any (λ b. eqb r (b + 1)) live) (ne_eqb r 0 some) none)
