use Rattle.std.proofs.Common.{◌<◌, ◌≤◌, ◌+◌, ℕ, zero, suc, add-one, inl, inr, sym, subst, arith}
use Rattle.std.proofs.lemmas.Bool.{cases_order}
use Rattle.std.proofs.lemmas.Bool.Decides.{leb_tells}
use Rattle.heap_map.specs.Cells.{cell_start}
use Rattle.heap_map.proofs.laws.each_word_is_in_one_cell.Goals as goal

-- a place in an ascending row that begins at or below it, and ends above
between : (start : ℕ → ℕ) (n q : ℕ) → start 0 ≤ q → q < start n → (i : ℕ) × (i < n) × (start i ≤ q) × (q < start (i + 1))
between start zero q low high = let no : ⊥ = omega arith in absurd no
between start (suc n) q low high =
    elim (leb_tells (start n) q) [
      | inl reached ↦ (n, omega arith, reached.1, subst (λ m. q < start m) (sym (add-one n)) high)
      | inr not_yet ↦ let at = between start n q low (omega (arith, not_yet.1)) in (at.0, omega (arith, at.1), at.2, at.3)
    ]

pub returns-clause-one : goal.returns-clause-one
returns-clause-one c words n q some inside =
    let first = c.cells_lie_in_a_row.ensures.first words n in
    let last = c.cells_lie_in_a_row.ensures.last words n some in
    between (cell_start words n) n q (omega (arith, first)) (omega (arith, last))

pub returns-clause-only : goal.returns-clause-only
returns-clause-only c words n q i k low high under over =
    elim (cases_order i k) [
      | inl e ↦ e
      | inr apart ↦ elim apart [
        | inl less ↦ let h = c.cells_lie_in_a_row.ensures.ordered words n (i + 1) k (omega (arith, less)) in let no : ⊥ = omega (arith, h, high, under) in absurd no
        | inr more ↦ let h = c.cells_lie_in_a_row.ensures.ordered words n (k + 1) i (omega (arith, more)) in let no : ⊥ = omega (arith, h, low, over) in absurd no
      ]
    ]
