use Rattle.std.proofs.Common.{◌≡◌, ◌∙◌, ◌≤◌, ◌+◌, ℕ, zero, suc, add-one, zero-add, ap, sym, subst, arith}
use Rattle.std.specs.Prelude.{map, sum_by}
use Rattle.std.specs.List.{range_with_len}
use Rattle.std.proofs.lemmas.List.FromFn.{sum_by-map-range_with_len_more}
use Rattle.object_heap.specs.HeapImage.{HeapImage, heap_words, live_words}
use Rattle.heap_map.specs.declared.cell.Cell.{Cell}
use Rattle.heap_map.specs.Cells.{cell_at, cell_start}
use Rattle.heap_map.proofs.laws.live_words_of_cells_add_up.Goals as goal

-- the first k cells have the live words up to their end
so_far : (heap : HeapImage) (prefix top n : ℕ)
    → ((a b c : ℕ) → a ≤ b → b ≤ c → live_words heap a c ≡ live_words heap a b + live_words heap b c)
    → cell_start (heap_words heap) n 0 ≡ 0
    → ((i k : ℕ) → i ≤ k → cell_start (heap_words heap) n i ≤ cell_start (heap_words heap) n k)
    → (k : ℕ) → sum_by (λ (cell : Cell). cell.live) (map (cell_at heap prefix top n) (range_with_len 0 k)) ≡ live_words heap 0 (cell_start (heap_words heap) n k)
so_far heap prefix top n parts first ordered zero = sym (ap (live_words heap 0) first)
so_far heap prefix top n parts first ordered (suc k) =
    let start = cell_start (heap_words heap) n in
    let cells = λ (m : ℕ). sum_by (λ (cell : Cell). cell.live) (map (cell_at heap prefix top n) (range_with_len 0 m)) in
    let more : cells (k + 1) ≡ cells k + live_words heap (start k) (start (k + 1)) = sum_by-map-range_with_len_more (λ (cell : Cell). cell.live) (cell_at heap prefix top n) 0 k k (zero-add k) in
    let before = so_far heap prefix top n parts first ordered k in
    let whole = parts 0 (start k) (start (k + 1)) (omega arith) (ordered k (k + 1) (omega arith)) in
    let one : k + 1 ≡ suc k = add-one k in
    let is : cells (k + 1) ≡ live_words heap 0 (start (k + 1)) = omega (arith, more, before, whole) in
    subst (λ m. cells m ≡ live_words heap 0 (start m)) one is

pub returns : goal.returns
returns c heap prefix top n some =
    so_far heap prefix top n (c.live_words_by_blocks.ensures.parts heap) (c.cells_lie_in_a_row.ensures.first (heap_words heap) n) (c.cells_lie_in_a_row.ensures.ordered (heap_words heap) n) n
    ∙ ap (live_words heap 0) (c.cells_lie_in_a_row.ensures.last (heap_words heap) n some)
