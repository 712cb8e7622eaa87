use Rattle.std.proofs.Common.{◌≡◌, ◌∙◌, ◌++◌, ℕ, List, ap, ap₂, append_assoc, max}
use Rattle.std.specs.Prelude.{flat_map, string_bytes}
use Rattle.std.specs.List.{range_with_len}
use Rattle.heap_map.proofs.Lemmas.Ranges.{flat_map-more}
use Rattle.heap_map.specs.Text.{name_of_row, row_of, row_text}
use Rattle.heap_map.proofs.strips.write_strip.Goals as goal

pub loop-i-preserved : goal.loop-i-preserved
loop-i-preserved c =
    let style = c.args.style in
    let axis = c.args.shape.has_axis in
    let cells = c.args.cells.now in
    let row = λ (i : ℕ). row_text style axis (name_of_row c.args.name.now i) (row_of (max c.args.shape.width 1) cells i) in
    let i = c.loop-i.i in
    let old = string_bytes c.args.text.now in
    let this : row_text style axis c.name_of_row.result.now c.row_of-row.result.now ≡ row i = ap₂ (row_text style axis) c.name_of_row.ensures (c.row_of-row.ensures ∙ ap (λ (w : ℕ). row_of w cells i) c.max-width.ensures) in
    c.in_ok-write_row.ensures
    ∙ ap₂ (λ (a b : List ℕ). a ++ b) c.loop-i.invariant this
    ∙ append_assoc old (flat_map row (range_with_len 0 i)) (row i)
    ∙ ap (λ (l : List ℕ). old ++ l) (flat_map-more row i)
