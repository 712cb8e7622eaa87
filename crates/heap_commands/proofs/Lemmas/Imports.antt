-- What `import` prints of an image.
use Rattle.std.proofs.Common.{◌≡◌, ℕ, List, [], ◌++◌, Option, Some, None, append-nil, refl, sym, ◌∙◌, ap}
use Rattle.object_heap.specs.HeapImage.{HeapImage}
use Rattle.heap_commands.specs.Histogram.{IsHistogram}
use Rattle.heap_commands.specs.Import.{IsImportText, IsLineOf, IsTextOf}

module _ (image : HeapImage) where
  pub import_text : (most : Option ℕ) (shown : List ℕ) → IsTextOf image most shown → IsImportText most shown
  import_text None shown h = (
    image,
    record {
      valid = h.begins.valid;
      rooted = h.begins.rooted;
      figures = h.begins.figures;
      counted = h.begins.counted;
      printed = h.printed ∙ ap (λ rest. h.line ++ rest) h.ends ∙ append-nil h.line ∙ h.begins.printed;
    },
  )
  import_text (Some most) shown h = (image, h)

  -- the line alone
  pub line_alone : (line : List ℕ) → IsLineOf image line → IsTextOf image None line
  line_alone line h = record { line = line; begins = h; rest = []; ends = refl; printed = sym (append-nil line) }

  -- the line and a histogram
  pub line_and_histogram : (line rest shown : List ℕ) (most : ℕ) (h : IsLineOf image line) → IsHistogram image h.figures most rest → shown ≡ line ++ rest
      → IsTextOf image (Some most) shown
  line_and_histogram line rest shown most h histogram is = record { line = line; begins = h; rest = rest; ends = histogram; printed = is }
