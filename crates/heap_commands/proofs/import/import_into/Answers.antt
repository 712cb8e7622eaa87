use Rattle.std.proofs.Common.{List, ℕ, sym, subst}
use Rattle.std.specs.Prelude.{string_bytes}
use Rattle.heap_commands.specs.Import.{IsLineOf, IsTextOf}
use Rattle.heap_commands.proofs.Lemmas.Imports.{line_alone}
use Rattle.heap_commands.proofs.import.import_into.Goals as goal

pub returns-in_ok-write_image_buffered-in-None-clause-image : goal.returns-in_ok-write_image_buffered-in-None-clause-image
returns-in_ok-write_image_buffered-in-None-clause-image g c =
    let image = c.in_ok-imported-in-None.imported.image in
    let requested = c.in_ok-imported-in-None.ensures.requested in
    let shown : List ℕ = string_bytes c.in_ok-text-in-None.text in
    let begins : IsLineOf image shown = record {
      valid = requested.valid;
      rooted = requested.rooted;
      figures = c.in_ok-imported-in-None.imported.figures;
      counted = requested.figures;
      printed = c.in_ok-text-in-None.ensures;
    } in
    (c.in_ok-imported-in-None.imported, requested, subst (λ r. IsTextOf image r shown) (sym c.in-None.is) (line_alone image shown begins), c.in_ok-write_image_buffered-in-None.ensures.text)

pub returns-in_ok-write_image_buffered-in_default-clause-image : goal.returns-in_ok-write_image_buffered-in_default-clause-image
returns-in_ok-write_image_buffered-in_default-clause-image g c =
    (c.in_ok-import-in_default.import.imported, c.in_ok-import-in_default.ensures.requested, c.in_ok-text-in_default.ensures, c.in_ok-write_image_buffered-in_default.ensures.text)
