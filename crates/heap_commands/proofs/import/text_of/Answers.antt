use Rattle.std.proofs.Common.{List, ℕ, sym, subst}
use Rattle.std.specs.Prelude.{string_bytes}
use Rattle.heap_commands.specs.Import.{IsLineOf, IsTextOf}
use Rattle.heap_commands.proofs.Lemmas.Imports.{line_and_histogram}
use Rattle.heap_commands.proofs.import.text_of.Goals as goal

pub returns : goal.returns
returns c =
    let image = c.args.import.now.imported.image in
    let line : List ℕ = string_bytes c.in_ok-text.text in
    let shown : List ℕ = string_bytes c.push_histogram.new.text in
    let begins : IsLineOf image line = record {
      valid = c.requires.valid;
      rooted = c.requires.rooted;
      figures = c.args.import.now.imported.figures;
      counted = c.requires.figures;
      printed = c.in_ok-text.ensures;
    } in
    let added = c.in_ok-push_histogram.ensures in
    subst (λ r. IsTextOf image r shown) (sym c.in-Some.is) (line_and_histogram image line added.0 shown c.in-Some.most begins added.1 added.2)
