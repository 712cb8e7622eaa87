use Rattle.std.proofs.Common.{◌≡◌, ◌∙◌, ap, List, [], ℕ, ◌++◌, ◌∷◌}
use Rattle.std.specs.Prelude.{string_bytes, decimal, codes}
use Rattle.std.specs.Option.{option_map_or}
use Rattle.summary.specs.Report.{in_column}
use Rattle.summary.proofs.Lemmas.Lines.{joined}
use Rattle.summary.proofs.report_text.write_line.Goals as goal

pub returns : goal.returns
returns c =
    let region = c.args.region in
    let number = λ (n : ℕ). in_column (decimal n) in
    let next = λ (text : List ℕ) (n : ℕ). text ++ 32 ∷ number n in
    let r : string_bytes c.write_column.new.text ≡ string_bytes c.args.text.now ++ number c.args.r = c.in_ok-write_column.ensures in
    let partial = c.in_ok-write_next_column.ensures ∙ ap (λ n. next (string_bytes c.write_column.new.text) n) c.from.ensures ∙ ap (λ text. next text region.partial) r in
    let live = c.in_ok-write_next_column-2.ensures ∙ ap (λ n. next (string_bytes c.write_next_column.new.text) n) c.from-2.ensures ∙ ap (λ text. next text region.live) partial in
    let destination = c.in_ok-write_next_column-3.ensures ∙ ap (λ text. next text region.destination) live in
    let count = c.in_ok-write_next_column-4.ensures ∙ ap (λ n. next (string_bytes c.write_next_column-3.new.text) n) c.from-3.ensures ∙ ap (λ text. next text region.count) destination in
    let source = c.in_ok-write_source.ensures ∙ ap (λ (text : List ℕ). text ++ 32 ∷ in_column (option_map_or decimal region.source (codes "-"))) count in
    c.in_ok-push_str.ensures.bytes
    ∙ ap (λ (text : List ℕ). text ++ 10 ∷ []) source
    ∙ joined (string_bytes c.args.text.now) (number c.args.r) (number region.partial) (number region.live) (number region.destination) (number region.count) (in_column (option_map_or decimal region.source (codes "-")))
