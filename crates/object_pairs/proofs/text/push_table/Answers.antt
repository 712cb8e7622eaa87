use Rattle.std.proofs.Common.{◌∙◌, ◌++◌, List, ℕ, ap}
use Rattle.std.specs.Prelude.{string_bytes}
use Rattle.object_pairs.specs.Text.{more_text, rows_from}
use Rattle.object_pairs.specs.declared.figures.SpaceFigures.{SpaceFigures}
use Rattle.object_pairs.proofs.Lemmas.Texts.{join3}
use Rattle.object_pairs.proofs.text.push_table.Goals as goal

pub returns : goal.returns
returns c =
    join3 _ _ _ _ _ _ _ c.in_ok-push_str.ensures.bytes
    (c.in_ok-push_rows.ensures ∙ ap (λ (ss : List SpaceFigures). string_bytes c.push_str.new.self ++ rows_from 1 ss) c.first_spaces.ensures)
    (c.in_ok-push_more.ensures ∙ ap (λ n. string_bytes c.push_rows.new.text ++ more_text n) c.saturating_sub.ensures)
