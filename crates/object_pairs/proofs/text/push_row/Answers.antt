use Rattle.std.proofs.Common.{◌∙◌, ◌++◌, ap}
use Rattle.std.specs.Prelude.{string_bytes}
use Rattle.object_pairs.specs.Text.{right_columns}
use Rattle.object_pairs.proofs.Lemmas.Texts.{join3}
use Rattle.object_pairs.proofs.text.push_row.Goals as goal

pub returns : goal.returns
returns c =
    join3 _ _ _ _ _ _ _ c.in_ok-push_counts_of.ensures
    (c.in_ok-push_prefix_of.ensures ∙ ap (λ n. string_bytes c.push_counts_of.new.text ++ right_columns c.args.space.now n) c.prefix_bytes.ensures)
    c.in_ok-push_start.ensures
