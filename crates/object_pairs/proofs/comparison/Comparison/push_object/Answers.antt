use Rattle.std.proofs.Common.{◌∙◌, ◌++◌, List, ℕ, ap}
use Rattle.std.specs.Prelude.{string_bytes}
use Rattle.object_pairs.specs.Json.{spaces_list}
use Rattle.object_pairs.specs.declared.figures.SpaceFigures.{SpaceFigures}
use Rattle.object_pairs.proofs.Lemmas.Texts.{join3}
use Rattle.object_pairs.proofs.comparison.Comparison.push_object.Goals as goal

pub returns : goal.returns
returns c =
    join3 _ _ _ _ _ _ _ c.in_ok-push_members.ensures
    (c.in_ok-push_spaces.ensures ∙ ap (λ (ss : List SpaceFigures). string_bytes c.push_members.new.text ++ spaces_list ss) c.deref.ensures.value)
    c.in_ok-push_str.ensures.bytes
