use Rattle.std.proofs.Common.{◌∙◌, ◌++◌, List, ℕ, ap}
use Rattle.std.specs.Prelude.{string_bytes}
use Rattle.object_pairs.proofs.Lemmas.Texts.{join3}
use Rattle.object_pairs.proofs.json.push_verdict.Goals as goal

pub returns : goal.returns
returns c =
    join3 _ _ _ _ _ _ _ c.in_ok-push_str.ensures.bytes
    (c.in_ok-push_str-2.ensures.bytes ∙ ap (λ (w : List ℕ). string_bytes c.push_str.new.self ++ w) c.verdict_word.ensures)
    c.in_ok-push_str-3.ensures.bytes
