-- The words of regions, one region after the other.
use Rattle.std.proofs.Common.{◌≡◌, ℕ, ◌+◌, ◌<◌, List, [], ◌∷◌, ◌++◌, length, get_or, take, ap, ◌∙◌}
use Rattle.std.proofs.lemmas.List.{take_more, append-nil}
use Rattle.std.proofs.lemmas.List.Folds.{concat-append}
use Rattle.std.specs.List.{concat}

pub concat_more : (regions : List (List ℕ)) (i : ℕ) (region : List ℕ) → i < length regions → get_or regions i [] ≡ region
    → concat (take (i + 1) regions) ≡ concat (take i regions) ++ region
concat_more regions i region l is =
    ap concat (take_more regions i [] l)
    ∙ concat-append (take i regions) (get_or regions i [] ∷ [])
    ∙ ap (λ xs. concat (take i regions) ++ xs) (append-nil (get_or regions i []) ∙ is)
