use Rattle.std.proofs.Common.{◌≡◌, ◌∙◌, ◌++◌, ℕ, List, Option, Some, None, ap, arith}
use Rattle.heap_text.specs.Tokens.{reference_word}
use Rattle.heap_text.proofs.Lemmas.WordTexts.{reference_is, reference_is_word}
use Rattle.heap_text.proofs.line_parser.tokens.Tokens.next_reference.Goals as goal

pub returns-in-Some : goal.returns-in-Some
returns-in-Some c w rest few r is =
    let both = c.in-Some.ensures.some (reference_word w) rest (reference_is_word w (omega (arith, few, c.requires))) r (is ∙ ap (λ (t : List ℕ). t ++ rest) (reference_is w)) in
    let found : Some c.in-Some.token.now ≡ Some (reference_word w) = both.0 in
    (c.parse_reference.ensures.reference w few (cc), both.1)

pub returns-in-None : goal.returns-in-None
returns-in-None c w rest few r is =
    let both = c.in-None.ensures.some (reference_word w) rest (reference_is_word w (omega (arith, few, c.requires))) r (is ∙ ap (λ (t : List ℕ). t ++ rest) (reference_is w)) in
    let no : ◌≡◌ {A = Option (List ℕ)} None (Some (reference_word w)) = both.0 in
    cc
