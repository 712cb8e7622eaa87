use Rattle.std.proofs.Common.{◌≡◌, ◌∙◌, ap, Bool, false, ◌||◌, not, List, ℕ, IsTrue, codes, rules, filter, map}
use Rattle.std.specs.Prelude.{string_bytes}
use Rattle.command_line.specs.Respelling.{mentions, plain_by}
use Rattle.command_line.proofs.respelled.respell.Goals as goal

-- a word that mentions one of the options isn't picked
first : (a b c : Bool) → IsTrue a → not (a || b || c) ≡ false
first a b c is = search rules

second : (a b c : Bool) → IsTrue b → not (a || b || c) ≡ false
second a b c is = search rules

third : (a b c : Bool) → IsTrue c → not (a || b || c) ≡ false
third a b c is = search rules

abbrev picks : List ℕ → Bool
picks w = not (mentions (codes "--verbose") w || mentions (codes "--color") w || mentions (codes "--progress") w)

pub returns-clause-plain : goal.returns-clause-plain
returns-clause-plain c =
    let verbose = c.in_ok-first.ensures.plain in
    let color = c.in_ok-second.ensures.plain ∙ ap (λ xs. plain_by (codes "--color") (map string_bytes xs)) c.as_slice.ensures.value ∙ ap (plain_by (codes "--color")) verbose in
    c.in_ok-spell_plainly.ensures.plain ∙ ap (λ xs. plain_by (codes "--progress") (map string_bytes xs)) c.as_slice-2.ensures.value ∙ ap (plain_by (codes "--progress")) color

pub returns-clause-others : goal.returns-clause-others
returns-clause-others c =
    let verbose = c.in_ok-first.ensures.others picks (λ w. first (mentions (codes "--verbose") w) (mentions (codes "--color") w) (mentions (codes "--progress") w)) in
    let color = c.in_ok-second.ensures.others picks (λ w. second (mentions (codes "--verbose") w) (mentions (codes "--color") w) (mentions (codes "--progress") w)) in
    let progress = c.in_ok-spell_plainly.ensures.others picks (λ w. third (mentions (codes "--verbose") w) (mentions (codes "--color") w) (mentions (codes "--progress") w)) in
    progress ∙ ap (λ xs. filter picks (map string_bytes xs)) c.as_slice-2.ensures.value ∙ color ∙ ap (λ xs. filter picks (map string_bytes xs)) c.as_slice.ensures.value ∙ verbose
