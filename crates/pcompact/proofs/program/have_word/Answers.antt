use Rattle.std.proofs.Common.{◌≡◌, ◌∙◌, ◌<◌, ℕ, Bool, true, false, MatchBool, List, [], ◌∷◌, map, length, rules, tests, arith}
use Rattle.std.specs.Prelude.{Contains, string_bytes}
use Rattle.std.specs.List.{HoldsAt}
use Rattle.std.proofs.lemmas.Bool.{false≢true}
use Rattle.std.proofs.lemmas.Iterator.{cases_from_any, YieldsList-from_slice}
use Rattle.std.proofs.lemmas.List.{get_or-map, length-map}
use Rattle.pcompact.proofs.program.have_word.Goals as goal

of_true : (r : Bool) (Yes No : Type 0) → MatchBool r Yes No → r ≡ true → Yes
of_true true Yes No holds is_true = holds
of_true false Yes No holds is_true = absurd (false≢true is_true)

module _ {X Y : Type 0} where
  -- where an element has this image, the images contain it
  contains_image : (f : X → Y) (y : Y) (xs : List X) (k : ℕ) → k < length xs → HoldsAt (λ x. f x ≡ y) xs k → Contains (map f xs) y
  contains_image f y [] k below holds = absurd (omega (arith, below))
  contains_image f y (x ∷ xs) k below holds =
      (k, rw (length-map (x ∷ xs) f) below, get_or-map f (x ∷ xs) k x y below ∙ holds x)

pub returns : goal.returns
returns c = λ found.
    let words = c.args.words.now in
    let text = c.args.text.now in
    let cases = cases_from_any _ _ _ (λ w. string_bytes w ≡ text) (λ _. Unit {0}) c.any.ensures.ran (YieldsList-from_slice words cc)
    (λ x q k. search (rules, tests)) (λ x q k. (search rules, tt)) in
    let hit = of_true _ _ _ cases found in
    contains_image string_bytes text words hit.0 hit.1 hit.2
