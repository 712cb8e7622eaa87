use Rattle.std.proofs.Common.{◌-◌, ℕ, List, length, get_or, take, drop, subst}
use Rattle.std.proofs.lemmas.List.{take-append-drop}
use Rattle.std.proofs.lemmas.List.Elements.{Contains-get_or, Contains-append_left, Contains-append_right}
use Rattle.std.specs.Prelude.{Contains}
use Rattle.heap_marking.proofs.marking.part.Part.take_batch.Goals as goal

in_middle : (xs : List ℕ) (n m v : ℕ) → Contains (take m (drop n xs)) v → Contains xs v
in_middle xs n m v h =
    let behind : Contains (drop n xs) v = subst (λ ys. Contains ys v) (take-append-drop m (drop n xs)) (Contains-append_left (take m (drop n xs)) (drop m (drop n xs)) v h) in
    subst (λ ys. Contains ys v) (take-append-drop n xs) (Contains-append_right (take n xs) (drop n xs) v behind)

pub fetch-requires-clause-inside : goal.fetch-requires-clause-inside
fetch-requires-clause-inside c = λ k d l.
    let xs : List ℕ = c.deref.result.now in
    let from : ℕ = c.len.result - c.min.result in
    let part : List ℕ = take (length xs - from) (drop from xs) in
    let here : Contains xs (get_or part k d) = in_middle xs from (length xs - from) (get_or part k d) (Contains-get_or part k d l) in
    c.requires.inside (get_or part k d) (subst (λ ys. Contains ys (get_or part k d)) c.deref.ensures.value here)
