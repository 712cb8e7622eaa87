use Rattle.std.proofs.Common.{◌≡◌, ◌∙◌, ◌++◌, ℕ, List, [], ◌∷◌, sym, ap, append_assoc}
use Rattle.std.proofs.lemmas.List.{nil_from_length}
use Rattle.std.proofs.lemmas.Result.{on_ok_weaker}
use Rattle.command_support.specs.Json.{rest_of}
use Rattle.command_support.specs.declared.json.Place.TheVariants.{Name}
use Rattle.command_support.proofs.json.push_json.Goals as goal

pub loop-byte-init : goal.loop-byte-init
loop-byte-init c =
    ap (λ (xs : List ℕ). xs ++ rest_of Name c.args.text.now) c.in_ok-extend_from_slice.ensures.items
    ∙ append_assoc c.args.json.now.items (123 ∷ 34 ∷ []) (rest_of Name c.args.text.now)

pub returns : goal.returns
returns c =
    let nil : c.loop-byte.rest.now ≡ [] = nil_from_length c.loop-byte.rest.now c.in_default.ensures.cases in
    let left = ap (λ (rest : List ℕ). c.loop-byte.json.items ++ rest_of c.loop-byte.place rest) (sym nil) in
    on_ok_weaker c.push_end.result (λ ended. ended ∙ (left ∙ c.loop-byte.invariant)) c.push_end.ensures
