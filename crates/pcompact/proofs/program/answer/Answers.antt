use Rattle.std.proofs.Common.{◌≡◌, ◌++◌, ◌∙◌, ap, ap₂, sym, ℕ, List, true, false}
use Rattle.std.proofs.lemmas.Bool.{not-false, not-true}
use Rattle.std.proofs.lemmas.Result.{IfOk-weaker}
use Rattle.command_support.specs.Json.{as_shown, json_of}
use Rattle.pcompact.proofs.program.answer.Goals as goal

pub returns-then-not-manner-clause-prints : goal.returns-then-not-manner-clause-prints
returns-then-not-manner-clause-prints g c = λ name call.
    let plain : c.args.manner.json ≡ false = not-true c.args.manner.json c.if-not-manner.true in
    IfOk-weaker c.answer.result _ _
    (λ done is. (done.text.items, is, ap (λ json. as_shown json done.text.items) (sym plain)))
    (c.answer.ensures.prints name call)

pub returns-in-Ok-clause-prints : goal.returns-in-Ok-clause-prints
returns-in-Ok-clause-prints g c = λ name call.
    let asked : c.args.manner.json ≡ true = not-false c.args.manner.json c.if-not-manner.false in
    let text : List ℕ = c.in_ok-done.done.text.items in
    let object : c.push_json.new.json.items ≡ json_of text =
    c.in-Ok.ensures ∙ ap₂ (λ (begun shown : List ℕ). begun ++ json_of shown) c.take_room-object.ensures.empty (c.as_slice.ensures.value ∙ ap (λ t. t.items) c.take_room-object.ensures.text) in
    (text, c.in_ok-done.ensures.prints name call, object ∙ ap (λ json. as_shown json text) (sym asked))

pub returns-then-not-manner-clause-import : goal.returns-then-not-manner-clause-import
returns-then-not-manner-clause-import g c = λ call.
    let plain : c.args.manner.json ≡ false = not-true c.args.manner.json c.if-not-manner.true in
    IfOk-weaker c.answer.result _ _
    (λ done is. (done.text.items, is, ap (λ json. as_shown json done.text.items) (sym plain)))
    (c.answer.ensures.import call)

pub returns-in-Ok-clause-import : goal.returns-in-Ok-clause-import
returns-in-Ok-clause-import g c = λ call.
    let asked : c.args.manner.json ≡ true = not-false c.args.manner.json c.if-not-manner.false in
    let text : List ℕ = c.in_ok-done.done.text.items in
    let object : c.push_json.new.json.items ≡ json_of text =
    c.in-Ok.ensures ∙ ap₂ (λ (begun shown : List ℕ). begun ++ json_of shown) c.take_room-object.ensures.empty (c.as_slice.ensures.value ∙ ap (λ t. t.items) c.take_room-object.ensures.text) in
    (text, c.in_ok-done.ensures.import call, object ∙ ap (λ json. as_shown json text) (sym asked))

pub returns-then-not-manner-clause-report : goal.returns-then-not-manner-clause-report
returns-then-not-manner-clause-report g c = λ call.
    let plain : c.args.manner.json ≡ false = not-true c.args.manner.json c.if-not-manner.true in
    IfOk-weaker c.answer.result _ _
    (λ done is. (done.text.items, is, ap (λ json. as_shown json done.text.items) (sym plain)))
    (c.answer.ensures.report call)

pub returns-in-Ok-clause-report : goal.returns-in-Ok-clause-report
returns-in-Ok-clause-report g c = λ call.
    let asked : c.args.manner.json ≡ true = not-false c.args.manner.json c.if-not-manner.false in
    let text : List ℕ = c.in_ok-done.done.text.items in
    let object : c.push_json.new.json.items ≡ json_of text =
    c.in-Ok.ensures ∙ ap₂ (λ (begun shown : List ℕ). begun ++ json_of shown) c.take_room-object.ensures.empty (c.as_slice.ensures.value ∙ ap (λ t. t.items) c.take_room-object.ensures.text) in
    (text, c.in_ok-done.ensures.report call, object ∙ ap (λ json. as_shown json text) (sym asked))
