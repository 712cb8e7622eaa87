use Rattle.std.proofs.Common.{◌≡◌, ◌∙◌, ap, codes, [], refl, subst, sym, map, MatchResult}
use Rattle.std.specs.Prelude.{Result, Ok, Err, string_bytes}
use Rattle.clap.specs.Words.{HasKind, app_of, fault_of, is_simple_and_free, takes}
use Rattle.command_line.specs.CommandLine.{commands}
use Rattle.command_line.specs.Request.{IsFor, IsNoUsage}
use Rattle.command_line.specs.declared.request.Request.{Request}
use Rattle.command_line.specs.declared.unread.Unread.{Unread}
use Rattle.command_line.specs.declared.unread.Unread.TheVariants.{Memory}
use Rattle.command_line.proofs.Lemmas.Calls.{calls_board, commands_are_free, met_by_call, mistake}
use Rattle.command_line.proofs.reading.read.Goals as goal

pub returns-in-Ok-clause-calls : goal.returns-in-Ok-clause-calls
returns-in-Ok-clause-calls c = λ name call. c.parse_request.ensures.calls name
    (met_by_call (app_of c.in_ok-words.field-0) (map string_bytes c.args.words.now) name c.in-Ok.matches
    c.in_ok-words.ensures c.in-Ok.ensures.matches call)

-- what never fails fails as it may
never_fails : (r : Result Request Unread) → MatchResult r (IsFor (codes "board")) (λ _. ⊥)
    → MatchResult r (IsFor (codes "board")) (λ unread. unread ≡ Memory)
never_fails (Ok request) is_board = is_board
never_fails (Err unread) none = absurd none

pub returns-in-Ok-clause-board : goal.returns-in-Ok-clause-board
returns-in-Ok-clause-board c = λ words_are.
    never_fails _ (c.parse_request.ensures.board
    (met_by_call (app_of c.in_ok-words.field-0) (map string_bytes c.args.words.now) (codes "board") c.in-Ok.matches
    c.in_ok-words.ensures c.in-Ok.ensures.matches (calls_board (map string_bytes c.args.words.now) words_are)))

pub returns-in-Err-clause-calls : goal.returns-in-Err-clause-calls
returns-in-Err-clause-calls c = λ name call.
    subst (λ (r : Result Request Unread). MatchResult r (IsFor name) IsNoUsage)
    (sym (c.interpret_error.ensures.memory (c.in-Err.ensures.passes (ap (λ a. takes a (map string_bytes c.args.words.now)) c.in_ok-words.ensures ∙ call.0)))) tt

pub returns-in-Err-clause-board : goal.returns-in-Err-clause-board
returns-in-Err-clause-board c = λ words_are.
    subst (λ (r : Result Request Unread). MatchResult r (IsFor (codes "board")) (λ unread. unread ≡ Memory))
    (sym (c.interpret_error.ensures.memory (c.in-Err.ensures.passes (ap (λ a. takes a (map string_bytes c.args.words.now)) c.in_ok-words.ensures
    ∙ (calls_board (map string_bytes c.args.words.now) words_are).0)))) refl

pub returns-in-Ok-clause-refused : goal.returns-in-Ok-clause-refused
returns-in-Ok-clause-refused c = λ refused.
    let a = app_of c.in_ok-words.field-0 in
    let line = map string_bytes c.args.words.now in
    let none : fault_of a line ≡ [] = c.in-Ok.ensures.kinds (ap is_simple_and_free c.in_ok-words.ensures ∙ commands_are_free) in
    absurd (refused.0 (sym (ap (λ app. fault_of app line) c.in_ok-words.ensures) ∙ none))

pub returns-in-Err-clause-refused : goal.returns-in-Err-clause-refused
returns-in-Err-clause-refused c = λ refused.
    let line = map string_bytes c.args.words.now in
    let error = c.in-Err.error in
    let among : HasKind (fault_of commands line) error = subst (λ app. HasKind (fault_of app line) error) c.in_ok-words.ensures
    (c.in-Err.ensures.kinds (ap is_simple_and_free c.in_ok-words.ensures ∙ commands_are_free)) in
    let is_mistake = mistake line error refused among in
    c.interpret_error.ensures.refused is_mistake.0 is_mistake.1
