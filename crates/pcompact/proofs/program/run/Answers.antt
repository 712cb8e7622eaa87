use Rattle.std.proofs.Common.{◌≡◌, None, Some, codes, subst, sym}
use Rattle.std.proofs.Math.Logic.{⊎_elim}
use Rattle.command_line.specs.CommandLine.{HaveBeginning, HaveWord, IsCallOf}
use Rattle.command_line.specs.Request.{asks_steps, rows_of}
use Rattle.pcompact.proofs.program.run.Goals as goal

some_none : {A : Type 0} {x : A} → Some x ≡ None → ⊥
some_none h = cc

-- a line that is refused isn't a request
pub returns-in-Ok-clause-prints : goal.returns-in-Ok-clause-prints
returns-in-Ok-clause-prints g c = λ name line good. ⊎_elim
    (λ call.
    let asked = c.as_asked-request.ensures.name name (c.in-Ok.ensures.calls name call) in
    let printed = c.carry_out.ensures.prints name asked good in
    (printed.0, printed.1, c.of-manner.result.json, c.of-manner.ensures.json, printed.2))
    (λ plain. absurd (c.in-Ok.ensures.refused plain.0))
    line

pub returns-in-Ok-clause-import : goal.returns-in-Ok-clause-import
returns-in-Ok-clause-import g c = λ line good. ⊎_elim
    (λ call.
    let name = codes "import" in
    let asked = c.as_asked-request.ensures.name name (c.in-Ok.ensures.calls name call) in
    let printed = c.carry_out.ensures.import asked good in
    (printed.0, rows_of c.as_asked-request.result, printed.1, c.as_asked-request.ensures.histogram, c.of-manner.result.json, c.of-manner.ensures.json, printed.2))
    (λ plain. absurd (c.in-Ok.ensures.refused plain.0))
    line

-- a call of a command isn't wrong usage, and only that is spelled anew
pub returns-in-Some-clause-prints : goal.returns-in-Some-clause-prints
returns-in-Some-clause-prints g c = λ name line good. ⊎_elim
    (λ call. absurd (some_none (c.in-Some.ensures.usage_alone (c.in-Err.ensures.calls name call))))
    (λ plain.
    let called = subst (IsCallOf name) (sym c.in-Some.ensures.plain) plain.1 in
    let printed = c.run_respelled.ensures.prints name called good in
    (printed.0, printed.1, printed.2, (λ json. subst (HaveWord (codes "--json")) c.in-Some.ensures.words (printed.3 json)), printed.4))
    line

pub returns-in-Some-clause-import : goal.returns-in-Some-clause-import
returns-in-Some-clause-import g c = λ line good. ⊎_elim
    (λ call. absurd (some_none (c.in-Some.ensures.usage_alone (c.in-Err.ensures.calls (codes "import") call))))
    (λ plain.
    let called = subst (IsCallOf (codes "import")) (sym c.in-Some.ensures.plain) plain.1 in
    let printed = c.run_respelled.ensures.import called good in (
      printed.0,
      printed.1,
      printed.2,
      λ rows. subst (HaveBeginning (codes "--histogram")) c.in-Some.ensures.words (printed.3 rows),
      printed.4,
      λ json. subst (HaveWord (codes "--json")) c.in-Some.ensures.words (printed.5 json),
      printed.6,
    ))
    line

pub returns-in-Ok-clause-report : goal.returns-in-Ok-clause-report
returns-in-Ok-clause-report g c = λ line good. ⊎_elim
    (λ call.
    let name = codes "board" in
    let asked = c.as_asked-request.ensures.name name (c.in-Ok.ensures.calls name call) in
    let printed = c.carry_out.ensures.report asked good in
    (printed.0, asks_steps c.as_asked-request.result, printed.1, c.as_asked-request.ensures.steps, c.of-manner.result.json, c.of-manner.ensures.json, printed.2))
    (λ plain. absurd (c.in-Ok.ensures.refused plain.0))
    line

pub returns-in-Some-clause-report : goal.returns-in-Some-clause-report
returns-in-Some-clause-report g c = λ line good. ⊎_elim
    (λ call. absurd (some_none (c.in-Some.ensures.usage_alone (c.in-Err.ensures.calls (codes "board") call))))
    (λ plain.
    let called = subst (IsCallOf (codes "board")) (sym c.in-Some.ensures.plain) plain.1 in
    let printed = c.run_respelled.ensures.report called good in (
      printed.0,
      printed.1,
      printed.2,
      λ steps. subst (HaveBeginning (codes "--steps")) c.in-Some.ensures.words (printed.3 steps),
      printed.4,
      λ json. subst (HaveWord (codes "--json")) c.in-Some.ensures.words (printed.5 json),
      printed.6,
    ))
    line

pub returns-in-Ok-clause-board_is_known : goal.returns-in-Ok-clause-board_is_known
returns-in-Ok-clause-board_is_known g c = λ is_board.
    c.carry_out.ensures.board_is_known (c.as_asked-request.ensures.name (codes "board") (c.in-Ok.ensures.board is_board))
