use Rattle.std.proofs.Common.{codes, subst, sym, map}
use Rattle.std.specs.Prelude.{string_bytes}
use Rattle.command_line.specs.CommandLine.{IsCallOf}
use Rattle.command_line.specs.Request.{asks_steps, rows_of}
use Rattle.pcompact.proofs.program.run_respelled.Goals as goal

pub returns-in-Ok-clause-prints : goal.returns-in-Ok-clause-prints
returns-in-Ok-clause-prints g c = λ name call good.
    let called = subst (λ items. IsCallOf name (map string_bytes items)) (sym c.as_slice-words.ensures.value) call in
    let asked = c.as_asked-request.ensures.name name (c.with_color.ensures name (c.in-Ok.ensures.calls name called)) in
    let printed = c.carry_out.ensures.prints name asked good in
    (printed.0, printed.1, c.of.result.json, c.of.ensures.json, printed.2)

pub returns-in-Ok-clause-import : goal.returns-in-Ok-clause-import
returns-in-Ok-clause-import g c = λ call good.
    let name = codes "import" in
    let called = subst (λ items. IsCallOf name (map string_bytes items)) (sym c.as_slice-words.ensures.value) call in
    let asked = c.as_asked-request.ensures.name name (c.with_color.ensures name (c.in-Ok.ensures.calls name called)) in
    let printed = c.carry_out.ensures.import asked good in
    (printed.0, rows_of c.as_asked-request.result, printed.1, c.as_asked-request.ensures.histogram, c.of.result.json, c.of.ensures.json, printed.2)

pub returns-in-Ok-clause-report : goal.returns-in-Ok-clause-report
returns-in-Ok-clause-report g c = λ call good.
    let name = codes "board" in
    let called = subst (λ items. IsCallOf name (map string_bytes items)) (sym c.as_slice-words.ensures.value) call in
    let asked = c.as_asked-request.ensures.name name (c.with_color.ensures name (c.in-Ok.ensures.calls name called)) in
    let printed = c.carry_out.ensures.report asked good in
    (printed.0, asks_steps c.as_asked-request.result, printed.1, c.as_asked-request.ensures.steps, c.of.result.json, c.of.ensures.json, printed.2)
