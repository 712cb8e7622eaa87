use Rattle.std.proofs.Common.{rules, ◌≡◌, length, take, subst, arith}
use Rattle.std.proofs.lemmas.List.{take_all}
use Rattle.std.proofs.lemmas.Result.{err_from_is_err_and}
use Rattle.std.specs.Io.KnownBytes.{Consumes}
use Rattle.heap_image.proofs.Lemmas.Refusing.{front_refused, some_rest}
use Rattle.heap_image.proofs.io.read.read_front.Goals as goal

pub returns-in_err-fill-clause-refused : goal.returns-in_err-fill-clause-refused
returns-in_err-fill-clause-refused g c =
    let p = err_from_is_err_and c.from_residual.result c.from_residual.ensures.1 in
    rw (p.1, p.2) (record {
      kind = search rules;
      reason = search rules;
      left = some_rest (g.R.Intake.left c.args.reader.now) (g.R.Intake.left c.fill.new.reader) c.fill.ensures.lost.0 c.fill.ensures.lost.1;
      memory = search rules;
    })

pub returns-clause-refused : goal.returns-clause-refused
returns-clause-refused g c =
    let bytes = c.fill.new.buffer in
    let before = g.R.Intake.left c.args.reader.now in
    let after = g.R.Intake.left c.fill.new.reader in
    let all : take c.in_ok-fill.field-0 bytes ≡ bytes = take_all c.in_ok-fill.field-0 bytes (let long : length bytes ≡ 32 = c.fill.auto.buffer in let enough = c.if-branch-lt-FRONT_BYTES.false in omega arith) in
    front_refused bytes c.fill.auto.buffer before after (subst (λ bytes. Consumes before after bytes) all c.in_ok-fill.ensures.bytes) c.parse.result c.parse.ensures.fault
