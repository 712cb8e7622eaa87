use Rattle.std.proofs.Common.{◌≡◌, ◌∷◌, [], ◌++◌, refl, sym, ap, ◌∙◌, inr, rules}
use Rattle.scheduler.specs.declared.schedule.line.Line.{Line}
use Rattle.history.proofs.Lemmas.SmallLines.{text_line_small}
use Rattle.history.proofs.Lemmas.ScheduleTexts.{read_more, not_empty}
use Rattle.history.proofs.schedule.schedule_reading.read_schedule.Goals as goal
use Rattle.std.proofs.Common.{◌+◌}

pub returns-in_default-line-clause-fault : goal.returns-in_default-line-clause-fault
returns-in_default-line-clause-fault c =
    inr (
      c.len.result + 2,
      refl,
      inr (record {
        workers = c.in-Some.workers;
        lines = c.loop-rest.lines.items;
        rest = c.loop-rest.rest.now;
        before = c.loop-rest.invariant.kept;
        is = c.loop-rest.invariant.is;
        some = not_empty c.loop-rest.rest.now (sym c.is_empty.ensures ∙ c.loop-rest-test.true);
        number = Prim.search rules;
        none = c.in_default-line.ensures;
      }),
    )

pub loop-rest-preserved : goal.loop-rest-preserved
loop-rest-preserved c =
    let more : c.push.new.self.items ≡ c.loop-rest.lines.items ++ c.in-Some-line.next ∷ [] = c.in_ok-push.ensures.items ∙ ap (λ (l : Line). c.loop-rest.lines.items ++ l ∷ []) c.of.ensures in
    let all = read_more c.args.bytes.now c.in-Some.workers c.loop-rest.lines.items c.push.new.self.items c.in-Some-line.next c.loop-rest.rest.now c.in-Some-line.behind.now more c.loop-rest.invariant.kept c.loop-rest.invariant.is c.in-Some-line.ensures.0 c.in-Some-line.ensures.1 in
    record { kept = all.kept; is = all.is }

pub of-requires : goal.of-requires
of-requires c = text_line_small c.calls_are_lines.ensures.small c.in-Some.workers c.in-Some-line.next c.loop-rest.invariant.kept.few c.in-Some-line.ensures.0
