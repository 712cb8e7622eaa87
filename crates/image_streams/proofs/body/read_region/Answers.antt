use Rattle.std.proofs.Common.{◌≡◌, ◌+◌, ◌*◌, ◌++◌, [], length, ap, sym, ◌∙◌, arith}
use Rattle.std.proofs.lemmas.Result.{err_from_is_err_and}
use Rattle.std.specs.Prelude.{slice_range}
use Rattle.image_streams.specs.Body.{IsOfBody}
use Rattle.image_streams.specs.Incoming.{known_rest, unread_bytes}
use Rattle.image_streams.specs.Numbers.{numbers}
use Rattle.image_streams.specs.Reading.{IsOfDevice}
use Rattle.image_streams.proofs.Lemmas.Counts.{length-numbers}
use Rattle.image_streams.proofs.Lemmas.Drawing.{draws_after, draws_or_memory, drawn_more, of_body}
use Rattle.image_streams.proofs.Lemmas.Known.{consumes_held}
use Rattle.image_streams.proofs.Lemmas.Reading.{slice_split}
use Rattle.image_streams.proofs.body.read_region.Goals as goal

pub returns-in_err-read-clause-device : goal.returns-in_err-read-clause-device
returns-in_err-read-clause-device g c =
    let p = err_from_is_err_and c.from_residual-in_err-read.result c.from_residual-in_err-read.ensures.1 in
    let topped = c.in_ok-top_up.ensures in
    rw (p.1, p.2) (draws_after IsOfDevice IsOfBody g.R.Intake.left g.R.Intake.has_failed c.args.incoming.now c.top_up.new.self c.args.reader.now c.top_up.new.reader c.read.new.reader [] c.in_err-read.field-0.0 topped.ready.none.bytes topped.ready.none.fewer topped.device.lost topped.device.failed (of_body c.in_err-read.field-0.0) c.in_err-read.ensures.device)

pub returns-then-not-holds-clause-device : goal.returns-then-not-holds-clause-device
returns-then-not-holds-clause-device g c =
    let left = g.R.Intake.left in
    let one = c.in_ok-top_up.ensures.device in
    let two = c.in_ok-read.ensures.device in
    draws_or_memory left g.R.Intake.has_failed c.args.incoming.now c.args.reader.now c.read.new.reader c.region.result c.region.ensures.fault (drawn_more (left c.args.reader.now) (left c.top_up.new.reader) (left c.read.new.reader) one.lost two.lost) (two.failed ∙ one.failed)

pub returns-clause-words : goal.returns-clause-words
returns-clause-words g c =
    let count = length c.args.words.now in
    let top = c.top_up.new.self in
    let next = c.skip.new.self in
    let region = c.in_ok-region.region in
    let skip = c.skip.ensures in
    let start = skip.start in
    let end = skip.end in
    let due = skip.due in
    let held = c.if-not-holds.false in
    let none = c.in_ok-top_up.ensures.ready.none in
    let range = none.in_range in
    let fewer = none.fewer in
    let taken : numbers region ≡ slice_range top.bytes.now (8 * top.start) (8 * (top.start + count)) = c.in_ok-region.ensures.words ∙ c.next_bytes.ensures.bytes in
    let kept : slice_range top.bytes.now (8 * (top.start + count)) (8 * top.end) ≡ unread_bytes next =
    ap (λ s. slice_range top.bytes.now (8 * s) (8 * top.end)) (sym start)
    ∙ ap (λ e. slice_range top.bytes.now (8 * next.start) (8 * e)) (sym end)
    ∙ ap (λ b. slice_range b (8 * next.start) (8 * next.end)) (sym skip.bytes) in
    let split = slice_split top.bytes.now (8 * top.start) (8 * (top.start + count)) (8 * top.end) (omega arith) (omega arith)
    ∙ ap (λ p. p ++ slice_range top.bytes.now (8 * (top.start + count)) (8 * top.end)) (sym taken)
    ∙ ap (λ q. numbers region ++ q) kept in
    let long = length-numbers region in
    let same = ap length c.in_ok-region.ensures.words in
    let bytes = c.next_bytes.ensures.length in
    let room = ap length skip.bytes in
    record {
      in_range = record { some = let some = range.some in omega arith; ordered = omega arith; within = let within = range.within in omega arith };
      fewer = omega arith;
      bytes = consumes_held (known_rest c.args.incoming.now (g.R.Intake.left c.args.reader.now)) (g.R.Intake.left c.top_up.new.reader) [] (unread_bytes top) (numbers region) (unread_bytes next) split none.bytes;
    }

pub returns-clause-length : goal.returns-clause-length
returns-clause-length g c =
    let long = length-numbers c.in_ok-region.region in
    let same = ap length c.in_ok-region.ensures.words in
    let bytes = c.next_bytes.ensures.length in
    omega arith
