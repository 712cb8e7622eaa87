use Rattle.std.proofs.Common.{◌≡◌, ◌<◌, ◌^◌, ◌-◌, ◌+◌, ◌++◌, take, [], length, arith, ap, sym, subst, ◌∙◌, length-take}
use Rattle.std.proofs.lemmas.List.{append-nil}
use Rattle.std.proofs.lemmas.List.Elements.{All-from_get_or}
use Rattle.std.proofs.lemmas.List.Concat.{flat_map-append}
use Rattle.std.specs.Int.{w64, to_le_bytes}
use Rattle.std.proofs.lemmas.Result.{err_from_is_err_and}
use Rattle.std.specs.Io.KnownBytes.{Consumes}
use borrow.Rule.Slice.PartMut.{put_mid}
use Rattle.image_streams.specs.Incoming.{expected, known_rest, unread_bytes}
use Rattle.image_streams.specs.Numbers.{numbers}
use Rattle.image_streams.proofs.Lemmas.Known.{consumes_more, consumes_held}
use Rattle.image_streams.proofs.Lemmas.Pieces.{take_put_back, length-put_mid, length_of_rest}
use Rattle.image_streams.specs.Reading.{IsOfDevice}
use Rattle.image_streams.proofs.Lemmas.Drawing.{draws_after, drawn_more}
use Rattle.image_streams.proofs.numbers.incoming.Incoming.read.Goals as goal

pub returns-in_err-top_up-clause-device : goal.returns-in_err-top_up-clause-device
returns-in_err-top_up-clause-device g c =
    let p = err_from_is_err_and c.from_residual.result c.from_residual.ensures.1 in
    let so_far = c.loop-done.invariant in
    let within = so_far.within in
    let long = length-take c.loop-done.done c.loop-done.words in
    let read = so_far.expected in
    let fewer : expected c.loop-done.self + length (take c.loop-done.done c.loop-done.words) ≡ expected c.args.self.now = omega arith in
    rw (p.1, p.2) (draws_after IsOfDevice IsOfDevice g.R.Intake.left g.R.Intake.has_failed c.args.self.now c.loop-done.self c.args.reader.now c.loop-done.reader c.top_up.new.reader (take c.loop-done.done c.loop-done.words) c.in_err-top_up.field-0.0 so_far.bytes fewer so_far.lost so_far.failed (λ is. is) c.in_err-top_up.ensures.device)

pub loop-done-preserved : goal.loop-done-preserved
loop-done-preserved g c =
    let words = c.loop-done.words in
    let done = c.loop-done.done in
    let n = c.decode-done.result in
    let new = put_mid done (length words - done) words c.decode-done.new.words in
    let room : length c.decode-done.new.words ≡ length words - done = length_of_rest words c.decode-done.new.words done c.decode-done.auto.words in
    let long : length new ≡ length words = length-put_mid words c.decode-done.new.words done c.loop-done.invariant.within room in
    let least = c.decode-done.ensures.within in
    let so_far = c.loop-done.invariant.expected in
    let same = c.in_ok-top_up.ensures.ready.none.fewer in
    let fewer = c.decode-done.ensures.fewer in
    let before = known_rest c.args.self.now (g.R.Intake.left c.args.reader.now) in
    let read = numbers (take done words) in
    let topped = consumes_more before (known_rest c.loop-done.self (g.R.Intake.left c.loop-done.reader)) (known_rest c.top_up.new.self (g.R.Intake.left c.top_up.new.reader)) read [] c.loop-done.invariant.bytes c.in_ok-top_up.ensures.ready.none.bytes in
    let decoded = consumes_held before (g.R.Intake.left c.top_up.new.reader) (read ++ []) (unread_bytes c.top_up.new.self) (numbers (take n c.decode-done.new.words)) (unread_bytes c.decode-done.new.self) c.decode-done.ensures.bytes topped in
    let grown : (read ++ []) ++ numbers (take n c.decode-done.new.words) ≡ numbers (take (done + n) new) = ap (λ xs. xs ++ numbers (take n c.decode-done.new.words)) (append-nil read) ∙ sym (flat_map-append (to_le_bytes w64) (take done words) (take n c.decode-done.new.words)) ∙ ap numbers (sym (take_put_back words c.decode-done.new.words done (length words - done) n c.loop-done.invariant.within least)) in
    record {
      within = omega arith;
      in_range = c.decode-done.ensures.in_range;
      fit = All-from_get_or (λ w. w < 2 ^ 64) new 0 (λ i _. omega (arith, c.type_inv.words i));
      expected = omega arith;
      bytes = subst (λ bytes. Consumes before (known_rest c.decode-done.new.self (g.R.Intake.left c.top_up.new.reader)) bytes) grown decoded;
      lost = drawn_more (g.R.Intake.left c.args.reader.now) (g.R.Intake.left c.loop-done.reader) (g.R.Intake.left c.top_up.new.reader) c.loop-done.invariant.lost c.in_ok-top_up.ensures.device.lost;
      failed = c.in_ok-top_up.ensures.device.failed ∙ c.loop-done.invariant.failed;
    }
