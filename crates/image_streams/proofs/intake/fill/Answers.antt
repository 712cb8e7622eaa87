use Rattle.std.proofs.Common.{length, ◌-◌, ◌≡◌, ◌≤◌, take, false, sym, ◌∙◌, subst, arith}
use Rattle.std.specs.Io.KnownBytes.{Consumes}
use borrow.Rule.Slice.PartMut.{put_mid}
use Rattle.image_streams.proofs.Lemmas.Known.{consumes_more, refuted}
use Rattle.image_streams.proofs.Lemmas.Pieces.{take_put_back, length-put_mid, length_of_rest}
use Rattle.image_streams.proofs.intake.fill.Goals as goal

pub loop-filled-preserved : goal.loop-filled-preserved
loop-filled-preserved g c =
    let buffer = c.loop-filled.buffer in
    let filled = c.loop-filled.filled in
    let came = c.in_ok-came.came in
    let new = put_mid filled (length buffer - filled) buffer c.take.new.buffer in
    let room : length c.take.new.buffer ≡ length buffer - filled = length_of_rest buffer c.take.new.buffer filled c.take.auto.buffer in
    let long : length new ≡ length buffer = length-put_mid buffer c.take.new.buffer filled c.loop-filled.invariant.within room in
    let within : came ≤ length c.take.new.buffer = c.in_ok-came.ensures.within in
    let before : g.R.Intake.has_failed c.loop-filled.reader ≡ false = refuted (g.R.Intake.has_failed c.loop-filled.reader) c.in_ok-came.ensures.stays_failed in
    let start : g.R.Intake.has_failed c.args.reader.now ≡ false = sym c.loop-filled.invariant.failed ∙ before in
    record {
      within = omega arith;
      bytes = subst (λ bytes. Consumes (g.R.Intake.left c.args.reader.now) (g.R.Intake.left c.take.new.self) bytes) (sym (take_put_back buffer c.take.new.buffer filled (length buffer - filled) came c.loop-filled.invariant.within within)) (consumes_more (g.R.Intake.left c.args.reader.now) (g.R.Intake.left c.loop-filled.reader) (g.R.Intake.left c.take.new.self) (take filled buffer) (take came c.take.new.buffer) c.loop-filled.invariant.bytes c.in_ok-came.ensures.bytes.0);
      failed = c.in_ok-came.ensures.failed ∙ sym start;
      fresh = λ _. start;
    }
