use Rattle.std.proofs.Common.{◌∙◌}
use Rattle.std.proofs.lemmas.Result.{err_from_is_err_and}
use Rattle.std.specs.List.{concat}
use Rattle.image_streams.specs.Body.{IsOfBody}
use Rattle.image_streams.specs.Reading.{IsOfDevice}
use Rattle.image_streams.proofs.Lemmas.Drawing.{draws_after, draws_as, draws_no_memory, draws_well, drawn_more, of_body}
use Rattle.image_streams.proofs.body.Body.read.Goals as goal

pub returns-in_err-regions-clause-device : goal.returns-in_err-regions-clause-device
returns-in_err-regions-clause-device g c =
    let p = err_from_is_err_and c.from_residual.result c.from_residual.ensures.1 in
    rw (p.1, p.2) (draws_as IsOfBody g.R.Intake.left g.R.Intake.has_failed c.args.incoming.now c.args.reader.now c.read_regions.new.reader c.in_err-regions.field-0.0 c.in_err-regions.ensures.device)

pub returns-in_err-tail-clause-device : goal.returns-in_err-tail-clause-device
returns-in_err-tail-clause-device g c =
    let p = err_from_is_err_and c.from_residual-in_err-tail.result c.from_residual-in_err-tail.ensures.1 in
    let read = c.in_ok-regions.ensures.device in
    rw p.1 (draws_no_memory g.R.Intake.left g.R.Intake.has_failed c.args.incoming.now c.args.reader.now c.read_regions.new.reader p.0 p.2 read.lost read.failed)

pub returns-in_err-read-clause-device : goal.returns-in_err-read-clause-device
returns-in_err-read-clause-device g c =
    let p = err_from_is_err_and c.from_residual-in_err-read.result c.from_residual-in_err-read.ensures.1 in
    let read = c.in_ok-regions.ensures in
    rw (p.1, p.2) (draws_after IsOfDevice IsOfBody g.R.Intake.left g.R.Intake.has_failed c.args.incoming.now c.read_regions.new.incoming c.args.reader.now c.read_regions.new.reader c.read.new.reader (concat c.in_ok-regions.regions.items) c.in_err-read.field-0.0 read.words.bytes read.words.fewer read.device.lost read.device.failed (of_body c.in_err-read.field-0.0) c.in_err-read.ensures.device)

pub returns-clause-device : goal.returns-clause-device
returns-clause-device g c =
    let left = g.R.Intake.left in
    let one = c.in_ok-regions.ensures.device in
    let two = c.in_ok-read.ensures.device in
    draws_well IsOfBody left g.R.Intake.has_failed c.args.incoming.now c.args.reader.now c.read.new.reader _ (drawn_more (left c.args.reader.now) (left c.read_regions.new.reader) (left c.read.new.reader) one.lost two.lost) (two.failed ∙ one.failed)
