use Rattle.std.proofs.Common.{List, ℕ, Option}
use Rattle.std.proofs.lemmas.Result.{err_from_is_err_and}
use Rattle.std.specs.Io.KnownBytes.{Consumes}
use Rattle.object_heap.specs.HeapImage.{HeapImage, image_of}
use Rattle.image_streams.specs.declared.body.Body.{Body}
use Rattle.heap_image.specs.Front.{Fits, bytes_of}
use Rattle.heap_image.specs.ImageText.{listed_text}
use Rattle.heap_image.specs.Reading.{HasFittingNumbers, IsBodyOf}
use Rattle.heap_image.specs.declared.io.front.Front.{Front}
use Rattle.heap_image.proofs.Lemmas.Refusing.{fitting_parts, read_parts, body_leaves, body_reason, body_kind, memory_behind_front}
use Rattle.heap_image.proofs.io.read.read_parts.Goals as goal

-- the numbers of a front and the body behind it
abbrev numbers_behind : Front → Body → HeapImage
numbers_behind front body = image_of front.region_log front.allowance body.regions.items body.tail.items

behind_fits : (front : Front) (body : Body) (before after : Option (List ℕ)) → Fits front → IsBodyOf front before after body → HasFittingNumbers front.version (numbers_behind front body)
behind_fits front body before after fits is = fitting_parts front.version front.region_log front.allowance body.regions.items body.tail.items front.words front.count fits.sizes is.words is.tail fits.allowance is.fit is.tail_fit

behind_read : (front : Front) (body : Body) (before middle after : Option (List ℕ)) → Consumes before middle (bytes_of front) → IsBodyOf front middle after body → Consumes before after (listed_text front.version (numbers_behind front body))
behind_read front body before middle after bytes is = read_parts front.version front.region_log front.allowance body.regions.items body.tail.items front.words front.count is.words is.tail before middle after bytes is.bytes

pub returns-in_err-regions-clause-refused : goal.returns-in_err-regions-clause-refused
returns-in_err-regions-clause-refused g c =
    let p = err_from_is_err_and c.from_residual-in_err-regions.result c.from_residual-in_err-regions.ensures.1 in
    let front = c.in_ok-front.front in
    let fault = c.in_err-regions.field-0.0 in
    let before = g.R.Intake.left c.args.reader.now in
    let middle = g.R.Intake.left c.read_front.new.reader in
    let sizes = c.in_ok-front.ensures.fits.sizes in
    let bytes = c.in_ok-front.ensures.bytes in
    let why = c.in_err-regions.ensures.refused in
    rw (p.1, p.2) (record {
      kind = body_kind fault why.kind;
      reason = body_reason front.version fault front.region_log front.count front.words front.allowance sizes before middle bytes why.kind (λ e. (why.truncated e).1);
      left = body_leaves fault before middle (g.R.Intake.left c.read_body.new.reader) _ c.read_body.ensures.lost.0 bytes c.read_body.ensures.lost.1 why.kind (λ e. (why.truncated e).0);
      memory = λ e. memory_behind_front front.version front.region_log front.count front.words front.allowance sizes before middle bytes (why.memory e);
    })

pub returns-clause-text : goal.returns-clause-text
returns-clause-text g c =
    behind_read c.in_ok-front.front c.in_ok-regions.field-0 (g.R.Intake.left c.args.reader.now) (g.R.Intake.left c.read_front.new.reader) (g.R.Intake.left c.read_body.new.reader) c.in_ok-front.ensures.bytes c.in_ok-regions.ensures.body

pub returns-clause-fits : goal.returns-clause-fits
returns-clause-fits g c =
    behind_fits c.in_ok-front.front c.in_ok-regions.field-0 (g.R.Intake.left c.read_front.new.reader) (g.R.Intake.left c.read_body.new.reader) c.in_ok-front.ensures.fits c.in_ok-regions.ensures.body
