use Rattle.std.proofs.Common.{arith}
use Rattle.std.proofs.lemmas.Result.{err_from_is_err_and}
use Rattle.heap_image.proofs.Lemmas.WholeBytes.{front_fault_first, truncated_layout, layout_none}
use Rattle.heap_image.proofs.io.decoding.layout_fault.Goals as goal

pub returns-in_err-front-clause-first : goal.returns-in_err-front-clause-first
returns-in_err-front-clause-first c =
    let p = err_from_is_err_and c.from_residual.result c.from_residual.ensures.1 in
    rw (p.1, p.2) (record { ok = tt; fault = front_fault_first c.args.bytes.now c.if-bytes-lt-FRONT_BYTES.false c.in_err-front.field-0.0 c.in_err-front.ensures.fault.first })

pub returns-then-bytes-text_len-clause-first : goal.returns-then-bytes-text_len-clause-first
returns-then-bytes-text_len-clause-first c =
    let front = c.in_ok-front.front in
    let told = c.in_ok-front.ensures in
    let long = c.text_len.ensures in
    let short = c.if-bytes-text_len.true in
    record { ok = tt; fault = truncated_layout c.args.bytes.now front.version front.region_log front.count front.words front.allowance told.fits.sizes told.bytes c.if-bytes-lt-FRONT_BYTES.false (omega arith) }

pub returns-clause-first : goal.returns-clause-first
returns-clause-first c =
    let front = c.in_ok-front.front in
    let told = c.in_ok-front.ensures in
    let long = c.text_len.ensures in
    let enough = c.if-bytes-text_len.false in
    record { ok = layout_none c.args.bytes.now front.version front.region_log front.count front.words front.allowance told.fits.sizes told.bytes (omega arith); fault = tt }
