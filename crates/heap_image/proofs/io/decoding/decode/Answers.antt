use Rattle.std.proofs.Common.{Some}
use Rattle.std.proofs.lemmas.Result.{err_from_is_err_and}
use Rattle.heap_image.proofs.Lemmas.WholeBytes.{decoded_by_layout, decoded_by_reading}
use Rattle.heap_image.proofs.io.decoding.decode.Goals as goal

pub returns-in_err-layout_fault : goal.returns-in_err-layout_fault
returns-in_err-layout_fault g c =
    let p = err_from_is_err_and c.from_residual.result c.from_residual.ensures.1 in
    rw (p.1, p.2) (decoded_by_layout c.args.bytes.now c.in_err-layout_fault.field-0.0 c.in_err-layout_fault.ensures.first.fault c.in_err-layout_fault.ensures.memory)

pub returns : goal.returns
returns g c = decoded_by_reading c.args.bytes.now c.read_image.result (Some c.read_image.new.reader.0.now) c.read_image.ensures.read c.read_image.ensures.refused c.read_image.ensures.io c.in_ok-layout_fault.ensures.first.ok
