use Rattle.std.proofs.Common.{Some}
use Rattle.std.proofs.lemmas.Result.{IfErr-weaker}
use Rattle.heap_image.specs.Refusals.{IsReason, IsRefusal}
use Rattle.heap_text.specs.ImageBytes.{bytes_left}
use Rattle.heap_text.proofs.Lemmas.ImageSteps.{fault_only, image_only}
use Rattle.heap_text.proofs.assembling.decode_heap.Goals as goal

pub returns-in-Ok-clause-accepts : goal.returns-in-Ok-clause-accepts
returns-in-Ok-clause-accepts c image valid gives =
    image_only c.in-Ok.image image c.read_image.result c.in-Ok.is
    (c.text_is_read_back.ensures (bytes_left c.args.bytes) c.read_image.result (Some (bytes_left c.read_image.new.reader)) c.read_image.ensures.read
    (IfErr-weaker c.read_image.result (IsRefusal (Some (bytes_left c.args.bytes)) (Some (bytes_left c.read_image.new.reader))) (IsReason (bytes_left c.args.bytes)) (λ _ refused. refused.reason) c.read_image.ensures.refused) c.read_image.ensures.io image valid gives)

pub returns-clause-accepts : goal.returns-clause-accepts
returns-clause-accepts c image valid gives =
    fault_only image c.in-Err.fault c.read_image.result c.error_of_fault.result c.in-Err.is c.error_of_fault.ensures.memory
    (c.text_is_read_back.ensures (bytes_left c.args.bytes) c.read_image.result (Some (bytes_left c.read_image.new.reader)) c.read_image.ensures.read
    (IfErr-weaker c.read_image.result (IsRefusal (Some (bytes_left c.args.bytes)) (Some (bytes_left c.read_image.new.reader))) (IsReason (bytes_left c.args.bytes)) (λ _ refused. refused.reason) c.read_image.ensures.refused) c.read_image.ensures.io image valid gives)
