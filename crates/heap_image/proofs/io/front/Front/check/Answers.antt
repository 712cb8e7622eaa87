use Rattle.std.proofs.Common.{sym, ◌∙◌, arith}
use Rattle.heap_image.proofs.Lemmas.FrontFaults.{region_log_fault, length_fault}
use Rattle.heap_image.proofs.io.front.Front.check.Goals as goal

pub returns-then-has_forbidden_regions-clause-fault : goal.returns-then-has_forbidden_regions-clause-fault
returns-then-has_forbidden_regions-clause-fault c =
    let f = c.args.self in
    region_log_fault f.version f.region_log f.count f.words f.allowance (omega arith) (omega arith) (omega arith) (sym c.has_forbidden_regions.ensures.forbidden ∙ c.if-has_forbidden_regions.true)

pub returns-in-Some-clause-fault : goal.returns-in-Some-clause-fault
returns-in-Some-clause-fault c =
    let f = c.args.self in
    length_fault f.version f.region_log f.count f.words f.allowance (omega arith) (omega arith) (omega arith) (sym c.has_forbidden_regions.ensures.forbidden ∙ c.if-has_forbidden_regions.false) c.in-Some.field-0 (sym c.length_cause.ensures.first ∙ c.in-Some.is)

pub returns-in-None-clause-fits : goal.returns-in-None-clause-fits
returns-in-None-clause-fits c = record {
  sizes = record { limits = c.in-None.ensures.limits; allowed = c.in-None.ensures.allowed; counted = omega arith };
  allowance = omega arith;
}
