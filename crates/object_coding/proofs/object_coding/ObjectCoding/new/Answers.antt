use Rattle.std.proofs.Common.{sym, ◌∙◌}
use Rattle.object_coding.proofs.Lemmas.Fields.{mask_is}
use Rattle.object_coding.proofs.Lemmas.Faults.{tests_of, headers, lawful, unit_of_size_low}
use Rattle.object_coding.proofs.object_coding.ObjectCoding.new.Goals as goal

pub invariant_of-result : goal.invariant_of-result
invariant_of-result c =
    let layout = c.args.layout in
    let words = c.args.words in
    let tests = tests_of layout words (sym c.fault.ensures ∙ c.in_default.is) in
    let fit = headers layout words tests in
    record {
      few = c.requires;
      headers = fit;
      lawful = lawful layout words tests;
      unit_of_size_low = unit_of_size_low layout words tests;
      of_size = mask_is layout.size_bits fit.of_size.bits_low;
      of_type = mask_is layout.type_bits fit.of_type.bits_low;
      of_first = mask_is layout.first_bits fit.of_first.bits_low;
    }

pub returns-clause-lawful : goal.returns-clause-lawful
returns-clause-lawful c =
    lawful c.args.layout c.args.words (tests_of c.args.layout c.args.words (sym c.fault.ensures ∙ c.in_default.is))
