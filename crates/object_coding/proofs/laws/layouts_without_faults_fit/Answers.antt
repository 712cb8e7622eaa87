use Rattle.object_coding.proofs.Lemmas.Faults.{tests_of, faultless_by, headers, lawful, tested}
use Rattle.object_coding.proofs.laws.layouts_without_faults_fit.Goals as goal

pub returns : goal.returns
returns c = record {
  headers = λ layout words none. headers layout words (tests_of layout words none);
  lawful = λ layout words none. lawful layout words (tests_of layout words none);
  faultless = λ layout words fits coding. faultless_by layout words (tested layout words fits coding);
}
