use Rattle.std.proofs.Common.{sym, ◌∙◌, inl, inr}
use Rattle.pcompact_c.proofs.Lemmas.Numbered.{is_numbered}
use Rattle.pcompact_c.proofs.verify.compare.Goals as goal

pub returns-in-Err-decode-clause-compared : goal.returns-in-Err-decode-clause-compared
returns-in-Err-decode-clause-compared c none = absurd (is_numbered c.in-Err-decode.fault (sym c.refused-in-Err-decode.ensures.fault.number ∙ none))

pub returns-in-Err-decode-clause-fault : goal.returns-in-Err-decode-clause-fault
returns-in-Err-decode-clause-fault c _ = (c.in-Err-decode.fault, c.refused-in-Err-decode.ensures.fault, inr (c.refused-in-Err-decode.ensures.image, c.in-Err-decode.ensures.fault))

pub returns-clause-fault : goal.returns-clause-fault
returns-clause-fault c _ = (c.in-Err-verify.fault, c.refused-in-Err-verify.ensures.fault, inl (c.refused-in-Err-verify.ensures.image, inl c.in-Err-verify.ensures.fault))
