use Rattle.std.proofs.Common.{[], subst}
use Rattle.heap_text.specs.Parsing.{ExpectsAt}
use Rattle.heap_text.specs.declared.line_parser.next_line.NextLine.{NextLine}
use Rattle.heap_text.proofs.Lemmas.ParseSteps.{at_version_more, at_region_log_more, at_words_more, at_allowance_more, at_roots_more}
use Rattle.heap_text.proofs.line_parser.LineParser.finish.Goals as goal

pub returns-in-Version : goal.returns-in-Version
returns-in-Version c image valid e =
    absurd (at_version_more image valid c.args.self (subst (λ (n : NextLine). ExpectsAt n image c.args.self []) c.in-Version.is e))

pub returns-in-RegionLog : goal.returns-in-RegionLog
returns-in-RegionLog c image valid e =
    absurd (at_region_log_more image valid c.args.self (subst (λ (n : NextLine). ExpectsAt n image c.args.self []) c.in-RegionLog.is e))

pub returns-in-Words : goal.returns-in-Words
returns-in-Words c image valid e =
    absurd (at_words_more image valid c.args.self (subst (λ (n : NextLine). ExpectsAt n image c.args.self []) c.in-Words.is e))

pub returns-in-Allowance : goal.returns-in-Allowance
returns-in-Allowance c image valid e =
    absurd (at_allowance_more image valid c.args.self (subst (λ (n : NextLine). ExpectsAt n image c.args.self []) c.in-Allowance.is e))

pub returns-in-Roots : goal.returns-in-Roots
returns-in-Roots c image valid e =
    absurd (at_roots_more image valid c.args.self (subst (λ (n : NextLine). ExpectsAt n image c.args.self []) c.in-Roots.is e))

pub returns-in-Heap : goal.returns-in-Heap
returns-in-Heap c image valid e = c.finish_heap.ensures image valid (subst (λ (n : NextLine). ExpectsAt n image c.args.self []) c.in-Heap.is e)
