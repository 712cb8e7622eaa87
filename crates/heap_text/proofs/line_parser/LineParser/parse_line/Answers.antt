use Rattle.std.proofs.Common.{◌++◌, ◌∷◌, sym, ◌∙◌, subst}
use Rattle.heap_text.specs.Parsing.{ExpectsAt}
use Rattle.heap_text.specs.declared.line_parser.next_line.NextLine.{NextLine}
use Rattle.heap_text.proofs.Lemmas.PartSteps.{accepts_map}
use Rattle.heap_text.proofs.line_parser.LineParser.parse_line.Goals as goal

pub returns-in-Version : goal.returns-in-Version
returns-in-Version c image rest valid e one =
    c.parse_version.ensures image rest (subst (λ (n : NextLine). ExpectsAt n image c.args.self.now (c.args.line.now ++ (10 ∷ rest))) c.in-Version.is e) one

pub returns-in-RegionLog : goal.returns-in-RegionLog
returns-in-RegionLog c image rest valid e one =
    c.parse_region_log.ensures image rest valid (subst (λ (n : NextLine). ExpectsAt n image c.args.self.now (c.args.line.now ++ (10 ∷ rest))) c.in-RegionLog.is e) one

pub returns-in-Words : goal.returns-in-Words
returns-in-Words c image rest valid e one =
    c.parse_words.ensures image rest valid (subst (λ (n : NextLine). ExpectsAt n image c.args.self.now (c.args.line.now ++ (10 ∷ rest))) c.in-Words.is e) one

pub returns-in-Allowance : goal.returns-in-Allowance
returns-in-Allowance c image rest valid e one =
    c.parse_allowance.ensures image rest valid (subst (λ (n : NextLine). ExpectsAt n image c.args.self.now (c.args.line.now ++ (10 ∷ rest))) c.in-Allowance.is e) one

pub returns-in-Roots : goal.returns-in-Roots
returns-in-Roots c image rest valid e one =
    c.parse_roots.ensures image rest valid (subst (λ (n : NextLine). ExpectsAt n image c.args.self.now (c.args.line.now ++ (10 ∷ rest))) c.in-Roots.is e) one

pub returns-in-Heap : goal.returns-in-Heap
returns-in-Heap c image rest valid e one =
    accepts_map c.parse_heap_line.result _ _ (λ _ q. subst (λ (n : NextLine). ExpectsAt n image c.parse_heap_line.new.self rest) (sym (q.0 ∙ c.in-Heap.is)) q.1)
    (c.parse_heap_line.ensures image rest valid (subst (λ (n : NextLine). ExpectsAt n image c.args.self.now (c.args.line.now ++ (10 ∷ rest))) c.in-Heap.is e) one)
