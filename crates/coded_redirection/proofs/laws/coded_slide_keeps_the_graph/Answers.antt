use Rattle.std.proofs.Common.{sym, ◌∙◌}
use Rattle.coded_redirection.proofs.Lemmas.Alike.{origin-same}
use Rattle.coded_redirection.proofs.Lemmas.Graph.{slid-IsSameGraph}
use Rattle.coded_redirection.proofs.laws.coded_slide_keeps_the_graph.Goals as goal

pub returns : goal.returns
returns c = λ coding image other coded sound lawful plan dead after goes roots.
    slid-IsSameGraph c.plan_laws.ensures image sound (c.compaction_keeps_the_graph.ensures image sound lawful) after roots (λ p q from.
    let there = origin-same image other plan p ∙ from in
    goes p q there ∙ sym (c.coded_words_are_compacted.ensures.word coding image other coded sound plan dead p q there))
