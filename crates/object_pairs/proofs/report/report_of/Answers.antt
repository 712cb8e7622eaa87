use Rattle.object_pairs.proofs.report.report_of.Goals as goal

pub returns : goal.returns
returns c = record {
  pairing = c.args.paired.now.pairing.now;
  pairs = c.requires;
  comparison = c.in_ok-comparison.comparison;
  compared = c.in_ok-comparison.ensures;
  shown = c.in_ok-text.ensures;
  says = c.verdict-verdict.ensures;
}
