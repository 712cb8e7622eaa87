use Rattle.summary.proofs.laws.region_data.region_words_go_in_a_row.Goals as goal
use Rattle.summary.proofs.Lemmas.Regions.{slid-destination, region-into, region-onto}

pub returns : goal.returns
returns c = record { at = slid-destination; within = region-into; each = region-onto }
