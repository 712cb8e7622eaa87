use Rattle.summary.proofs.Lemmas.Words.{live_words-add, live_words-le, live_below, owner, is_live, ends_before, slid-low, slid-high, slid-le, slid-above, slid-below, slid-onto, nowhere-in_prefix, origin-live, origin-dead}
use Rattle.summary.proofs.Lemmas.Addresses.{new_address-slid, prefix_end-le, new_top-live_words}
use Rattle.summary.proofs.Lemmas.Graph.{new-down, new-below}
use Rattle.summary.proofs.Lemmas.Regions.{prefix_region, data-le, region-into}
use Rattle.summary.proofs.Lemmas.Fillers.{top-above, gap_at-run}
use Rattle.summary.proofs.Lemmas.Steps.{top-le, to_fill-count}
use Rattle.summary.proofs.Lemmas.Origin.{slid-increasing, origin-slid, origin-Some}
use Rattle.summary.proofs.Lemmas.Runs.{slid-run, slid-skip, origin-in_region}
use Rattle.summary.proofs.Lemmas.Readers.{origin-up, origin-below, origin-reads, reads-word, word_reads, reads-below, reads-filled, reads-prefix, reads-destination, reads-in_range, reader_count-le, source-Some}
use Rattle.summary.proofs.Lemmas.Blocks.{parts-of_blocks}
use Rattle.summary.proofs.Lemmas.Telling.{destination-le}
use Rattle.summary.proofs.Lemmas.Destinations.{destination-live_words}
use Rattle.summary.proofs.Lemmas.Updates.{reference-owner, moved-reference, moved-same, moved-late}
use Rattle.summary.proofs.Lemmas.Compacted.{compact-IsValid}
use Rattle.summary.proofs.laws.plan_laws.Goals as goal

pub returns : goal.returns
returns c = record {
  live_words-add = live_words-add;
  live_words-le = live_words-le;
  live_below = live_below;
  owner = owner;
  is_live = is_live;
  ends_before = ends_before;
  new_address-slid = new_address-slid;
  new-down = new-down;
  new-below = new-below;
  prefix_end-le = prefix_end-le;
  prefix_region = prefix_region;
  top-above = top-above;
  top-le = top-le;
  new_top-live_words = new_top-live_words;
  slid-low = slid-low;
  slid-high = slid-high;
  slid-le = slid-le;
  slid-above = slid-above;
  slid-below = slid-below;
  slid-increasing = slid-increasing;
  slid-run = slid-run;
  slid-skip = slid-skip;
  slid-onto = slid-onto;
  origin-slid = origin-slid;
  origin-Some = origin-Some;
  origin-live = origin-live;
  origin-dead = origin-dead;
  origin-up = origin-up;
  origin-below = origin-below;
  origin-reads = origin-reads;
  origin-in_region = origin-in_region;
  nowhere-in_prefix = nowhere-in_prefix;
  reads-word = reads-word;
  word_reads = word_reads;
  reads-below = reads-below;
  reads-filled = reads-filled;
  reads-prefix = reads-prefix;
  reads-destination = reads-destination;
  reads-in_range = reads-in_range;
  reader_count-le = reader_count-le;
  to_fill-count = to_fill-count;
  source-Some = source-Some;
  data-le = data-le;
  region-into = region-into;
  destination-le = destination-le;
  destination-live_words = destination-live_words;
  gap_at-run = gap_at-run;
  reference-owner = reference-owner;
  moved-reference = moved-reference;
  moved-same = moved-same;
  moved-late = moved-late;
  compact-IsValid = compact-IsValid c.live_laws.ensures;
  parts-of_blocks = parts-of_blocks;
}
