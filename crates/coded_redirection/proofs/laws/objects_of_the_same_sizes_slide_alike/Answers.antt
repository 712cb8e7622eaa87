use Rattle.coded_redirection.proofs.laws.objects_of_the_same_sizes_slide_alike.Goals as goal
use Rattle.coded_redirection.proofs.Lemmas.Alike.{live_word-same, prefix_end-same, new_top-same, new_address-same, new_live-same, slid-same, word_moves-same, origin-same}

pub returns : goal.returns
returns c = record {
  live_word = live_word-same;
  prefix_end = prefix_end-same;
  new_top = new_top-same;
  slid = slid-same;
  origin = origin-same;
  new_address = new_address-same;
  new_live = new_live-same;
  word_moves = word_moves-same;
}
