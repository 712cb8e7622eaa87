use Rattle.object_heap.proofs.Lemmas.Reaches.{reachable-IsClosed, reachable-least}
use Rattle.object_heap.proofs.Lemmas.RootsToLive.{live_sound, live_below, not_unsound, leads_to_live, field_of, refers_by, live_is_reachable}
use Rattle.object_heap.proofs.Lemmas.RootLive.{root_leads}
use Rattle.object_heap.proofs.laws.live_laws.Goals as goal

pub returns : goal.returns
returns c = record {
  reachable-IsClosed = reachable-IsClosed;
  reachable-least = reachable-least;
  live_sound = live_sound;
  live_below = live_below;
  not_unsound = not_unsound;
  leads_to_live = leads_to_live;
  field_of = field_of;
  refers_by = refers_by;
  root_leads = root_leads;
  live_is_reachable = live_is_reachable;
}
