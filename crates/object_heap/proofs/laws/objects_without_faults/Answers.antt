use Rattle.object_heap.proofs.Lemmas.ObjectFaults.{sound_header, references_lead, faultless-HasLiveList}
use Rattle.object_heap.proofs.laws.objects_without_faults.Goals as goal

pub returns : goal.returns
returns c = record {
  header = sound_header;
  references = references_lead;
  live_list = faultless-HasLiveList;
}
