-- Threads may share what the workers share.
use denote.RattleType.{RattleType}
use denote.Param.Send.{Frees, IsSend, IsSync, AllSend, AllSync, struct_send, recorded_send, struct_sync, recorded_sync, sendable}
use denote.Struct.Declared as declared
use denote.Struct.Struct.{Struct}
use Rattle.std.proofs.Crossing as heap
use Rattle.std_alloc.proofs.SendSync as boxes
use Rattle.std.proofs.Crossing.{crosses}
use Rattle.std.specs.contracts.vec.Vec as Vec
use Rattle.std.specs.contracts.alloc.Global as Heap
use Rattle.std.specs.contracts.impls.GlobalAllocator.TheImpl.{ghosts}
use Rattle.summary.specs.contracts.survey.Survey as Survey
use Rattle.raw_region.specs.contracts.region.Region as Region
use Rattle.raw_region.proofs.region.Region.TheSendSync as region
use Rattle.box_row.specs.contracts.place.InRow as InRow
use Rattle.box_row.proofs.place.InRow.TheSendSync as place
use Rattle.box_row.specs.contracts.place.InRowAllocator.TheImpl as handle
use Rattle.heap_image.proofs.image.ImageParts.TheSendSync as parts
use Rattle.claim_board.specs.declared.desk.HasBoard as HasBoard
use Rattle.claim_board.proofs.desk.Seat.TheSendSync as seat
use Rattle.claim_board.specs.contracts.desk.recorder.Recorder as Recorder
use Rattle.claim_board.proofs.regions.region_board.RegionBoard.TheSendSync as board
use Rattle.claim_board.specs.contracts.regions.region_ticket.RegionTicket as RegionTicket
use Rattle.ready_queues.specs.contracts.ready.Thief as Thief
use Rattle.ready_queues.proofs.ready.Ready.TheSendSync as ready
use Rattle.ready_queues.proofs.ready.Thief.TheSendSync as thief
use Rattle.collector.specs.contracts.workers.shared.Shared as Shared
use Rattle.collector.specs.contracts.workers.held_region.HeldRegion as HeldRegion
use Rattle.collector.specs.contracts.workers.end.End as End
use Rattle.collector.specs.contracts.workers.worker.Worker as Worker

survey_sync : IsSync Survey.the_row
survey_sync = search (crosses, sendable) depth 60 fits 20000

thieves_sync : IsSync (Vec.the_row Thief.the_row Heap.the_row ghosts)
thieves_sync = heap.Vec-sync Thief.the_row thief.the_sync

pub shared_sync : (D : RattleType) (g : HasBoard.Ghosts D.Denot) → IsSync D → IsSync (Shared.the_row D g)
shared_sync D g desk =
    let T = Shared.the_type D g in
    let all : AllSync (declared.fields T) = (survey_sync, (desk, (search (crosses, sendable, parts.the_sync) depth 60 fits 20000, (thieves_sync, (search (crosses, sendable), tt))))) in
    recorded_sync (Struct (declared.shape T)) T.D T.to T.to_one (struct_sync (declared.shape T) all)

-- a worker may be joined with its end
ticket_send : IsSend (RegionTicket.the_field).row
ticket_send = search (crosses, sendable) depth 60 fits 20000

-- a box in a row is dropped anywhere
place_frees : Frees handle.ghosts handle.ghosts.dealloc_token
place_frees = record { frees = λ a τ p. λ _. tt }

held_send : IsSend HeldRegion.the_row
held_send =
    let T = HeldRegion.the_type in
    let all : AllSend (declared.fields T) = (ticket_send, (boxes.Box-send Region.the_row InRow.the_row handle.ghosts region.the_send place.the_send place_frees, tt)) in
    recorded_send (Struct (declared.shape T)) T.D T.to T.to_one (struct_send (declared.shape T) all)

end_send : IsSend End.the_row
end_send = search (crosses, sendable, held_send) depth 60 fits 20000

pub worker_send : IsSend Worker.the_row
worker_send =
    let T = Worker.the_type in
    let all : AllSend (declared.fields T) = (seat.the_field_send, (ready.the_send, (search (crosses, sendable), (search (crosses, sendable, end_send) depth 60 fits 20000, tt)))) in
    recorded_send (Struct (declared.shape T)) T.D T.to T.to_one (struct_send (declared.shape T) all)

-- threads may share a recorder
recorder_fields : AllSync (declared.fields Recorder.the_type)
recorder_fields = (board.the_field_sync, (search (crosses, sendable) depth 60 fits 20000, tt))

pub recorder_sync : IsSync Recorder.the_row
recorder_sync =
    let T = Recorder.the_type in
    recorded_sync (Struct (declared.shape T)) T.D T.to T.to_one (struct_sync (declared.shape T) recorder_fields)
