-- A part may go to another thread.
use denote.Param.Send.{Frees, IsSend, IsSync, AllSend, AllSync, struct_send, struct_sync, recorded_send, recorded_sync, part_keyless, sendable}
use denote.Struct.Declared as declared
use denote.RattleType.{RattleType}
use denote.Struct.Struct.{Struct}
use Rattle.std.proofs.Crossing as heap
use Rattle.core.specs.contracts.option.Option as Option
use Rattle.std.proofs.Crossing.{crosses}
use Rattle.std_alloc.proofs.SendSync as boxes
use Rattle.std_alloc.specs.contracts.vec.Vec as Vec
use Rattle.std_heap.specs.contracts.Global as Heap
use Rattle.std_heap.specs.contracts.GlobalAllocator.TheImpl.{ghosts}
use Rattle.box_row.specs.contracts.place.InRow as InRow
use Rattle.box_row.specs.contracts.place.InRowAllocator.TheImpl as handle
use Rattle.box_row.proofs.place.InRow.TheSendSync as place
use Rattle.raw_region.specs.contracts.region.Region as Region
use Rattle.raw_region.proofs.region.Region.TheSendSync as region
use Rattle.summary.specs.contracts.survey.Survey as Survey
use Rattle.claim_board.specs.contracts.regions.region_board.RegionBoard as RegionBoard
use Rattle.claim_board.specs.contracts.regions.region_ticket.RegionTicket as RegionTicket
use Rattle.claim_board.specs.contracts.desk.unrecorded.RegionBoardHasBoard.TheImpl.{ghosts as keeping}
use Rattle.claim_board.proofs.regions.region_board.RegionBoard.TheSendSync as board
use Rattle.claim_board.proofs.desk.Seat.TheSendSync as seat
use Rattle.heap_image.proofs.image.ImageParts.TheSendSync as parts
use Rattle.heap_image.specs.contracts.image.ImageParts as ImageParts
use Rattle.heap_image.specs.contracts.check_share.CheckShare as CheckShare
use Rattle.heap_image.specs.contracts.shared_check.SharedCheck as SharedCheck
use Rattle.collector.specs.contracts.slide.Slide as Slide
use Rattle.ready_queues.specs.contracts.ready.Thief as Thief
use Rattle.ready_queues.proofs.ready.Thief.TheSendSync as thief
use Rattle.ready_queues.proofs.ready.Ready.TheSendSync as ready
use Rattle.collector.specs.contracts.workers.held_region.HeldRegion as HeldRegion
use Rattle.collector.specs.contracts.workers.end.End as End
use Rattle.collector.specs.contracts.workers.worker.Worker as Worker
use Rattle.collector.specs.contracts.session.Session as Session
use Rattle.collector.specs.contracts.session.returned_stakes.ReturnedStakes as ReturnedStakes
use Rattle.collector.specs.contracts.session.stake.SessionDeed as SessionDeed
use Rattle.collector.specs.contracts.session.stake.Stake as Stake
use Rattle.collector.specs.contracts.session.share.Share as Share
use Rattle.collector.specs.contracts.workers.shared.Shared as Shared
use Rattle.read_shares.specs.contracts.deed.Deed as Deed
use Rattle.read_shares.specs.contracts.share.ReadShare as ReadShare
use Rattle.read_shares.proofs.deed.Deed.TheSendSync as deed
use Rattle.read_shares.proofs.share.ReadShare.TheSendSync as read
use Rattle.counted_slot.proofs.Counted.TheSendSync as slot
use Rattle.claim_board.specs.contracts.pass.Pass as Pass
use Rattle.claim_board.proofs.pass.Pass.TheSendSync as pass
use Rattle.claim_board.specs.contracts.regions.holding.Holding as Holding
use Rattle.claim_board.specs.contracts.rule.view.View as View
use Rattle.claim_board.proofs.regions.holding.Holding.TheSendSync as holding
use Rattle.atomic_table.proofs.shared.Seat.TheSendSync as seats
use Rattle.coded_marking.specs.contracts.marking.Marking as Marking
use Rattle.caller_heap.specs.contracts.planned_slide.Owner as Owner
use Rattle.caller_heap.specs.contracts.planned_slide.PlannedSlide as PlannedSlide
use Rattle.caller_heap.specs.contracts.part.Part as Part
use Rattle.caller_heap.proofs.part.Origin.TheSendSync as origin

survey_send : IsSend Survey.the_row
survey_send = search (crosses, sendable) depth 60 fits 20000

survey_sync : IsSync Survey.the_row
survey_sync = search (crosses, sendable) depth 60 fits 20000

thieves_send : IsSend (Vec.the_row Thief.the_row Heap.the_row ghosts)
thieves_send = heap.Vec-send Thief.the_row thief.the_send

thieves_sync : IsSync (Vec.the_row Thief.the_row Heap.the_row ghosts)
thieves_sync = heap.Vec-sync Thief.the_row thief.the_sync

parts_send : IsSend (Option.the_field ImageParts.the_row).row
parts_send = search (crosses, sendable, parts.the_send) depth 60 fits 20000

parts_sync : IsSync (Option.the_field ImageParts.the_row).row
parts_sync = search (crosses, sendable, parts.the_sync) depth 60 fits 20000

-- what the workers of a session share
shared_send : IsSend (Shared.the_field RegionBoard.the_row keeping).row
shared_send =
    let T = Shared.the_type RegionBoard.the_row keeping in
    let all : AllSend (declared.fields T) = (survey_send, (board.the_send, (parts_send, (thieves_send, (search (crosses, sendable), tt))))) in
    struct_send (declared.shape T) all

shared_sync : IsSync (Shared.the_field RegionBoard.the_row keeping).row
shared_sync =
    let T = Shared.the_type RegionBoard.the_row keeping in
    let all : AllSync (declared.fields T) = (survey_sync, (board.the_sync, (parts_sync, (thieves_sync, (search (crosses, sendable), tt))))) in
    struct_sync (declared.shape T) all

session_send : IsSend Session.the_row
session_send =
    let T = Session.the_type in
    let all : AllSend (declared.fields T) = (shared_send, (search sendable, (search (crosses, sendable), tt))) in
    recorded_send (Struct (declared.shape T)) T.D T.to T.to_one (struct_send (declared.shape T) all)

session_sync : IsSync Session.the_row
session_sync =
    let T = Session.the_type in
    let all : AllSync (declared.fields T) = (shared_sync, (search sendable, (search (crosses, sendable), tt))) in
    recorded_sync (Struct (declared.shape T)) T.D T.to T.to_one (struct_sync (declared.shape T) all)

-- the parts that shares have of a session
Read-send : (T : RattleType) → IsSync T → IsSend (ReadShare.the_row T)
Read-send T y = read.the_send T y

Read-sync : (T : RattleType) → IsSync T → IsSync (ReadShare.the_row T)
Read-sync T y = read.the_sync T y

Deed-send : (T : RattleType) → IsSend T → IsSend (Deed.the_row T Heap.the_row ghosts)
Deed-send T s = deed.the_send T Heap.the_row ghosts s heap.send heap.frees

Deed-sync : (T : RattleType) → IsSend T → IsSync (Deed.the_row T Heap.the_row ghosts)
Deed-sync T s = deed.the_sync T Heap.the_row ghosts s heap.send heap.frees

slot_send : IsSend (Option.the_row Holding.the_row)
slot_send = search (crosses, sendable, holding.the_send) depth 60 fits 20000

-- a `&` to a pass shows nothing of what it owns
pass_sync : IsSync (Pass.the_field).row
pass_sync =
    let T = Pass.the_type in
    let place : AllSend (declared.fields T) = (seats.the_send (Option.the_row Holding.the_row) View.the_row slot_send, tt) in
    let all : AllSync (declared.fields T) = (record { shared = λ d b o κ q. part_keyless _ place.0 q d b o }, tt) in
    struct_sync (declared.shape T) all

lead_send : IsSend SessionDeed.the_row
lead_send =
    let T = SessionDeed.the_type in
    let all : AllSend (declared.fields T) = (search (crosses, sendable, Deed-send, session_send) depth 60 fits 20000, (search (crosses, sendable, Read-send, session_sync) depth 60 fits 20000, tt)) in
    recorded_send (Struct (declared.shape T)) T.D T.to T.to_one (struct_send (declared.shape T) all)

lead_sync : IsSync SessionDeed.the_row
lead_sync =
    let T = SessionDeed.the_type in
    let all : AllSync (declared.fields T) = (search (crosses, sendable, Deed-sync, session_send) depth 60 fits 20000, (search (crosses, sendable, Read-sync, session_sync) depth 60 fits 20000, tt)) in
    recorded_sync (Struct (declared.shape T)) T.D T.to T.to_one (struct_sync (declared.shape T) all)

stake_send : IsSend Stake.the_row
stake_send =
    let T = Stake.the_type in
    let all : AllSend (declared.fields T) = (search (crosses, sendable, Read-send, session_sync) depth 60 fits 20000, (pass.the_field_send, (search (crosses, sendable, lead_send) depth 60 fits 20000, tt))) in
    recorded_send (Struct (declared.shape T)) T.D T.to T.to_one (struct_send (declared.shape T) all)

stake_sync : IsSync Stake.the_row
stake_sync =
    let T = Stake.the_type in
    let all : AllSync (declared.fields T) = (search (crosses, sendable, Read-sync, session_sync) depth 60 fits 20000, (pass_sync, (search (crosses, sendable, lead_sync) depth 60 fits 20000, tt))) in
    recorded_sync (Struct (declared.shape T)) T.D T.to T.to_one (struct_sync (declared.shape T) all)

returned_send : IsSend ReturnedStakes.the_row
returned_send = search (crosses, sendable, slot.the_send, stake_send) depth 60 fits 20000

returned_sync : IsSync ReturnedStakes.the_row
returned_sync = search (crosses, sendable, slot.the_sync, stake_send, stake_sync) depth 60 fits 20000

ticket_send : IsSend (RegionTicket.the_field).row
ticket_send = search (crosses, sendable) depth 60 fits 20000

-- a box in a row is dropped anywhere
place_frees : Frees handle.ghosts handle.ghosts.dealloc_token
place_frees = record { frees = λ a τ p. λ _. tt }

held_send : IsSend HeldRegion.the_row
held_send =
    let T = HeldRegion.the_type in
    let all : AllSend (declared.fields T) = (ticket_send, (boxes.Box-send Region.the_row InRow.the_row handle.ghosts region.the_send place.the_send place_frees, tt)) in
    recorded_send (Struct (declared.shape T)) T.D T.to T.to_one (struct_send (declared.shape T) all)

end_send : IsSend End.the_row
end_send = search (crosses, sendable, held_send) depth 60 fits 20000

worker_send : IsSend (Worker.the_field).row
worker_send =
    let T = Worker.the_type in
    let all : AllSend (declared.fields T) = (seat.the_field_send, (ready.the_send, (search (crosses, sendable), (search (crosses, sendable, end_send) depth 60 fits 20000, tt)))) in
    struct_send (declared.shape T) all

share_send : IsSend (Share.the_field).row
share_send =
    let T = Share.the_type in
    let all : AllSend (declared.fields T) = (search (crosses, sendable, Read-send, session_sync) depth 60 fits 20000, (search (crosses, sendable, lead_send) depth 60 fits 20000, (worker_send, (search sendable, (heap.Arc-send ReturnedStakes.the_row returned_send returned_sync, tt))))) in
    struct_send (declared.shape T) all

-- a slide that is planned, of which several may be
slide_send : IsSend Slide.the_row
slide_send = search (crosses, sendable, survey_send) depth 60 fits 20000

slide_sync : IsSync Slide.the_row
slide_sync = search (crosses, sendable, survey_sync) depth 60 fits 20000

owner_send : IsSend Owner.the_row
owner_send = search (crosses, sendable, slide_send, slide_sync) depth 60 fits 20000

planned_send : IsSend PlannedSlide.the_row
planned_send = search (crosses, sendable, owner_send) depth 60 fits 20000

-- the check that shares have in common: regions, bits, and slots of pieces
checked_send : IsSend SharedCheck.the_row
checked_send = search (crosses, sendable, slot.the_send, region.the_send) depth 60 fits 20000

checked_sync : IsSync SharedCheck.the_row
checked_sync = search (crosses, sendable, slot.the_sync, region.the_sync) depth 60 fits 20000

check_send : IsSend CheckShare.the_row
check_send = search (crosses, sendable, checked_send, checked_sync) depth 60 fits 20000

-- a marking, which has its bits and its stack
marking_send : IsSend Marking.the_row
marking_send = search (crosses, sendable) depth 60 fits 20000

pub part_send : IsSend Part.the_row
part_send =
    let T = Part.the_type in
    let all : AllSend (declared.fields T) = (search (crosses, sendable, share_send) depth 60 fits 20000, (search (crosses, sendable, check_send) depth 60 fits 20000, (search (crosses, sendable, planned_send) depth 60 fits 20000, (search (crosses, sendable, marking_send) depth 60 fits 20000, (origin.the_field_send, tt))))) in
    recorded_send (Struct (declared.shape T)) T.D T.to T.to_one (struct_send (declared.shape T) all)
