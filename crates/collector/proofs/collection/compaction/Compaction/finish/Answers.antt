use Rattle.std.proofs.Common.{Bool, ◌≡◌, ℕ, sym, subst, ap, ◌∙◌}
use Rattle.object_heap.specs.HeapImage.{HeapImage}
use Rattle.scheduler.specs.ImageMoves.{image_table}
use Rattle.scheduler.specs.MoveTable.{IsMoveTable}
use Rattle.scheduler.specs.History.{IsLegal}
use Rattle.scheduler.specs.Whole.{HasEachOnce}
use Rattle.claim_board.specs.declared.regions.region_board.RegionBoard.{RegionBoard}
use Rattle.claim_board.specs.Finishes.{history}
use Rattle.claim_board.specs.RegionBoards.{moves, worker_count, identity}
use Rattle.fill.specs.KeptImages.{KeepsImage, Keeps}
use Rattle.std.specs.Option.{is_some}
use Rattle.collector.proofs.Lemmas.Kept.{moves_kept}
use Rattle.collector.specs.Rest.{IsFilled, callers_of}
use Rattle.collector.proofs.collection.compaction.Compaction.finish.Goals as goal

pub finish-finished-requires-clause-seats : goal.finish-finished-requires-clause-seats
finish-finished-requires-clause-seats g c k d below = c.requires.seats k d below ∙ ap identity (sym c.into_parts-board.ensures.board)

pub finish-finished-requires-clause-filled : goal.finish-finished-requires-clause-filled
finish-finished-requires-clause-filled g c =
    let workers = c.args.self.workers in
    subst (λ (b : RegionBoard). IsFilled (moves b) workers.len (callers_of workers.items)) (sym c.into_parts-board.ensures.board) c.requires.filled

pub clean_up-outcome-requires-clause-moved : goal.clean_up-outcome-requires-clause-moved
clean_up-outcome-requires-clause-moved g c =
    let survey : HeapImage = c.args.self.shared.survey in
    let board : RegionBoard = c.into_parts-board.result.0 in
    let keeps : KeepsImage survey (g.D.HasBoard.keeps c.args.self.shared.desk) = subst (λ (redirects : Bool). Keeps redirects survey (g.D.HasBoard.keeps c.args.self.shared.desk)) c.args.self.whole c.args.self.shared.keeps in
    (board, subst (KeepsImage survey) (sym c.into_parts-board.ensures.board) keeps, c.finish-finished.ensures.count, c.finish-finished.ensures.words)

-- the board's moves are the image's
same_moves : (g : _) (c : goal.After-drop-shared-2 g) → moves c.into_parts-board.result.0 ≡ image_table c.args.self.shared.survey
same_moves g c = ap moves c.into_parts-board.ensures.board ∙ moves_kept (is_some c.args.self.shared.parts) c.args.self.shared.survey (g.D.HasBoard.keeps c.args.self.shared.desk) c.args.self.shared.keeps

pub returns-clause-once : goal.returns-clause-once
returns-clause-once g c =
    let b : RegionBoard = c.into_parts-board.result.0 in
    let survey : HeapImage = c.args.self.shared.survey in
    let f = c.finish-finished.ensures in
    let log = history c.finish-finished.result.0 in
    let lawful : IsMoveTable (image_table survey) = subst (λ (i : HeapImage). IsMoveTable (image_table i)) c.plan.ensures c.moves_are_lawful.ensures in
    let same = same_moves g c in
    subst (λ m. HasEachOnce m log) same (c.settled_histories_have_each_once.ensures (moves b) (worker_count b) log (subst IsMoveTable (sym same) lawful) f.legal f.settled)

pub returns-clause-legal : goal.returns-clause-legal
returns-clause-legal g c =
    let b : RegionBoard = c.into_parts-board.result.0 in
    let log = history c.finish-finished.result.0 in
    let count : worker_count b ≡ c.args.self.workers.len = ap worker_count c.into_parts-board.ensures.board ∙ c.args.self.count in
    subst (λ m. IsLegal m c.args.self.workers.len log) (same_moves g c) (subst (λ (n : ℕ). IsLegal (moves b) n log) count c.finish-finished.ensures.legal)

pub clean_up-outcome-requires-clause-parts : goal.clean_up-outcome-requires-clause-parts
clean_up-outcome-requires-clause-parts g c = c.args.self.shared.rest c.in-Some.parts c.in-Some.is
