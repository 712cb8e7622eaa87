use Rattle.std.proofs.Common.{◌≡◌, ◌+◌, ◌-◌, ◌≤◌, length, max}
use Rattle.object_heap.specs.HeapImage.{region_count}
use Rattle.scheduler.specs.ImageMoves.{image_table}
use Rattle.claim_board.specs.Boards.{board_of, caller}
use Rattle.claim_board.specs.RegionBoards.{moves, identity, original_words, Holds}
use Rattle.claim_board.specs.Tickets.{IsTicketOf, IsSwept}
use Rattle.fill.specs.WrittenWords.{IsCopied}
use Rattle.fill.specs.SourceDrains.{HasDrained}
use Rattle.fill.proofs.region.filling.Filling.fill.Given as goal

abbrev pub invariant-loop-opening : goal.invariant-loop-opening
invariant-loop-opening g l = record {
  number : l.seat.number ≡ l.fn.seat.number;
  board : board_of l.seat.pass ≡ identity (g.D.HasBoard.keeps l.self.desk.now);
  callable : goal.F-IsAlwaysCallable g l.on_last;
  region : l.ticket.ticket.region ≡ l.self.site.region;
  claimed : l.ticket.ticket.from ≡ l.fn.ticket.ticket.from;
  is_ticket : IsTicketOf (moves (g.D.HasBoard.keeps l.self.desk.now)) (caller l.seat.pass) l.ticket.ticket;
  swept : IsSwept (moves (g.D.HasBoard.keeps l.self.desk.now)) (caller l.seat.pass) l.ticket.ticket;
  holds : Holds (g.D.HasBoard.keeps l.self.desk.now) l.ticket l.seat.pass;
  drained : HasDrained (λ f s h. goal.F-step g f s tt h) (image_table l.self.site.guide.now) l.self.site.region l.ticket.ticket.next (caller l.fn.seat.pass) (caller l.seat.pass) l.fn.on_last l.on_last;
  inside : l.ticket.ticket.next ≤ region_count l.self.site.guide.now;
  next : l.from ≡ max l.ticket.ticket.next (l.self.site.region + 1);
  copied : IsCopied l.self.site.guide.now (original_words (g.D.HasBoard.keeps l.self.desk.now)) l.self.site.region l.from l.to l.words;
  same_length : length l.words ≡ length l.fn.words;
}

abbrev pub decreases-loop-opening : goal.decreases-loop-opening
decreases-loop-opening g l = 4294967296 - l.ticket.ticket.next
