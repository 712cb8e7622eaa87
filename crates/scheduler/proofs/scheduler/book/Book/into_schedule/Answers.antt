use Rattle.scheduler.proofs.Lemmas.Books.{book_schedule}
use Rattle.scheduler.proofs.scheduler.book.Book.into_schedule.Goals as goal

pub of_lines-requires : goal.of_lines-requires
of_lines-requires c = rw c.workers.ensures (book_schedule c.self.inside.scheduler c.self.inside.lines.items c.self.invariant)
