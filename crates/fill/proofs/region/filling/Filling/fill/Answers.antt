use Rattle.std.proofs.Common.{◌≡◌, ℕ, ◌+◌, ◌^◌, ◌<◌, ◌≤◌, true, false, [], refl, sym, ap, ◌∙◌, subst, arith}
use Rattle.std.proofs.lemmas.Nat.{pow_below}
use Rattle.std.specs.Prelude.{◌==◌, ◌&&◌, not}
use Rattle.object_heap.specs.HeapImage.{HeapImage, IsValid, region_words, region_count, start_of}
use Rattle.summary.specs.NewAddresses.{prefix_end}
use Rattle.summary.specs.WordMoves.{reads as image_reads}
use Rattle.scheduler.specs.declared.event.Event.{Event}
use Rattle.scheduler.specs.declared.event.Event.TheVariants.{Drain}
use Rattle.scheduler.specs.MoveTable.{MoveTable, IsMoveTable, reads}
use Rattle.scheduler.specs.MoveTable.{region_count as table_regions}
use Rattle.scheduler.specs.ImageMoves.{image_table}
use Rattle.claim_board.specs.Boards.{caller}
use Rattle.claim_board.specs.declared.regions.region_board.RegionBoard.{RegionBoard}
use Rattle.claim_board.specs.RegionBoards.{moves as moves_of, worker_count, original_words}
use Rattle.scheduler.specs.State.{is_pending}
use Rattle.claim_board.specs.Callers.{Caller, Gains, own}
use Rattle.claim_board.specs.Drains.{reply_of}
use Rattle.claim_board.specs.declared.tokens.ticket.Ticket.{Ticket}
use Rattle.claim_board.specs.Tickets.{IsTicketOf, IsOpeningOf, ticket_board, ticket_claimant}
use Rattle.fill.specs.declared.region.site.Site.{Site}
use Rattle.fill.specs.WordBlocks.{Shows}
use Rattle.fill.specs.SlidWords.{AreWhole, slid_word}
use Rattle.fill.specs.WrittenWords.{Becomes, IsUnwritten, IsCopied}
use Rattle.fill.specs.SourceRegions.{IsNextOtherSource}
use Rattle.fill.specs.SourceDrains.{HasDrained, ReportsLast, other_sources_below}
use Rattle.fill.proofs.Lemmas.Held.{keeps_moves, keeps_whole}
use Rattle.fill.proofs.Lemmas.WrittenTo.{written_to-last}
use Rattle.fill.proofs.Lemmas.Draining.{undrained, opened_source, skipped_sources, unread_above, last_sources_past, drained_more, drained_all}
use Rattle.fill.proofs.region.filling.Filling.fill.Goals as goal
use Rattle.fill.proofs.region.filling.Filling.fill.Goals.{After-slide_own-to, In-Some, In_default}

-- the own words are written
own_copied : (g : _) (c : After-slide_own-to g)
    → Becomes (IsCopied c.args.self.now.site.guide.now (original_words (g.D.HasBoard.keeps c.args.self.now.desk.now)) c.args.self.now.site.region (c.args.self.now.site.region + 1) c.slide_own-to.result) c.args.words.now c.slide_own-to.new.words
own_copied g c =
    subst (λ (b : RegionBoard). Becomes (IsCopied c.args.self.now.site.guide.now (original_words b) c.args.self.now.site.region (c.args.self.now.site.region + 1) c.slide_own-to.result) c.args.words.now c.slide_own-to.new.words) (c.after_prefix-place.ensures.board ∙ c.board-board.ensures)
    (subst (λ (s : Site). Becomes (IsCopied s.guide.now (original_words c.after_prefix-place.result.board.now) s.region (s.region + 1) c.slide_own-to.result) c.args.words.now c.slide_own-to.new.words) c.after_prefix-place.ensures.site c.slide_own-to.ensures)

pub after_prefix-place-requires-clause-after_prefix : goal.after_prefix-place-requires-clause-after_prefix
after_prefix-place-requires-clause-after_prefix g c = omega arith

pub after_prefix-place-requires-clause-whole : goal.after_prefix-place-requires-clause-whole
after_prefix-place-requires-clause-whole g c =
    let image : HeapImage = c.args.self.now.site.guide.now in
    subst (λ (b : RegionBoard). AreWhole image (original_words b)) (sym c.board-board.ensures) (keeps_whole c.args.self.now.redirects image (g.D.HasBoard.keeps c.args.self.now.desk.now) c.prefix_end.ensures.valid c.args.self.now.keeps)

pub slide_own-to-requires : goal.slide_own-to-requires
slide_own-to-requires g c =
    let words = c.requires.words ∙ ap (λ b. original_words b c.args.self.now.site.region) (sym (c.after_prefix-place.ensures.board ∙ c.board-board.ensures)) in
    subst (λ (p : Site). IsUnwritten (original_words c.after_prefix-place.result.board.now) p.region c.args.words.now) (sym c.after_prefix-place.ensures.site) words

pub note-requires : goal.note-requires
note-requires g c =
    let site = c.args.self.now.site in
    let place = (own_copied g (goal.at.note-requires g c).After-slide_own-to).now.place in
    let high = c.prefix_end.ensures.valid.limits.region_log_high in
    let short : region_words site.guide.now < 2 ^ 21 = pow_below site.guide.now.region_log 21 (omega arith) in
    omega (arith, site.start, site.end)

pub open-requires-clause-moves : goal.open-requires-clause-moves
open-requires-clause-moves g c = ap image_table c.plan-plan.ensures ∙ sym (keeps_moves c.args.self.now.redirects c.args.self.now.site.guide.now (g.D.HasBoard.keeps c.args.self.now.desk.now) c.args.self.now.keeps) ∙ sym (ap moves_of c.board-board.ensures)

pub open-requires-clause-region : goal.open-requires-clause-region
open-requires-clause-region g c =
    let site = c.args.self.now.site in
    let i = c.loop-opening.invariant in
    let regions = c.moves_of_images.ensures.regions site.guide.now in
    let inside : c.loop-opening.ticket.ticket.region < table_regions (image_table site.guide.now) = omega (arith, i.region, site.inside, regions) in
    subst (λ (m : MoveTable). c.loop-opening.ticket.ticket.region < table_regions m) (sym (ap moves_of c.board-board.ensures ∙ keeps_moves c.args.self.now.redirects c.args.self.now.site.guide.now (g.D.HasBoard.keeps c.args.self.now.desk.now) c.args.self.now.keeps)) inside

-- what the next source is
module _ (g : _) (c : In-Some g) where
  abbrev image : HeapImage
  image = c.args.self.now.site.guide.now

  abbrev d : ℕ
  d = c.args.self.now.site.region

  abbrev s : ℕ
  s = c.in-Some.opening.source

  abbrev t : Ticket
  t = c.loop-opening.ticket.ticket

  abbrev table : MoveTable
  table = moves_of c.board-board.result.now

  valid : IsValid image
  valid = c.prefix_end.ensures.valid

  same : table ≡ image_table image
  same = ap moves_of c.board-board.ensures ∙ keeps_moves c.args.self.now.redirects c.args.self.now.site.guide.now (g.D.HasBoard.keeps c.args.self.now.desk.now) c.args.self.now.keeps

  law : (p q : ℕ) → reads (image_table image) p q ≡ (not (p == q) && image_reads image p q)
  law = c.moves_of_images.ensures.reads image valid

  found : (reads (image_table image) d s ≡ true) × (image_reads image d s ≡ true) × (d < s)
  found = opened_source image valid law table same d t.region c.loop-opening.invariant.region c.plan_laws.ensures s c.in-Some.ensures.reads.2

  unread : (q : ℕ) → t.next ≤ q → q < s → reads (image_table image) d q ≡ false
  unread = skipped_sources image valid law table same d t.region c.loop-opening.invariant.region t.next s c.in-Some.ensures.least

  inside : s < region_count image
  inside = subst (λ (n : ℕ). s < n) (ap table_regions same ∙ c.moves_of_images.ensures.regions image) c.in-Some.ensures.inside

  low : t.next ≤ s
  low = c.in-Some.ensures.reads.1

  next_source : IsNextOtherSource image d c.loop-opening.from s
  next_source =
      let i = c.loop-opening.invariant in
      record {
        own = omega (arith, i.next);
        ordered = omega (arith, i.next, low, found.2);
        inside = inside;
        read = found.1;
        between = λ q l k. unread_above d q (reads (image_table image) d q) (image_reads image d q) (law d q) (omega (arith, l, i.next)) (unread q (omega (arith, l, i.next)) k);
      }

pub copy_source-end-requires-clause-source : goal.copy_source-end-requires-clause-source
copy_source-end-requires-clause-source g c =
    let at = (goal.at.copy_source-end-requires-clause-source g c).In-Some in
    let read = c.get.ensures ∙ c.in-Some.ensures.words ∙ ap (λ b. original_words b (s g at)) (sym c.after_prefix-place.ensures.board) in
    read ∙ ap (original_words c.after_prefix-place.result.board.now) (sym c.source-s.ensures)

pub copy_source-end-requires-clause-next : goal.copy_source-end-requires-clause-next
copy_source-end-requires-clause-next g c =
    let at = (goal.at.copy_source-end-requires-clause-next g c).In-Some in
    let board = c.after_prefix-place.result.board.now in
    let copied = subst (λ (b : RegionBoard). IsCopied (image g at) (original_words b) (d g at) c.loop-opening.from c.loop-opening.to c.loop-opening.words) (sym (c.after_prefix-place.ensures.board ∙ c.board-board.ensures)) c.loop-opening.invariant.copied in
    subst (λ (p : Site). (from : ℕ) × IsNextOtherSource p.guide.now p.region from c.source-s.result × IsCopied p.guide.now (original_words board) p.region from c.loop-opening.to c.loop-opening.words) (sym c.after_prefix-place.ensures.site)
    (c.loop-opening.from, subst (IsNextOtherSource (image g at) (d g at) c.loop-opening.from) (sym c.source-s.ensures) (next_source g at), copied)

pub drain-answer-requires-clause-board : goal.drain-answer-requires-clause-board
drain-answer-requires-clause-board g c = ap (λ x. x.board) c.in-Some.ensures.caller ∙ c.loop-opening.invariant.board

pub overflow_add-from-in-Some : goal.overflow_add-from-in-Some
overflow_add-from-in-Some g c =
    let at = (goal.at.overflow_add-from-in-Some g c).In-Some in
    let few : table_regions (image_table (image g at)) ≤ 1048576 = (c.moves_of_images.ensures.lawful (image g at) (valid g at)).few in
    omega (arith, c.source-s.ensures, inside g at, c.moves_of_images.ensures.regions (image g at))

pub loop-opening-init : goal.loop-opening-init
loop-opening-init g c =
    let site = c.args.self.now.site in
    let image : HeapImage = site.guide.now in
    let t = c.requires.ticket in
    let first : c.args.ticket.now.ticket.next ≡ 0 = t.unopened in
    let none : other_sources_below (image_table image) site.region c.args.ticket.now.ticket.next ≡ [] = ap (other_sources_below (image_table image) site.region) first in
    let own = own_copied g (goal.at.loop-opening-init g c).After-slide_own-to in
    record {
      number = refl;
      board = c.requires.board;
      callable = c.requires.callable;
      region = t.region;
      claimed = refl;
      is_ticket = t.claimed;
      swept = λ s low reads. let no : ⊥ = omega arith in absurd no;
      holds = c.requires.holds;
      drained = undrained (λ f q h. goal.F-step g f q tt h) (image_table image) site.region c.args.ticket.now.ticket.next (caller c.args.seat.now.pass) (caller c.args.seat.now.pass) c.args.on_last.now none refl;
      inside = omega arith;
      next = omega arith;
      copied = own.now;
      same_length = own.same_length;
    }

pub loop-opening-preserved : goal.loop-opening-preserved
loop-opening-preserved g c =
    let at = (goal.at.loop-opening-preserved g c).In-Some in
    let board = g.D.HasBoard.keeps c.args.self.now.desk.now in
    let t = c.loop-opening.ticket.ticket in
    let i = c.loop-opening.invariant in
    let o = c.in-Some.ensures in
    let a = c.drain-answer.ensures in
    let answer = c.drain-answer.result in
    let first = caller c.args.seat.now.pass in
    let old = caller c.loop-opening.seat.pass in
    let new = caller c.drain-answer.new.seat.pass in
    let skipped = subst (λ (m : MoveTable). (q : ℕ) → t.next ≤ q → q < s g at → reads m t.region q ≡ false) (ap moves_of c.board-board.ensures) o.least in
    let pair : c.close.result.destination ≡ t.region = c.close.ensures.pair.0 ∙ o.reads.0 in
    let opened = c.calls_of_passes_are_gained.ensures (moves_of board) (worker_count board) c.open.new.pass c.drain-answer.new.seat.pass (Drain c.close.result.destination c.close.result.source) (reply_of answer) a.entry in
    let event = subst (λ (e : Event). Gains (caller c.open.new.pass) new e (reply_of answer)) (λ j. Drain (pair j) (c.close.ensures.pair.1 j)) opened in
    let gains : Gains old new (Drain t.region (s g at)) (reply_of answer) = subst (λ (x : Caller). Gains x new (Drain t.region (s g at)) (reply_of answer)) o.caller event in
    let gains_here = subst (λ (r : ℕ). Gains old new (Drain r (s g at)) (reply_of answer)) i.region gains in
    let next : c.drain-answer.new.ticket.ticket.next ≡ s g at + 1 = a.same.1 ∙ o.next in
    let number : c.source-s.result ≡ s g at = c.source-s.ensures in
    let reported = subst (λ (q : ℕ). ReportsLast (λ f q h. goal.F-step g f q tt h) q answer c.loop-opening.on_last c.report_last.new.on_last) number c.report_last.ensures.reported in
    let there = subst (λ (p : Site). Becomes (IsCopied p.guide.now (original_words c.after_prefix-place.result.board.now) p.region (c.source-s.result + 1) c.copy_source-end.result) c.loop-opening.words c.copy_source-end.new.words) c.after_prefix-place.ensures.site c.copy_source-end.ensures.copied in
    let copied = subst (λ (b : RegionBoard). Becomes (IsCopied (image g at) (original_words b) (d g at) (c.source-s.result + 1) c.copy_source-end.result) c.loop-opening.words c.copy_source-end.new.words) (c.after_prefix-place.ensures.board ∙ c.board-board.ensures) there in
    record {
      number = a.number ∙ i.number;
      board = gains.board ∙ i.board;
      callable = c.report_last.ensures.callable;
      region = a.same.0 ∙ (o.same.0 ∙ i.region);
      claimed = a.same.3 ∙ (o.same.3 ∙ i.claimed);
      is_ticket = a.ticket;
      swept = c.one_more_source_is_drained.ensures (moves_of board) old new t c.drain-answer.new.ticket.ticket (s g at) (reply_of answer) i.swept (a.same.0 ∙ o.same.0) next skipped gains;
      holds = a.holds;
      drained = subst (λ (n : ℕ). HasDrained (λ f q h. goal.F-step g f q tt h) (image_table (image g at)) (d g at) n first new c.args.on_last.now c.report_last.new.on_last) (sym next)
          (drained_more (λ f q h. goal.F-step g f q tt h) (image_table (image g at)) (d g at) t.next (s g at) answer first old new c.args.on_last.now c.loop-opening.on_last c.report_last.new.on_last i.drained (low g at) (unread g at) (found g at).0 reported gains_here);
      inside = omega (arith, next, inside g at);
      next = omega (arith, next, number, (found g at).2);
      copied = copied.now;
      same_length = copied.same_length ∙ i.same_length;
    }

pub returns-clause-ticket : goal.returns-clause-ticket
returns-clause-ticket g c =
    let image : HeapImage = c.args.self.now.site.guide.now in
    let board = g.D.HasBoard.keeps c.args.self.now.desk.now in
    let t = c.loop-opening.ticket.ticket in
    let i = c.loop-opening.invariant in
    let o = c.in_default.ensures in
    let lawful = subst IsMoveTable (sym (keeps_moves c.args.self.now.redirects c.args.self.now.site.guide.now (g.D.HasBoard.keeps c.args.self.now.desk.now) c.args.self.now.keeps)) (c.moves_of_images.ensures.lawful image c.prefix_end.ensures.valid) in
    let last = subst (λ (m : MoveTable). (s : ℕ) → t.next ≤ s → reads m t.region s ≡ false) (ap moves_of c.board-board.ensures) o.last in
    let none_left = c.swept_tickets_have_none_left.ensures (moves_of board) (caller c.loop-opening.seat.pass) t lawful i.is_ticket i.swept last in
    record {
      region = o.same.0 ∙ i.region ∙ sym c.requires.ticket.region;
      from = o.same.3 ∙ i.claimed;
      claimed = subst (λ (x : Caller). IsTicketOf (moves_of board) x c.open.new.ticket.ticket) (sym o.caller) (o.stays (moves_of board) (caller c.loop-opening.seat.pass) i.is_ticket);
      none_left = o.same.1 ∙ none_left;
    }

-- once no source is left, the other regions from `from` on have no words for the region
unread_last : (g : _) (c : In_default g) (t : ℕ) → c.loop-opening.from ≤ t → t < region_count c.args.self.now.site.guide.now → image_reads c.args.self.now.site.guide.now c.args.self.now.site.region t ≡ false
unread_last g c q l k =
    let site = c.args.self.now.site in
    let image : HeapImage = site.guide.now in
    let valid : IsValid image = c.prefix_end.ensures.valid in
    let law = c.moves_of_images.ensures.reads image valid in
    let t = c.loop-opening.ticket.ticket in
    let i = c.loop-opening.invariant in
    let next = i.next in
    let same = ap moves_of c.board-board.ensures ∙ keeps_moves c.args.self.now.redirects image (g.D.HasBoard.keeps c.args.self.now.desk.now) c.args.self.now.keeps in
    let past = last_sources_past image valid law (moves_of c.board-board.result.now) same site.region t.region i.region t.next c.in_default.ensures.last in
    unread_above site.region q (reads (image_table image) site.region q) (image_reads image site.region q) (law site.region q) (omega arith) (past q (omega arith))

pub finish-requires-clause-last : goal.finish-requires-clause-last
finish-requires-clause-last g c = unread_last g (goal.at.finish-requires-clause-last g c).In_default

pub finish-requires-clause-slid : goal.finish-requires-clause-slid
finish-requires-clause-slid g c =
    let site = c.args.self.now.site in
    let image : HeapImage = site.guide.now in
    let held = original_words (g.D.HasBoard.keeps c.args.self.now.desk.now) in
    let i = c.loop-opening.invariant in
    let next = i.next in
    let after_prefix : prefix_end image ≤ start_of image site.region = omega (arith, site.start) in
    let shows = written_to-last c.plan_laws.ensures image c.prefix_end.ensures.valid held site.region c.loop-opening.from c.loop-opening.to c.loop-opening.words after_prefix (omega arith) (omega (arith, i.inside, site.inside))
    (unread_last g (goal.at.finish-requires-clause-slid g c).In_default) i.copied.place i.copied.block i.copied.split in
    subst (λ (n : ℕ). Shows (slid_word image held) n c.loop-opening.words) (sym site.start) shows

pub returns-clause-drained : goal.returns-clause-drained
returns-clause-drained g c =
    let image : HeapImage = c.args.self.now.site.guide.now in
    let valid : IsValid image = c.prefix_end.ensures.valid in
    let t = c.loop-opening.ticket.ticket in
    let i = c.loop-opening.invariant in
    let same = ap moves_of c.board-board.ensures ∙ keeps_moves c.args.self.now.redirects c.args.self.now.site.guide.now (g.D.HasBoard.keeps c.args.self.now.desk.now) c.args.self.now.keeps in
    let past = last_sources_past image valid (c.moves_of_images.ensures.reads image valid) (moves_of c.board-board.result.now) same c.args.self.now.site.region t.region i.region t.next c.in_default.ensures.last in
    subst (λ (x : Caller). HasDrained (λ f s h. goal.F-step g f s tt h) (image_table image) c.args.self.now.site.region (region_count image) (caller c.args.seat.now.pass) x c.args.on_last.now c.loop-opening.on_last) (sym c.in_default.ensures.caller)
    (drained_all (λ f s h. goal.F-step g f s tt h) (image_table image) c.args.self.now.site.region t.next (region_count image) (caller c.args.seat.now.pass) (caller c.loop-opening.seat.pass) c.args.on_last.now c.loop-opening.on_last i.drained i.inside past)

pub returns-then-self-prefix_end-clause-drained : goal.returns-then-self-prefix_end-clause-drained
returns-then-self-prefix_end-clause-drained g c =
    let site = c.args.self.now.site in
    undrained (λ f s h. goal.F-step g f s tt h) (image_table site.guide.now) site.region (region_count site.guide.now) (caller c.args.seat.now.pass) (caller c.args.seat.now.pass) c.args.on_last.now c.fill_in_prefix.ensures.no_source refl

pub drain-answer-requires-clause-ticket : goal.drain-answer-requires-clause-ticket
drain-answer-requires-clause-ticket g c =
    let board = moves_of (g.D.HasBoard.keeps c.args.self.now.desk.now) in
    let o = c.in-Some.ensures in
    subst (λ (x : Caller). IsTicketOf board x c.open.new.ticket.ticket) (sym o.caller) (o.stays board (caller c.loop-opening.seat.pass) c.loop-opening.invariant.is_ticket)

pub drain-answer-requires-clause-closed : goal.drain-answer-requires-clause-closed
drain-answer-requires-clause-closed g c =
    let m = moves_of (g.D.HasBoard.keeps c.args.self.now.desk.now) in
    let o = c.in-Some.ensures in
    let pair = c.close.ensures.pair in
    let from : c.close.result.ticket.value ≡ c.open.new.ticket.ticket = ap (λ x. x.value) c.close.ensures.from ∙ o.from in
    let opening = o.owner (caller c.loop-opening.seat.pass) (subst (λ (n : MoveTable). IsTicketOf n (caller c.loop-opening.seat.pass) c.loop-opening.ticket.ticket) (sym (ap moves_of c.board-board.ensures)) c.loop-opening.invariant.is_ticket) in
    let here = subst (λ (x : Caller). IsOpeningOf m x c.in-Some.opening) (sym o.caller) (subst (λ (n : MoveTable). IsOpeningOf n (caller c.loop-opening.seat.pass) c.in-Some.opening) (ap moves_of c.board-board.ensures) opening) in
    let next = o.next in
    record {
      board = ap ticket_board from;
      worker = ap ticket_claimant from;
      destination = pair.0 ∙ o.reads.0 ∙ sym o.same.0;
      opened = omega (arith, pair.1);
      undrained = ap (λ r. is_pending m (own (caller c.open.new.pass)) r c.close.result.source) pair.0 ∙ ap (is_pending m (own (caller c.open.new.pass)) c.in-Some.opening.destination) pair.1 ∙ here.1;
    }
