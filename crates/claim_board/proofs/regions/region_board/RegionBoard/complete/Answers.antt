use Rattle.std.proofs.Common.{◌≡◌, ◌+◌, ◌≤◌, ◌∷◌, ℕ, false, None, sym, ap, ◌∙◌}
use Rattle.atomic_table.specs.Table.{rest}
use Rattle.scheduler.specs.MoveTable.{reads}
use Rattle.scheduler.specs.History.{state_of}
use Rattle.claim_board.specs.Views.{mine_of}
use Rattle.claim_board.proofs.Lemmas.Reading.{unread, region_left}
use Rattle.claim_board.proofs.regions.region_board.RegionBoard.complete.Goals as goal

pub put-requires-clause-top : goal.put-requires-clause-top
put-requires-clause-top c =
    let k = c.args.self.now.table.shared.key in
    let t = c.args.ticket in
    let own = state_of (mine_of c.args.pass.now.place.me.0) in
    let h = c.requires.holds in
    let none : (s : ℕ) → t.ticket.next ≤ s → reads k.moves t.ticket.region s ≡ false = λ s low. unread k.moves (own.drained t.ticket.region s) t.ticket.region s
    ((c.how_counts_go_down.ensures k.moves own c.args.self.now.lawful).no_source t.ticket.region s (sym c.requires.ticket.left ∙ c.requires.none_left)) (c.requires.ticket.ahead s low) in
    region_left k c.args.self.now.lawful t.ticket.region t.ticket.next t.at h.first c.args.pass.now.place.me.1 h none
    ∙ ap (λ n. (n + t.ticket.region, None) ∷ rest c.args.pass.now.place.me.1) (sym c.args.self.now.placed.pairs)
