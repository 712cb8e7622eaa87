use Rattle.std.proofs.Common.{◌≡◌, ◌-◌, ◌∷◌, length, sym, ap, ◌∙◌, arith}
use Rattle.std.proofs.lemmas.Bool.{eqb-true}
use Rattle.claim_board.specs.Slots.{region_slot, slots, first_of_slot, taken, touches}
use Rattle.claim_board.proofs.Lemmas.Held.{claim_holds}
use Rattle.claim_board.proofs.regions.region_board.RegionBoard.claim.Goals as goal

pub take_region-whole-requires-clause-held : goal.take_region-whole-requires-clause-held
take_region-whole-requires-clause-held c =
    let k = c.args.self.now.table.shared.key in
    let r = c.args.region in
    let moved = c.in_ok-ticket.ensures.moves_slots in
    let all : length k.moves.pairs ≡ length k.moves.pairs - 0 = omega arith in
    claim_holds k.moves (first_of_slot k) r (slots k) moved.0 c.args.pass.now.place.me.1 c.claim.new.pass.place.me.1 c.requires.bare moved.2 (eqb-true moved.0 0 (sym moved.1)) c.args.self.now.slotted.1 c.requires.region
    ∙ ap (λ n. (region_slot k.moves r, first_of_slot k (region_slot k.moves r)) ∷ taken (first_of_slot k) (touches k.moves r) n) all
