use Rattle.std.proofs.Common.{◌≡◌, ℕ, ◌+◌, ◌-◌, ◌<◌, ◌≤◌, true, false, ◌∷◌, Some, None, refl, sym, ap, ◌∙◌, subst, arith}
use Rattle.atomic_table.specs.Table.{rest}
use Rattle.scheduler.specs.MoveTable.{MoveTable, reads}
use Rattle.claim_board.specs.declared.regions.holding.Holding.TheVariants.{Share}
use Rattle.claim_board.specs.Holds.{pair_slot, IsReading}
use Rattle.claim_board.specs.Holdings.{words_of, in_region}
use Rattle.claim_board.specs.Slots.{first_of_slot}
use Rattle.claim_board.proofs.Lemmas.Reading.{same_top, is_there, top_is, now_reading}
use Rattle.claim_board.proofs.regions.region_board.RegionBoard.open.Goals as goal

pub overflow_sub-slot-2 : goal.overflow_sub-slot-2
overflow_sub-slot-2 g c =
    let m = c.args.self.now.table.shared.key.moves in
    let t = c.args.ticket.now in
    let e = c.in_ok-opening.ensures in
    let s = c.in_ok-opening.opening.source in
    let has : reads m t.ticket.region s ≡ true = subst (λ (n : MoveTable). reads n t.ticket.region s ≡ true) c.requires.moves e.reads.2 in
    let least : (q : ℕ) → t.ticket.next ≤ q → q < s → reads m t.ticket.region q ≡ false = subst (λ (n : MoveTable). (q : ℕ) → t.ticket.next ≤ q → q < s → reads n t.ticket.region q ≡ false) c.requires.moves e.least in
    let there = is_there c.args.self.now.table.shared.key c.args.self.now.lawful t.ticket.region t.ticket.next t.at c.requires.holds.first s e.reads.1 has least in
    let p = c.args.self.now.placed.pairs in
    omega (arith, there.0)

pub take_share-share-requires-clause-top : goal.take_share-share-requires-clause-top
take_share-share-requires-clause-top g c =
    let k = c.args.self.now.table.shared.key in
    let m = k.moves in
    let t = c.args.ticket.now in
    let e = c.in_ok-opening.ensures in
    let s = c.in_ok-opening.opening.source in
    let h = c.requires.holds in
    let has : reads m t.ticket.region s ≡ true = subst (λ (n : MoveTable). reads n t.ticket.region s ≡ true) c.requires.moves e.reads.2 in
    let least : (q : ℕ) → t.ticket.next ≤ q → q < s → reads m t.ticket.region q ≡ false = subst (λ (n : MoveTable). (q : ℕ) → t.ticket.next ≤ q → q < s → reads n t.ticket.region q ≡ false) c.requires.moves e.least in
    let there = is_there k c.args.self.now.lawful t.ticket.region t.ticket.next t.at h.first s e.reads.1 has least in
    let slot : pair_slot m t.at ≡ c.args.self.now.places.pairs - 1 - t.at = (let p = c.args.self.now.placed.pairs in omega arith) in (
      first_of_slot k (pair_slot m t.at),
      (c.args.self.now.regions.rights t.at there.0).share,
      top_is k c.args.self.now.lawful t.ticket.region t.ticket.next t.at h.first s e.reads.1 has least c.args.pass.now.place.me.1 _ h.held_is
          ∙ ap (λ n. (n, first_of_slot k (pair_slot m t.at)) ∷ rest c.args.pass.now.place.me.1) slot,
    )

pub returns-clause-words : goal.returns-clause-words
returns-clause-words g c =
    let k = c.args.self.now.table.shared.key in
    let m = k.moves in
    let t = c.args.ticket.now in
    let e = c.in_ok-opening.ensures in
    let s = c.in_ok-opening.opening.source in
    let h = c.requires.holds in
    let held = c.args.pass.now.place.me.1 in
    let has : reads m t.ticket.region s ≡ true = subst (λ (n : MoveTable). reads n t.ticket.region s ≡ true) c.requires.moves e.reads.2 in
    let least : (q : ℕ) → t.ticket.next ≤ q → q < s → reads m t.ticket.region q ≡ false = subst (λ (n : MoveTable). (q : ℕ) → t.ticket.next ≤ q → q < s → reads n t.ticket.region q ≡ false) c.requires.moves e.least in
    let there = is_there k c.args.self.now.lawful t.ticket.region t.ticket.next t.at h.first s e.reads.1 has least in
    let top = top_is k c.args.self.now.lawful t.ticket.region t.ticket.next t.at h.first s e.reads.1 has least held _ h.held_is in
    let value = same_top (Some (Share c.take_share-share.result)) (first_of_slot k (pair_slot m t.at)) (c.args.self.now.places.pairs - 1 - t.at) (pair_slot m t.at) (rest held) (rest held) (sym c.take_share-share.ensures.value ∙ top) in
    ap words_of value ∙ ((c.args.self.now.regions.rights t.at there.0).words ∙ ap (λ q. words_of (in_region m k.values.value.items q)) there.2)

pub returns-clause-holds : goal.returns-clause-holds
returns-clause-holds g c =
    let k = c.args.self.now.table.shared.key in
    let m = k.moves in
    let t = c.args.ticket.now in
    let e = c.in_ok-opening.ensures in
    let s = c.in_ok-opening.opening.source in
    let h = c.requires.holds in
    let held = c.args.pass.now.place.me.1 in
    let x = Some (Share c.take_share-share.result) in
    let has : reads m t.ticket.region s ≡ true = subst (λ (n : MoveTable). reads n t.ticket.region s ≡ true) c.requires.moves e.reads.2 in
    let least : (q : ℕ) → t.ticket.next ≤ q → q < s → reads m t.ticket.region q ≡ false = subst (λ (n : MoveTable). (q : ℕ) → t.ticket.next ≤ q → q < s → reads n t.ticket.region q ≡ false) c.requires.moves e.least in
    let slot : c.args.self.now.places.pairs - 1 - t.at ≡ pair_slot m t.at = (let p = c.args.self.now.placed.pairs in omega arith) in
    subst (λ (q : ℕ). IsReading k q s c.open.new.self.next (t.at + 1) x c.take_share-share.new.seat.me.1) (sym e.same.0)
    (now_reading k c.args.self.now.lawful t.ticket.region t.ticket.next t.at h.first s e.reads.1 has least c.open.new.self.next (t.at + 1) held c.take_share-share.new.seat.me.1 x h e.next refl
    (c.take_share-share.ensures.value ∙ ap (λ n. (n, x) ∷ rest held) slot)
    (c.take_share-share.ensures.held ∙ ap (λ n. (n, None) ∷ rest held) slot))
