use Rattle.std.proofs.Common.{ap, ◌∙◌}
use Rattle.std.specs.Mem.Slots.{slots_items, slots_filled}
use Rattle.claim_board.specs.Unions.{left_in}
use Rattle.claim_board.proofs.Lemmas.Emptying.{left_value, left_set}
use Rattle.claim_board.proofs.regions.slot_values.ClosedOptionHoldingGlobalSlotValues.take_slot.Goals as goal

pub returns-clause-value : goal.returns-clause-value
returns-clause-value c = left_value (slots_items c.args.self.now.slots) (slots_filled c.args.self.now.slots) c.args.slot c.take.result c.take.ensures.value c.requires

pub returns-clause-items : goal.returns-clause-items
returns-clause-items c =
    let o = c.take.ensures.others in
    ap (λ xs. left_in xs (slots_filled c.take.new.self.slots)) o.0 ∙ (ap (left_in (slots_items c.args.self.now.slots)) o.1 ∙ left_set (slots_items c.args.self.now.slots) (slots_filled c.args.self.now.slots) c.args.slot)
