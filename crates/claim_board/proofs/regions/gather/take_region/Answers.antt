use Rattle.std.proofs.Common.{◌+◌, ◌∷◌, ◌++◌, [], None, ap, ◌∙◌}
use Rattle.atomic_table.specs.Table.{rest}
use Rattle.claim_board.specs.Slots.{region_slot}
use Rattle.claim_board.proofs.regions.gather.take_region.Goals as goal

pub take_readers-requires-clause-held : goal.take_readers-requires-clause-held
take_readers-requires-clause-held c =
    let k = c.args.words.now.key in (
      (region_slot k.moves c.args.region, None) ∷ [],
      c.take_original-deed.ensures.held ∙ (ap (λ n. rest c.args.seat.now.me.1 ++ (n + c.args.region, None) ∷ []) c.requires.places.pairs ∙ ap (λ xs. rest xs ++ (region_slot k.moves c.args.region, None) ∷ []) c.requires.held),
    )
