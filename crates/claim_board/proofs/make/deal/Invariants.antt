use Rattle.std.proofs.Common.{◌≡◌, ◌+◌, ◌-◌, ◌≤◌, suc, [], vec_len}
use Rattle.std.specs.Vec.{vec_capacity}
use Rattle.claim_board.specs.Views.{fresh}
use Rattle.claim_board.specs.Boards.{ArePasses, AllBare}
use Rattle.claim_board.proofs.make.deal.Given as goal

abbrev pub invariant-loop : goal.invariant-loop
invariant-loop l =
    (l.place.table_id ≡ l.words.table_id)
    × (l.place.me ≡ (record { note = []; holds = fresh (vec_len l.passes) (suc (l.workers - l.counter)) }, []))
    × (vec_len l.passes + 1 ≡ l.counter)
    × (l.workers ≤ vec_capacity l.passes)
    × ArePasses l.words.table_id l.passes.items
    × AllBare l.passes.items
