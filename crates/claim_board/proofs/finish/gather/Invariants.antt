use Rattle.std.proofs.Common.{◌≡◌, List, ◌++◌, vec_len}
use Rattle.claim_board.specs.declared.pass.Pass.{Pass}
use Rattle.claim_board.specs.Boards.{AllOf, AllBare, Covers}
use Rattle.claim_board.proofs.finish.gather.Given as goal

abbrev pub invariant-loop-pass : goal.invariant-loop-pass
invariant-loop-pass l =
    (l.place.table_id ≡ l.words.table_id)
    × AllOf l.words.table_id l.passes.items
    × AllBare l.passes.items
    × ((popped : List Pass) × (l.fn.passes.items ≡ l.passes.items ++ popped) × Covers l.words.key.workers l.place.me.0.holds popped)

abbrev pub decreases-loop-pass : goal.decreases-loop-pass
decreases-loop-pass l = vec_len l.passes
