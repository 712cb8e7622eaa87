use Rattle.std.proofs.Common.{◌≡◌, subst, rules}
use Rattle.std.specs.Prelude.{slice_index_or}
use Rattle.scheduler.specs.MoveTable.{MoveTable}
use Rattle.scheduler.specs.MoveIndex.{IsIndexed}
use Rattle.scheduler.specs.declared.moves.readers.Readers.TheVariants.{Nobody}
use Rattle.scheduler.proofs.Lemmas.Indexes.{entry_are}
use Rattle.scheduler.proofs.moves.indexed_moves.IndexedMoves.readers_of.Goals as goal

pub returns : goal.returns
returns c =
    let kept : IsIndexed c.args.self.now c.self.inside.first.items c.self.inside.readers.items = subst (λ (m : MoveTable). IsIndexed m c.self.inside.first.items c.self.inside.readers.items) c.self.view_is c.self.invariant in
    let entry : c.unwrap_or.result ≡ slice_index_or c.self.inside.readers.items c.args.source Nobody = search rules in
    rw entry (entry_are c.args.self.now c.args.source c.self.inside.first.items c.self.inside.readers.items kept)
