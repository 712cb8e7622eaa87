use Rattle.std.proofs.Common.{◌+◌, ◌-◌, ◌*◌, ◌<◌, length, subst}
use Rattle.std.specs.Prelude.{slice_range}
use Rattle.std.specs.Option.{MatchOption}
use Rattle.core.specs.Array.{IsFirstChunk}
use Rattle.raw_region.proofs.Lemmas.Words.{fits-part, length-eight, word_read}
use Rattle.raw_region.proofs.room.word_at.Goals as goal

pub returns : goal.returns
returns c =
    let o = 8 * c.args.i in let bytes = c.args.bytes.now in let part = slice_range bytes o (o + 8) in
    let first : IsFirstChunk part c.unwrap.result.now 8 = subst (λ found. MatchOption found (length part < 8) (λ y. IsFirstChunk part y.now 8)) c.unwrap.ensures c.first_chunk.ensures.cases in
    word_read part c.unwrap.result.now c.from_le_bytes.result (length-eight bytes o c.requires) (fits-part bytes o (o + 8 - o) (λ j. (c.type_inv.bytes j).fits)) first.same c.from_le_bytes.ensures
