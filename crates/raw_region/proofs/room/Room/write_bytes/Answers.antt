use Rattle.std.proofs.Common.{◌+◌, ap, ◌∙◌}
use Rattle.std.specs.List.{flat_map}
use Rattle.std.specs.Int.{w64, to_le_bytes}
use Rattle.raw_region.proofs.Lemmas.Words.{words_read}
use Rattle.raw_region.proofs.room.Room.write_bytes.Goals as goal

pub loop-i-preserved : goal.loop-i-preserved
loop-i-preserved c =
    let inv = c.loop-i.invariant in let put = c.put-filling.ensures in (
      put.room ∙ inv.0,
      put.done ∙ ap (λ k. k + 1) inv.1,
      ap (flat_map (to_le_bytes w64)) put.words ∙ words_read c.loop-i.filling.words c.args.bytes.now c.word_at.result c.loop-i.i inv.2 c.word_at.ensures,
    )
