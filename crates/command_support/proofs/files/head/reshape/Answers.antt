use Rattle.std.proofs.Common.{arith}
use Rattle.command_support.proofs.Lemmas.Heads.{whole-read}
use Rattle.command_support.proofs.files.head.reshape.Goals as goal

pub returns : goal.returns
returns c =
    whole-read c.args.shape c.args.at c.loop-i.i c.args.piece.now c.loop-i.piece c.loop-i.invariant.long c.loop-i.invariant.done c.loop-i.invariant.rest (λ k other inside.
    let many = c.min-len.ensures in
    let left = c.saturating_sub.ensures in
    let test = c.loop-i-test.false in
    let end = c.loop-i.auto.i-end in
    omega arith)
