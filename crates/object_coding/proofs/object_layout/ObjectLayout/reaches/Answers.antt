use Rattle.std.proofs.Common.{◌+◌, ◌*◌, ◌%◌, ◌^◌, sym, ◌∙◌, ap, arith, leb, ◌&&◌, mul_comm}
use Rattle.std.proofs.lemmas.Bool.{lt-ltb}
use Rattle.std.proofs.lemmas.Nat.{shl_whole}
use Rattle.object_coding.specs.LayoutFault.{reaches}
use Rattle.object_coding.proofs.object_layout.ObjectLayout.reaches.Goals as goal

pub returns-then-self-lt64 : goal.returns-then-self-lt64
unfolding reaches
returns-then-self-lt64 c =
    let layout = c.args.self.now in
    let unit_low = c.if-self-lt64.true in
    let whole = shl_whole c.args.words 37 layout.unit 128 (let few = c.requires in omega arith) (omega arith) in
    ap (λ n. leb (n + c.from-then-self-lt64.result * 2 ^ layout.unit % 340282366920938463463374607431768211456) 18446744073709551616) c.from.ensures
    ∙ ap (λ n. leb (layout.base + n * 2 ^ layout.unit % 340282366920938463463374607431768211456) 18446744073709551616) c.from-then-self-lt64.ensures
    ∙ ap (λ n. leb (layout.base + n) 18446744073709551616) (whole ∙ mul_comm c.args.words (2 ^ layout.unit))
    ∙ sym (ap (λ low. low && leb (layout.base + 2 ^ layout.unit * c.args.words) 18446744073709551616) (lt-ltb layout.unit 64 unit_low))
