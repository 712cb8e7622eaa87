use Rattle.std.proofs.Common.{arith}
use Rattle.heap_marking.proofs.Lemmas.Exchanges.{exchanged_more, exchanged_all}
use Rattle.heap_marking.proofs.marking.rounds.exchange.Goals as goal

pub loop-k-preserved : goal.loop-k-preserved
loop-k-preserved c = record {
  exchanged = exchanged_more c.loop-k.k c.args.parts.now c.loop-k.parts c.args.sent.now c.loop-k.sent c.index-parts-k.result c.swap_out.new.part c.index-sent-k.result c.swap_out.new.row
      c.loop-k-test.true c.requires c.swap_out.ensures c.loop-k.invariant.exchanged;
}

pub returns : goal.returns
returns c = exchanged_all c.loop-k.k c.args.parts.now c.loop-k.parts c.args.sent.now c.loop-k.sent (omega (arith, c.loop-k-test.false)) c.loop-k.invariant.exchanged
