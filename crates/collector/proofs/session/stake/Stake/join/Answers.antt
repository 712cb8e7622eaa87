use Rattle.std.proofs.Common.{◌+◌, sym, subst, arith}
use Rattle.read_shares.specs.declared.share.ReadShare.{ReadShare}
use Rattle.collector.specs.Stakes.{IsStake}
use Rattle.collector.proofs.session.stake.Stake.join.Goals as goal

pub returns : goal.returns
returns c = λ id n own other.
    let mine = c.args.self.now in
    subst (λ (session : ReadShare _). IsStake id (n + 1) session mine.pass mine.lead) (sym c.join.ensures) (record {
      origin = own.origin;
      parts = omega (arith, own.parts, other.parts);
      there = own.there;
      heap = own.heap;
      queues = own.queues;
      seated = own.seated;
      rests = own.rests;
      led = own.led;
    })
