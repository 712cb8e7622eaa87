use Rattle.std.proofs.Common.{◌<◌, ap, ◌∙◌, sym, subst}
use Rattle.std.specs.Int.{bit_at, w64}
use Rattle.std.proofs.lemmas.Nat.Bits.{bit_at-trailing_zeros}
use Rattle.object_heap.proofs.bits.lowest.Goals as goal

pub returns : goal.returns
returns c =
    let is = bit_at-trailing_zeros w64 c.args.word c.requires c.ranges.word.fits in
    record {
      below = subst (λ n. n < 64) (sym c.from.ensures) is.0;
      set = ap (bit_at c.args.word) c.from.ensures ∙ is.1;
      least = λ j l. is.2 j (subst (λ n. j < n) c.from.ensures l);
    }
