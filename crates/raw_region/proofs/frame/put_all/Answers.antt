use Rattle.std.proofs.Common.{◌≡◌, ◌+◌, suc, ◌∷◌, [], ◌++◌, length, sym, ap, subst, ◌∙◌, arith}
use Rattle.std.specs.Prelude.{map}
use Rattle.std.specs.List.{range_with_len}
use Rattle.std.proofs.lemmas.List.FromFn.{length-map-range_with_len, map-range_with_len_more}
use Rattle.raw_region.specs.Cutting.{IsCut}
use Rattle.raw_region.specs.Frame.{place_of, IsRest}
use Rattle.raw_region.proofs.Lemmas.Frames.{rest-of-cut}
use Rattle.raw_region.proofs.frame.put_all.Goals as goal

pub add-requires : goal.add-requires
add-requires c =
    let first = c.args.first in
    let inv = c.loop.invariant in
    omega (arith, c.loop.slots.ok.0, ap length inv.2, length-map-range_with_len (place_of first.root first.size) 0 c.loop.counter, inv.3, c.loop-test.true)

pub loop-preserved : goal.loop-preserved
loop-preserved c =
    let root = c.args.first.root in
    let size = c.args.first.size in
    let k = c.loop.counter in
    let inv = c.loop.invariant in
    let one : suc k ≡ k + 1 = omega arith in
    let part = c.cut-room.result.0 in
    let above = c.cut-room.result.1 in
    let cut : IsCut c.loop.rest size part above = subst (λ m. IsCut c.loop.rest m part above) (c.size.ensures ∙ ap (λ p. p.size) inv.0) c.cut-room.ensures in (
      c.step.ensures ∙ ap (λ p. place_of p.root p.size (p.index + 1)) inv.0,
      subst (λ j. IsRest root size c.args.count j above) one (rest-of-cut root size c.args.count k c.loop.rest part above inv.1 cut),
      c.add.ensures.items
          ∙ ap (λ l. l ++ c.new.result ∷ []) inv.2
          ∙ ap (λ p. map (place_of root size) (range_with_len 0 k) ++ p ∷ []) (c.new.ensures ∙ inv.0)
          ∙ sym (map-range_with_len_more (place_of root size) 0 k k (omega arith)),
      omega (arith, inv.3, c.add.ensures.capacity),
    )
