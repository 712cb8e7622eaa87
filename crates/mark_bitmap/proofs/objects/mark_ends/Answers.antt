use Rattle.std.proofs.Common.{◌≡◌, ℕ, ◌+◌, ◌*◌, ◌/◌, ◌<◌, ◌||◌, Bool, length, take, drop, refl, ap, ◌∙◌, sym, eqb, arith}
use Rattle.std.specs.List.{list_any}
use Rattle.std.proofs.Math.Seq.{take-add}
use Rattle.std.proofs.lemmas.List.Folds.{list_any-append}
use Rattle.object_heap.specs.HeapImage.{HeapImage, end_of}
use Rattle.mark_bitmap.proofs.Lemmas.PartBits.{none_set, none_ends_before, those_before_end}
use Rattle.mark_bitmap.proofs.objects.mark_ends.Goals as goal

pub loop-piece-init : goal.loop-piece-init
loop-piece-init c = (
  refl,
  (λ k inside.
      let image : HeapImage = c.args.image.now in
      none_set c.args.ends.now c.requires.no_ends k
      ∙ sym (none_ends_before image c.requires.valid (64 * c.args.start) c.first_from.result (64 * (c.saturating_sub-first.result / 64)) (64 * c.args.start + k + 1) c.first_from.ensures (omega (arith, c.saturating_sub-first.ensures)) (omega arith))),
)

pub loop-piece-preserved : goal.loop-piece-preserved
loop-piece-preserved c = (
  c.mark_ends_of.ensures.room ∙ c.loop-piece.invariant.0,
  (λ k inside.
      let image : HeapImage = c.args.image.now in
      let p : ℕ = 64 * c.loop-piece.piece in
      let next : 64 * (c.loop-piece.piece + 1) ≡ p + 64 = omega arith in
      let ends : ℕ → Bool = λ a. eqb (end_of image a) (64 * c.args.start + k + 1) in
      c.mark_ends_of.ensures.bits k (omega (arith, c.loop-piece.invariant.0, inside))
      ∙ ap (λ b. b || list_any ends (take 64 (drop p image.live))) (c.loop-piece.invariant.1 k inside)
      ∙ sym (list_any-append ends (take p image.live) (take 64 (drop p image.live)))
      ∙ ap (list_any ends) (sym (take-add p 64 image.live))
      ∙ ap (λ n. list_any ends (take n image.live)) (sym next)),
)

pub returns-clause-bits : goal.returns-clause-bits
returns-clause-bits c = λ k inside.
    let image : HeapImage = c.args.image.now in
    let here : k < 64 * length c.args.ends.now = omega (arith, c.loop-piece.invariant.0, inside) in
    c.loop-piece.invariant.1 k here
    ∙ those_before_end image c.requires.valid (64 * (c.args.start + length c.args.ends.now)) c.first_from-behind.result (64 * c.loop-piece.piece) (64 * c.args.start + k + 1) c.first_from-behind.ensures (omega (arith, c.loop-piece-test.false, c.div_ceil-piece-end.ensures)) (omega arith)
