use Rattle.std.proofs.Common.{◌≡◌, ◌+◌, ◌≤◌, ◌<◌, inl, inr, get_or, ap, subst, sym, arith}
use Rattle.std.proofs.lemmas.Bool.{cases_lt}
use Rattle.object_heap.specs.HeapImage.{size_at}
use Rattle.plain_compaction.proofs.Lemmas.Origins.{origin-found, origin-missed}
use Rattle.plain_compaction.proofs.plainly.origin.Goals as goal
use Rattle.plain_compaction.proofs.plainly.origin.Goals.{else-place-p-via-then-place-p+else-p-place, else-place-p-via-else-place-p}

pub returns-then-p-place-clause-value : goal.returns-then-p-place-clause-value
returns-then-p-place-clause-value c =
    let size = c.size_at.ensures.value in
    let from = c.if-place-p.true in
    let below = c.if-p-place.true in
    origin-found c.plan_laws.ensures c.args.image.now c.live-a-items.ensures.valid.live_list c.args.places.now c.live-a-items.result.now c.requires c.live-a-items.ensures.value c.loop-i.i c.args.p c.loop-i-test.true from (omega arith)

pub returns-clause-value : goal.returns-clause-value
returns-clause-value c =
    let all = c.loop-i-test.false in
    origin-missed c.plan_laws.ensures c.args.image.now c.live-a-items.ensures.valid.live_list c.args.places.now c.live-a-items.result.now c.requires c.live-a-items.ensures.value c.args.p (λ k l. c.loop-i.invariant k (omega arith))

pub returns-clause-nowhere : goal.returns-clause-nowhere
returns-clause-nowhere c =
    let all = c.loop-i-test.false in
    let image = c.args.image.now in
    let live_list = c.live-a-items.ensures.valid.live_list in
    λ below. c.plan_laws.ensures.nowhere-in_prefix image live_list c.args.p below (sym (origin-missed c.plan_laws.ensures image live_list c.args.places.now c.live-a-items.result.now c.requires c.live-a-items.ensures.value c.args.p (λ k l. c.loop-i.invariant k (omega arith))))

pub loop-i-preserved : goal.loop-i-preserved
loop-i-preserved c = λ k l from below.
    let image = c.args.image.now in
    let places = c.args.places.now in
    let i = c.loop-i.i in
    let same = ap (λ xs. size_at image (get_or xs i 0)) c.live-a-items.ensures.value in
    elim (cases_lt k i) [
      | inl before ↦ c.loop-i.invariant k before from below
      | inr at ↦
          let last : k ≡ i = omega arith in
          let low : get_or places i 0 ≤ c.args.p = subst (λ n. get_or places n 0 ≤ c.args.p) last from in
          let high : c.args.p < get_or places i 0 + size_at image (get_or image.live i 0) = subst (λ n. c.args.p < get_or places n 0 + size_at image (get_or image.live n 0)) last below in
          elim c.else-place-p.branch [
            | else-place-p-via-then-place-p+else-p-place w ↦ let size = w.size_at.ensures.value in let no = w.if-p-place.false in omega arith
            | else-place-p-via-else-place-p w ↦ let no = w.if-place-p.false in omega arith
          ]
    ]
