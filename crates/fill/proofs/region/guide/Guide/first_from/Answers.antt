use Rattle.std.proofs.Common.{◌≡◌, ◌+◌, ◌-◌, ◌≤◌, ◌<◌, ℕ, inl, inr, sym, ◌∙◌, ap, arith}
use Rattle.std.proofs.lemmas.Bool.{cases_lt}
use Rattle.object_heap.specs.HeapImage.{region_words, start_of}
use Rattle.summary.specs.WordMoves.{slid}
use Rattle.fill.proofs.Lemmas.Slides.{slid-gap, slid-run}
use Rattle.fill.proofs.region.guide.Guide.first_from.Goals as goal

pub loop-place-smaller : goal.loop-place-smaller
loop-place-smaller c =
    let image = c.args.self.now in
    let h = c.loop-place.invariant in
    let r = c.next_run-run.ensures in
    let b : ℕ = c.next_run-run.result.begin in
    let far : c.loop-place.at ≤ b = r.after in
    let low = c.requires.region.after_prefix in
    let begin = c.span-span.ensures.start in
    let high = c.requires.high in
    let end : slid image c.span-span.result.end ≡ slid image (start_of image c.args.r + region_words image) = ap (slid image) c.span-span.ensures.end in
    let behind : c.span-span.result.start ≤ c.loop-place.at = h.after in
    let still = slid-gap c.plan_laws.ensures image c.loop-place.at b (omega arith) far r.dead in
    elim (cases_lt b c.span-span.result.end) [
      | inl less ↦ let some : b < c.next_run-run.result.end = r.some less in omega arith
      | inr more ↦
          let on : b ≤ c.next_run-run.result.end = r.ordered in
          let up : c.next_run-run.result.end ≤ c.span-span.result.end = r.within in
          let all : b ≡ c.span-span.result.end = omega arith in
          let same : slid image b ≡ slid image c.span-span.result.end = ap (slid image) all in
          let no : ⊥ = omega arith in absurd no
    ]

pub loop-place-preserved : goal.loop-place-preserved
loop-place-preserved c =
    let image = c.args.self.now in
    let h = c.loop-place.invariant in
    let r = c.next_run-run.ensures in
    let n : ℕ = c.min-n.result in
    let a : ℕ = c.next_run-run.result.begin in
    let over : n ≤ c.next_run-run.result.end - a = omega arith in
    let fits : n ≤ c.args.to - c.loop-place.place = omega arith in
    let up : c.next_run-run.result.end ≤ c.span-span.result.end = r.within in
    let on : a ≤ c.next_run-run.result.end = r.ordered in
    let far : c.loop-place.at ≤ a = r.after in
    let low = c.requires.region.after_prefix in
    let begin = c.span-span.ensures.start in
    let behind : c.span-span.result.start ≤ c.loop-place.at = h.after in
    let still = slid-gap c.plan_laws.ensures image c.loop-place.at a (omega arith) far r.dead in
    let on_run = slid-run c.plan_laws.ensures image a n (omega arith) (λ q l m. (let below : q < c.next_run-run.result.end = omega arith in r.live q l below)) in
    record { after = omega arith; inside = omega arith; place = omega arith; low = omega arith }

pub loop-place-init : goal.loop-place-init
loop-place-init c =
    let image = c.args.self.now in
    record {
      after = omega arith;
      inside = omega (arith, c.span-span.ensures.start, c.span-span.ensures.end);
      place = c.destination-place.ensures ∙ ap (slid image) (sym c.span-span.ensures.start);
      low = omega (arith, c.destination-place.ensures, c.requires.low);
    }
