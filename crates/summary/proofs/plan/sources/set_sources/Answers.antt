use Rattle.std.proofs.Common.{◌≡◌, ◌∙◌, ap, arith}
use Rattle.std.specs.Prelude.{Some}
use Rattle.object_heap.specs.HeapImage.{region_count}
use Rattle.summary.specs.declared.region_data.RegionData.{RegionData}
use Rattle.summary.proofs.Lemmas.Telling.{told_first, told_none, told_one, told_last}
use Rattle.summary.proofs.plan.sources.set_sources.Goals as goal
use Rattle.summary.proofs.plan.sources.set_sources.Goals.{in-Some, in_default}

pub loop-s-init : goal.loop-s-init
loop-s-init c = told_first c.args.image.now c.regions-s-end.ensures.valid c.args.regions.now c.requires.regions

pub loop-s-preserved : goal.loop-s-preserved
loop-s-preserved c =
    let image = c.args.image.now in
    let valid = c.regions-s-end.ensures.valid in
    elim c.match-started_by.branch [
      | in-Some w ↦
          let starts = w.in-Some.ensures in
          rw w.regions-is (told_one image valid c.loop-s.s w.in-Some.d c.loop-s.regions _ starts (w.set_source.ensures ∙ ap (λ (k : RegionData). record k { source = Some c.loop-s.s }) (c.loop-s.invariant.1 w.in-Some.d _ starts.inside)) c.loop-s.invariant)
      | in_default w ↦ rw w.regions-is (told_none image valid c.loop-s.s c.loop-s.regions w.in_default.ensures c.loop-s.invariant)
    ]

pub returns : goal.returns
returns c =
    let all : c.loop-s.s ≡ region_count c.args.image.now = let is = c.regions-s-end.ensures.value in let up = c.loop-s.auto.s-end in let down = c.loop-s-test.false in omega arith in
    told_last c.args.image.now c.regions-s-end.ensures.valid c.loop-s.s c.loop-s.regions all c.loop-s.invariant
