use Rattle.std.proofs.Common.{◌≡◌, ℕ, ◌+◌, ◌-◌, ◌*◌, ◌/◌, ◌<◌, min, true, sym, ap, ◌∙◌, subst, arith}
use Rattle.std.specs.Prelude.{MatchOption}
use Rattle.std.specs.Option.{unwrap_or}
use Rattle.std.proofs.lemmas.Bool.{cond-true}
use Rattle.object_heap.specs.Header.{filler_header}
use Rattle.object_heap.specs.Bits.{NoneFrom, IsFirstFrom}
use Rattle.summary.specs.Fillers.{filler_limit, gap_at, may_begin_filler}
use Rattle.history.proofs.Lemmas.Carrying.{filler_end}
use Rattle.object_heap.specs.HeapImage.{HeapImage, heap_words, is_live_word}
use Rattle.history.proofs.machine.origins.filler_word.Goals as goal

pub may_begin_filler-requires : goal.may_begin_filler-requires
may_begin_filler-requires c =
    let valid = c.prefix_end-prefix_end.ensures.valid in
    let low = c.plan_laws.ensures.top-above c.args.plan.now valid.live_list in
    let top = c.plan_laws.ensures.top-le c.args.plan.now valid.live_list in
    let inside = c.requires.inside in
    let same : heap_words c.args.marks.now ≡ heap_words c.args.plan.now = ap (λ (i : HeapImage). heap_words i) c.requires.same in
    omega arith

pub filler_limit-limit-requires : goal.filler_limit-limit-requires
filler_limit-limit-requires c =
    let valid = c.prefix_end-prefix_end.ensures.valid in
    let low = c.plan_laws.ensures.top-above c.args.plan.now valid.live_list in
    let top = c.plan_laws.ensures.top-le c.args.plan.now valid.live_list in
    let inside = c.requires.inside in
    let few = valid.limits.few_words in
    omega arith

pub overflow_cast-end : goal.overflow_cast-end
overflow_cast-end c =
    let near = c.filler_limit-limit.ensures.near in
    let is = c.min-end.ensures in
    omega arith

pub returns : goal.returns
returns c =
    let image = c.args.plan.now in
    let valid = c.prefix_end-prefix_end.ensures.valid in
    let place = c.args.place in
    let limit : ℕ = c.filler_limit-limit.result in
    let inside = c.requires.inside in
    let at = c.prefix_end-prefix_end.ensures.value in
    let is : limit ≡ filler_limit image place = c.filler_limit-limit.ensures.value ∙ ap (λ (n : ℕ). min n ((place / 2147483648 + 1) * 2147483648)) at in
    let above : place < limit = c.filler_limit-limit.ensures.above (omega arith) in
    let next : MatchOption c.next_live.result (NoneFrom (is_live_word image) place) (IsFirstFrom (is_live_word image) place) =
    subst (λ (i : HeapImage). MatchOption c.next_live.result (NoneFrom (is_live_word i) place) (IsFirstFrom (is_live_word i) place)) c.requires.same c.next_live.ensures in
    let gap = filler_end c.plan_laws.ensures image valid place limit c.next_live.result is above c.requires.dead next in
    let end : c.min-end.result ≡ min (unwrap_or c.next_live.result limit) limit = c.min-end.ensures ∙ ap (λ (n : ℕ). min n limit) c.unwrap_or.ensures in
    let first : may_begin_filler image place ≡ true = ap (λ (i : HeapImage). may_begin_filler i place) (sym c.requires.same) ∙ (sym c.may_begin_filler.ensures ∙ c.if-not-may_begin_filler.false) in
    c.filler.ensures ∙ (ap (λ (n : ℕ). filler_header (n - place)) end ∙ (ap filler_header (sym gap) ∙ sym (cond-true (may_begin_filler image place) (filler_header (gap_at image place)) 0 first)))
