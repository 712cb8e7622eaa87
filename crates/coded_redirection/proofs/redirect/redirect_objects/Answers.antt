use Rattle.std.proofs.Common.{◌≡◌, ◌∙◌, ℕ, ◌+◌, ◌-◌, ◌≤◌, ◌<◌, inl, inr, Bool, cond, true, false, refl, sym, ap, subst, arith, List, get_or, length}
use Rattle.std.proofs.lemmas.Bool.{cond-true, cond-false, cases_Bool, cases_lt, false_from_ne_true, true≢false}
use Rattle.std.proofs.lemmas.List.{ext_get_or}
use Rattle.std.proofs.lemmas.List.FromFn.{get_or-map-range_with_len, length-map-range_with_len}
use Rattle.object_heap.specs.Bits.{IsFirstFrom, NoneFrom}
use Rattle.object_heap.specs.HeapImage.{HeapImage, HasLiveList, IsValid}
use Rattle.object_heap.specs.Layout.{Coding}
use Rattle.mark_bitmap.specs.Marks.{is_begin}
use Rattle.coded_redirection.specs.References.{is_reference_in, is_planned_reference, redirected_reference, redirected_at, redirected_words}
use Rattle.coded_redirection.proofs.Lemmas.Done.{parts, is_done, begin_below, done_start, done_above, done_one, done_next, done_all, same_header}
use Rattle.coded_redirection.proofs.redirect.redirect_objects.Goals as goal

-- once no object begins before the end of the words, all is redirected
whole : (image : HeapImage) (code : Coding) (dead first : ℕ) (words now : List ℕ) → length now ≡ length words
    → ((i : ℕ) → i < length words → get_or now i 0 ≡ cond (is_planned_reference image code first words (first + i)) (redirected_reference image code dead (get_or words i 0)) (get_or words i 0))
    → now ≡ redirected_words image code first words dead
whole image code dead first words now long each =
    let f = redirected_at image code first words dead in
    ext_get_or 0 now (redirected_words image code first words dead) (long ∙ sym (length-map-range_with_len f 0 (length words)))
    (λ i l. each i (omega (arith, l, long)) ∙ sym (get_or-map-range_with_len f 0 (length words) i i 0 (omega (arith, l, long)) (omega arith)))

pub loop-a-init : goal.loop-a-init
loop-a-init c =
    let image = c.args.survey.now in
    let code = c.args.coding.now in
    let first = c.args.first in
    let words = c.args.words.now in
    let sound = subst HasLiveList c.plan.ensures c.planned_image_is_valid.ensures.live_list in
    record {
      long = refl;
      words = λ i l. sym (cond-false (is_done image code first words first (first + i)) (redirected_reference image code c.args.dead (get_or words i 0)) (get_or words i 0)
          (done_start c.plan_laws.ensures image sound code first words (first + i)));
      low = omega arith;
    }

pub returns-then-a-first : goal.returns-then-a-first
returns-then-a-first c =
    let image = c.args.survey.now in
    let code = c.args.coding.now in
    let first = c.args.first in
    let words = c.args.words.now in
    let sound = subst HasLiveList c.plan.ensures c.planned_image_is_valid.ensures.live_list in
    let next = subst (λ (i : HeapImage). IsFirstFrom (is_begin i) c.loop-a.from c.in-Some.a) c.marks.ensures c.in-Some.ensures in
    let long = c.loop-a.invariant.long in
    let far = c.if-a-first.true in
    whole image code c.args.dead first words c.loop-a.words long
    (λ i l. c.loop-a.invariant.words i l
    ∙ ap (λ (b : Bool). cond b (redirected_reference image code c.args.dead (get_or words i 0)) (get_or words i 0))
    (done_all c.plan_laws.ensures image sound code first words c.loop-a.from (first + i) (λ b up below. next.least b up (omega (arith, below, far, long, l)))))

pub overflow_add-from : goal.overflow_add-from
overflow_add-from c =
    let image = c.args.survey.now in
    let valid = subst IsValid c.plan.ensures c.planned_image_is_valid.ensures in
    let next = subst (λ (i : HeapImage). IsFirstFrom (is_begin i) c.loop-a.from c.in-Some.a) c.marks.ensures c.in-Some.ensures in
    let below = begin_below c.plan_laws.ensures image valid.live_list c.args.coding.now c.args.first c.args.words.now c.in-Some.a next.passes in
    let few = valid.limits.few_words in
    record { fits = omega (arith, below, few) }

pub loop-a-preserved : goal.loop-a-preserved
loop-a-preserved c =
    let image = c.args.survey.now in
    let code = c.args.coding.now in
    let first = c.args.first in
    let words = c.args.words.now in
    let now = c.loop-a.words in
    let from = c.loop-a.from in
    let a = c.in-Some.a in
    let laws = c.plan_laws.ensures in
    let sound = subst HasLiveList c.plan.ensures c.planned_image_is_valid.ensures.live_list in
    let next = subst (λ (i : HeapImage). IsFirstFrom (is_begin i) from a) c.marks.ensures c.in-Some.ensures in
    let behind = next.behind in
    let low = c.loop-a.invariant.low in
    let long = c.loop-a.invariant.long in
    let near = c.if-a-first.false in
    let wrote = c.redirect_object.ensures in
    let at : first + (a - first) ≡ a = omega (arith, low, behind) in
    let header : get_or now (a - first) 0 ≡ get_or words (a - first) 0
    = c.loop-a.invariant.words (a - first) (omega (arith, near, long))
    ∙ cond-false (is_done image code first words from (first + (a - first))) _ _ (done_above laws image sound code first words from a (first + (a - first)) next.passes behind (omega (arith, at))) in
    record {
      long = wrote.length ∙ long;
      words = λ i l.
          let q : ℕ = first + i in
          let old : ℕ = get_or words i 0 in
          let target : ℕ → ℕ = redirected_reference image code c.args.dead in
          let same = same_header image code first now words a q header in
          elim (cases_Bool (is_reference_in image code first words a q)) [
            | inl is ↦
                let up = (parts image code first words a q is).1 in
                let untouched = c.loop-a.invariant.words i l ∙ cond-false (is_done image code first words from q) (target old) old (done_above laws image sound code first words from a q next.passes behind (omega (arith, up))) in
                wrote.words i (omega (arith, l, long))
                ∙ cond-true (is_reference_in image code first now a q) (target (get_or now i 0)) (get_or now i 0) (same ∙ is)
                ∙ ap target untouched
                ∙ sym (cond-true (is_done image code first words (a + 1) q) (target old) old (done_one laws image sound code first words a q next.passes is))
            | inr other ↦ wrote.words i (omega (arith, l, long))
                ∙ cond-false (is_reference_in image code first now a q) (target (get_or now i 0)) (get_or now i 0) (same ∙ other)
                ∙ c.loop-a.invariant.words i l
                ∙ ap (λ (b : Bool). cond b (target old) old) (sym (done_next laws image sound code first words from a q behind next.least other))
          ];
      low = omega (arith, low, behind);
    }

pub returns : goal.returns
returns c =
    let image = c.args.survey.now in
    let code = c.args.coding.now in
    let first = c.args.first in
    let words = c.args.words.now in
    let sound = subst HasLiveList c.plan.ensures c.planned_image_is_valid.ensures.live_list in
    let none = subst (λ (i : HeapImage). NoneFrom (is_begin i) c.loop-a.from) c.marks.ensures c.in_default.ensures in
    whole image code c.args.dead first words c.loop-a.words c.loop-a.invariant.long
    (λ i l. c.loop-a.invariant.words i l
    ∙ ap (λ (b : Bool). cond b (redirected_reference image code c.args.dead (get_or words i 0)) (get_or words i 0))
    (done_all c.plan_laws.ensures image sound code first words c.loop-a.from (first + i) (λ b up below. none b up)))
