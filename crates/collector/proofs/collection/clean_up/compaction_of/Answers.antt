use Rattle.std.proofs.Common.{◌≡◌, ◌++◌, ℕ, List, length, drop, take, ap, sym, ◌∙◌, subst, arith}
use Rattle.std.proofs.Math.Seq.{take-append_seam}
use Rattle.std.specs.Prelude.{map, option_map}
use Rattle.std.specs.List.{concat}
use Rattle.object_heap.specs.HeapImage.{HeapImage, IsValid, AreBlocks, versioned_image_of}
use Rattle.summary.specs.NewAddresses.{new_address, new_top}
use Rattle.summary.specs.Compaction.{compact, redirected}
use Rattle.fill.specs.MovedHeap.{cleared}
use Rattle.collector.proofs.collection.clean_up.compaction_of.Goals as goal

-- a vector whose items are all replaced
all_new : {X : Type 0} (n : ℕ) (new old : List X) → length new ≡ n → take n (new ++ drop (length new) old) ≡ new
all_new n new old e = ap (λ k. take k (new ++ drop (length new) old)) (sym e) ∙ take-append_seam new (drop (length new) old)

-- two images alike in every part
same_image : (x y : HeapImage) → x.layout ≡ y.layout → x.version ≡ y.version → x.region_log ≡ y.region_log → x.allowance ≡ y.allowance → x.words ≡ y.words → x.live ≡ y.live → x.roots ≡ y.roots → x ≡ y
same_image x y l v a b c d e = λ i. record { version = v i; layout = l i; region_log = a i; allowance = b i; words = c i; live = d i; roots = e i }

pub update_deferred-requires-clause-moved : goal.update_deferred-requires-clause-moved
update_deferred-requires-clause-moved g c = c.as_mut_slice.ensures.value ∙ c.requires.moved

pub into_image-requires-clause-regions : goal.into_image-requires-clause-regions
into_image-requires-clause-regions g c =
    let image : HeapImage = c.args.survey.now in
    let parts = c.args.parts in
    let vec = c.args.moved in
    let updated : List (List ℕ) = c.update_deferred.new.regions in
    let cleared' : List (List ℕ) = c.clear_above.new.regions in
    let n : ℕ = vec.len in
    let one : length updated ≡ n = omega (arith, c.update_deferred.auto.regions, c.as_mut_slice.ensures.len) in
    let first : c.as_mut_slice-2.result.now ≡ updated = c.as_mut_slice-2.ensures.value ∙ all_new n updated vec.items one in
    let two : length cleared' ≡ n = omega (arith, c.clear_above.auto.regions, ap length first, one) in
    let second = all_new n cleared' (take n (updated ++ drop (length updated) vec.items)) two in
    let log : parts.region_log ≡ image.region_log = sym (ap (λ (i : HeapImage). i.region_log) c.requires.parts.whole) in
    let whole : AreBlocks image.region_log cleared' = c.clear_above.ensures.blocks image.region_log (subst (AreBlocks image.region_log) (sym first) c.update_deferred.ensures.blocks) in
    subst (AreBlocks parts.region_log) (sym second) (subst (λ l. AreBlocks l cleared') (sym log) whole)

pub into_image-requires-clause-valid : goal.into_image-requires-clause-valid
into_image-requires-clause-valid g c =
    let image : HeapImage = c.args.survey.now in
    let parts = c.args.parts in
    let vec = c.args.moved in
    let updated : List (List ℕ) = c.update_deferred.new.regions in
    let cleared' : List (List ℕ) = c.clear_above.new.regions in
    let places : List ℕ = c.redirect_live.new.live in
    let n : ℕ = vec.len in
    let one : length updated ≡ n = omega (arith, c.update_deferred.auto.regions, c.as_mut_slice.ensures.len) in
    let first : c.as_mut_slice-2.result.now ≡ updated = c.as_mut_slice-2.ensures.value ∙ all_new n updated vec.items one in
    let two : length cleared' ≡ n = omega (arith, c.clear_above.auto.regions, ap length first, one) in
    let three : length places ≡ parts.live.len = omega (arith, c.redirect_live.auto.live, c.as_mut_slice-3.ensures.len) in
    let second = all_new n cleared' (take n (updated ++ drop (length updated) vec.items)) two in
    let whole = c.requires.parts.whole in
    let log : parts.region_log ≡ image.region_log = sym (ap (λ (i : HeapImage). i.region_log) whole) in
    let version : parts.version ≡ image.version = sym (ap (λ (i : HeapImage). i.version) whole) in
    let allowed : parts.allowance ≡ image.allowance = sym (ap (λ (i : HeapImage). i.allowance) whole) in
    let words = ap concat second ∙ c.clear_above.ensures.words ∙ ap (λ (bs : List (List ℕ)). cleared c.new_top.result (concat bs)) first ∙ ap (λ k. cleared k (concat updated)) (c.new_top.ensures ∙ ap new_top c.plan-plan.ensures) ∙ c.update_deferred.ensures.compacted in
    let live = all_new parts.live.len places parts.live.items three ∙ c.redirect_live.ensures ∙ ap (map (new_address image)) (c.as_mut_slice-3.ensures.value ∙ sym (ap (λ (i : HeapImage). i.live) whole)) in
    let made : HeapImage = versioned_image_of parts.version parts.region_log parts.allowance
    (take n (cleared' ++ drop (length cleared') (take n (updated ++ drop (length updated) vec.items))))
    (take parts.live.len (places ++ drop (length places) parts.live.items)) (option_map (λ v. v.items) c.redirected_roots.result) in
    let roots = subst (λ (i : HeapImage). option_map (λ v. v.items) c.redirected_roots.result ≡ option_map (map (redirected i)) i.roots) c.plan-plan.ensures c.redirected_roots.ensures in
    let valid = subst IsValid c.plan-plan.ensures c.planned_image_is_valid.ensures in
    let same : made ≡ compact image = same_image made (compact image) (sym valid.own) version log allowed words live roots in
    subst IsValid (sym same) (c.compaction_is_valid.ensures image valid)
