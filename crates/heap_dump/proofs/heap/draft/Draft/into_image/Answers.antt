use Rattle.std.proofs.Common.{rules, ◌≡◌, ◌≢◌, ◌<◌, ◌^◌, ◌∙◌, ◌++◌, List, ℕ, ◌≤◌, ap, sym, subst, refl, None, Some, [], length, take, drop, arith, All}
use Rattle.std.specs.List.{concat}
use Rattle.std.proofs.lemmas.List.{take_at}
use Rattle.object_heap.specs.HeapImage.{AreBlocks, HeapImage, IsWithinLimits, IsValid, image_of, reachable, versioned_image_of}
use Rattle.object_heap.specs.Version.{Allows}
use Rattle.object_heap.specs.declared.version.Version.TheVariants.{Two}
use Rattle.heap_image.specs.ImageText.{from_tail, first_some, live_list_faults}
use Rattle.heap_image.specs.Reading.{HasFittingNumbers}
use Rattle.dump_objects.specs.declared.heap.weak_reference.WeakReference.{WeakReference}
use Rattle.heap_dump.specs.Requested.{IsImageFor}
use Rattle.heap_dump.specs.Weak.{AreNull, DifferOnlyAt, IsStrong, slots_of}
use Rattle.heap_dump.proofs.heap.draft.Draft.into_image.Goals as goal

-- the regions before and after the weak references were put
abbrev before : goal.After-marked_parts_are_valid → List (List ℕ)
before c = c.into_parts-region_log.result.1.items

abbrev after : goal.After-marked_parts_are_valid → List (List ℕ)
after c = c.put_weak.new.regions

-- those of the list, which were lent
abbrev blocks : goal.After-marked_parts_are_valid → List (List ℕ)
blocks c = take c.into_parts-region_log.result.1.len (after c ++ drop (length (after c)) (before c))

are_after : (c : goal.After-marked_parts_are_valid) → blocks c ≡ after c
are_after c = take_at (after c) (drop (length (after c)) (before c)) c.into_parts-region_log.result.1.len (omega (arith, c.put_weak.auto.regions, c.as_mut_slice.ensures.len))

pub into_image-image-requires-clause-valid : goal.into_image-image-requires-clause-valid
into_image-image-requires-clause-valid c =
    let log = c.into_parts-region_log.result.0 in
    let allowance = c.args.options.allowance in
    let was : List (List ℕ) = before c in
    let rs : List (List ℕ) = after c in
    let roots : List ℕ = c.in_ok-roots.roots.items in
    let live : List ℕ = c.in_ok-live.live.items in
    let image : HeapImage = image_of log allowance rs roots in
    let words = c.in_ok-words.words in
    let told = c.in_ok-live.ensures in
    let lent : c.as_mut_slice.result.now ≡ was = c.as_mut_slice.ensures.value in
    let as_long : length (concat rs) ≡ length (concat was) = told.others.same_length ∙ ap (λ (xs : List (List ℕ)). length (concat xs)) lent in
    let same : words ≡ length (concat rs) = c.in_ok-words.ensures.count ∙ ap (λ (xs : List (List ℕ)). length (concat xs)) c.as_slice.ensures.value ∙ sym as_long in
    let limits : IsWithinLimits log (length (concat rs)) 0 = subst (λ n. IsWithinLimits log n 0) same c.in_ok-words.ensures.limits in
    let version = c.in_ok-version.version in
    let log_is : log ≡ c.args.requested.log = omega (arith, c.if-region_log-requested.false) in
    let allowed : Allows version log (length (concat rs)) =
    subst (λ l. Allows version l (length (concat rs))) (sym log_is) (subst (λ n. Allows version c.args.requested.log n) same c.in_ok-version.ensures.allowed) in
    let few = c.in_ok-roots.ensures.few in
    let fits : HasFittingNumbers version image = record {
      own = refl;
      limits = record {
        region_log_low = limits.region_log_low;
        region_log_high = limits.region_log_high;
        not_empty = limits.not_empty;
        whole_regions = limits.whole_regions;
        few_words = limits.few_words;
        few_regions = limits.few_regions;
        few_live = omega arith;
      };
      allowed = allowed;
      counted = omega arith;
      allowance = omega arith;
      words = told.fit;
      live = λ k d l. let inside = c.in_ok-roots.ensures.inside k d l in omega arith;
      plain = refl;
      listed = refl;
    } in
    let given : c.as_slice-3.result.now ≡ roots = c.as_slice-3.ensures.value in
    let faultless : first_some (live_list_faults (from_tail Two (image_of log 0 rs roots))) ≡ None =
    subst (λ (xs : List ℕ). first_some (live_list_faults (from_tail Two (image_of log 0 rs xs))) ≡ None) given told.sound in
    let reached : live ≡ reachable (image_of log 0 rs []) roots =
    subst (λ (xs : List ℕ). live ≡ reachable (image_of log 0 rs []) xs) given told.live in
    subst (λ (xs : List (List ℕ)). IsValid (versioned_image_of version log allowance xs live (Some roots))) (sym (are_after c))
    (c.marked_parts_are_valid.ensures version log allowance rs roots live c.in_ok-version.ensures.rooted fits faultless reached)

pub returns-clause-requested : goal.returns-clause-requested
returns-clause-requested c =
    let was : List (List ℕ) = c.into_parts-region_log.result.1.items in
    let rs : List (List ℕ) = c.put_weak.new.regions in
    let lent : c.as_mut_slice.result.now ≡ was = c.as_mut_slice.ensures.value in
    let told = c.in_ok-live.ensures in
    let log = c.into_parts-region_log.result.0 in
    let roots : List ℕ = c.in_ok-roots.roots.items in
    let live : List ℕ = c.in_ok-live.live.items in
    let weak : List WeakReference = c.args.self.weak.items in
    let weak_is : c.as_slice-4.result.now ≡ weak = c.as_slice-4.ensures.value in
    let are_after : take c.into_parts-region_log.result.1.len (rs ++ drop (length rs) was) ≡ rs =
    take_at rs (drop (length rs) was) c.into_parts-region_log.result.1.len (omega (arith, c.put_weak.auto.regions, c.as_mut_slice.ensures.len)) in
    let made : HeapImage = versioned_image_of c.in_ok-version.version log c.args.options.allowance rs live (Some roots) in
    let is : c.into_image-image.result ≡ made = c.into_image-image.ensures
    ∙ ap (λ (xs : List (List ℕ)). versioned_image_of c.in_ok-version.version log c.args.options.allowance xs live (Some roots)) are_after in
    let null : AreNull (slots_of weak) (concat was) =
    subst (λ (ws : List WeakReference). AreNull (slots_of ws) (concat was)) weak_is
    (subst (λ (xs : List (List ℕ)). AreNull (slots_of c.as_slice-4.result.now) (concat xs)) lent told.null) in
    let others : DifferOnlyAt (slots_of weak) (concat was) (concat rs) =
    subst (λ (ws : List WeakReference). DifferOnlyAt (slots_of ws) (concat was) (concat rs)) weak_is
    (subst (λ (xs : List (List ℕ)). DifferOnlyAt (slots_of c.as_slice-4.result.now) (concat xs) (concat rs)) lent told.others) in
    let reached : live ≡ reachable (image_of log 0 was []) roots =
    subst (λ (xs : List (List ℕ)). live ≡ reachable (image_of log 0 xs []) roots) lent
    (subst (λ (xs : List ℕ). live ≡ reachable (image_of log 0 c.as_mut_slice.result.now []) xs) c.as_slice-3.ensures.value told.strong) in
    let strong : IsStrong made (slots_of weak) = record { strong = concat was; null = null; others = others; live = reached } in
    record {
      valid = search rules;
      rooted = search rules;
      version = search rules;
      region_log = search rules;
      allowance = search rules;
      roots = search rules;
      figures = search rules;
      followed = search rules;
      strong = subst (λ image. IsStrong image (slots_of weak)) (sym is) strong;
    }
