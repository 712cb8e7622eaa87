use Rattle.std.proofs.Common.{◌≡◌, ◌<◌, ◌^◌, ◌∙◌, All, List, ℕ, None, [], length, false, true, ap, refl, sym, subst, arith}
use Rattle.object_heap.specs.HeapImage.{HeapImage, image_of, reachable}
use Rattle.object_heap.specs.Version.{Allows, has_roots}
use Rattle.object_heap.specs.declared.version.Version.TheVariants.{Two}
use Rattle.heap_image.specs.ImageText.{from_tail, first_some, live_list_faults}
use Rattle.heap_maker.proofs.Lemmas.Valid.{fitting, listed-valid, listed_allows, listed_is_one}
use Rattle.heap_maker.proofs.generating.UnmarkedHeap.into_image.Goals as goal

pub into_image-requires-clause-valid : goal.into_image-requires-clause-valid
into_image-requires-clause-valid c =
    let log = c.args.self.limits.region_log in
    let allowance = c.args.wanted.now.allowance in
    let version = c.args.self.limits.version in
    let blocks : List (List ℕ) = c.args.self.regions.items in
    let roots : List ℕ = c.args.self.roots.items in
    let live : List ℕ = c.in-Ok.live.items in
    let inside : All (λ w. w < 2 ^ 64) roots = subst (λ xs. All (λ w. w < 2 ^ 64) xs) c.as_slice-3.ensures.value c.all_fit.ensures in
    let counted : length roots < 2 ^ 32 = omega arith in
    let fits = fitting version log allowance c.args.self.limits.words blocks roots c.args.self.limits.within c.args.self.limits.allowed c.args.self.count c.args.self.fit c.args.self.few counted inside (omega arith) in
    let faultless : first_some (live_list_faults (from_tail Two (image_of log 0 blocks roots))) ≡ None =
    subst (λ xs. first_some (live_list_faults (from_tail Two (image_of log 0 xs roots))) ≡ None) c.as_slice.ensures.value
    (subst (λ xs. first_some (live_list_faults (from_tail Two (image_of log 0 c.as_slice.result.now xs))) ≡ None) c.as_slice-2.ensures.value c.in-Ok.ensures.faults.ok) in
    let reached : live ≡ reachable (image_of log 0 blocks []) roots =
    subst (λ xs. live ≡ reachable (image_of log 0 xs []) roots) c.as_slice.ensures.value
    (subst (λ xs. live ≡ reachable (image_of log 0 c.as_slice.result.now []) xs) c.as_slice-2.ensures.value c.in-Ok.ensures.live) in
    let rooted : has_roots version ≡ true = sym c.has_roots.ensures ∙ c.if-has_roots.true in
    c.marked_parts_are_valid.ensures version log allowance blocks roots live rooted fits faultless reached

pub of_parts-requires-clause-valid : goal.of_parts-requires-clause-valid
of_parts-requires-clause-valid c =
    let log = c.args.self.limits.region_log in
    let allowance = c.args.wanted.now.allowance in
    let words = c.args.self.limits.words in
    let blocks : List (List ℕ) = c.args.self.regions.items in
    let roots : List ℕ = c.args.self.roots.items in
    let live : List ℕ = c.in-Ok.live.items in
    let inside : All (λ w. w < 2 ^ 64) roots = subst (λ xs. All (λ w. w < 2 ^ 64) xs) c.as_slice-3.ensures.value c.all_fit.ensures in
    let counted : length roots < 2 ^ 32 = omega arith in
    let listed : has_roots c.args.self.limits.version ≡ false = sym c.has_roots.ensures ∙ c.if-has_roots.false in
    let allowed : Allows Two log words = listed_allows c.args.self.limits.version log words listed c.args.self.limits.allowed in
    let fits = fitting Two log allowance words blocks roots c.args.self.limits.within allowed c.args.self.count c.args.self.fit c.args.self.few counted inside (omega arith) in
    let faultless : first_some (live_list_faults (from_tail Two (image_of log 0 blocks roots))) ≡ None =
    subst (λ xs. first_some (live_list_faults (from_tail Two (image_of log 0 xs roots))) ≡ None) c.as_slice.ensures.value
    (subst (λ xs. first_some (live_list_faults (from_tail Two (image_of log 0 c.as_slice.result.now xs))) ≡ None) c.as_slice-2.ensures.value c.in-Ok.ensures.faults.ok) in
    let reached : live ≡ reachable (image_of log 0 blocks []) roots =
    subst (λ xs. live ≡ reachable (image_of log 0 xs []) roots) c.as_slice.ensures.value
    (subst (λ xs. live ≡ reachable (image_of log 0 c.as_slice.result.now []) xs) c.as_slice-2.ensures.value c.in-Ok.ensures.live) in
    listed-valid log allowance blocks live roots (c.marked_parts_are_valid.ensures Two log allowance blocks roots live refl fits faultless reached)

pub returns-else-has_roots-clause-version : goal.returns-else-has_roots-clause-version
returns-else-has_roots-clause-version c =
    let listed : has_roots c.args.self.limits.version ≡ false = sym c.has_roots.ensures ∙ c.if-has_roots.false in
    ap (λ (image : HeapImage). image.version) c.of_parts.ensures ∙ sym (listed_is_one c.args.self.limits.version listed)
