use Rattle.std.proofs.Common.{◌≡◌, ℕ, ◌+◌, ◌<◌, ◌≤◌, List, length, get_or, refl, sym, ◌∙◌, subst, arith}
use Rattle.object_heap.specs.HeapImage.{HeapImage, size_at}
use Rattle.verification.specs.Compared.{AreCompacted, IsFirstOther, behind, new_ends}
use Rattle.verification.proofs.Lemmas.Gaps.{behind-next}
use Rattle.verification.proofs.Lemmas.Joined.{none, joined, later, match_map}
use Rattle.verification.proofs.Lemmas.Placing.{place_of, end_of_place}
use Rattle.verification.proofs.Lemmas.Visits.{low, run, object}
use Rattle.verification.proofs.comparison.Comparison.other_at.Goals as goal

inside : (i : ℕ) (items live : List ℕ) → items ≡ live → i < length live → i < length items
inside i items live same l = subst (λ (xs : List ℕ). i < length xs) (sym same) l

pub other_in_gap-requires-clause-ordered : goal.other_in_gap-requires-clause-ordered
other_in_gap-requires-clause-ordered c =
    let image : HeapImage = c.args.self.now.before.now in
    let items : List ℕ = c.live.result.now in
    let next : ℕ = c.end_before-next.result in
    let place : ℕ = c.new_address-place.result in
    let is = place_of image c.plan.result.now items c.args.i place (c.plan.ensures ∙ c.args.self.now.survey_of) c.live.ensures.value c.new_address-place.ensures in
    low image c.objects_are_placed.ensures items c.args.i next place c.live.ensures.value (inside c.args.i items image.live c.live.ensures.value c.requires) c.end_before-next.ensures is

pub other_in_gap-requires-clause-run : goal.other_in_gap-requires-clause-run
other_in_gap-requires-clause-run c =
    let image : HeapImage = c.args.self.now.before.now in
    let items : List ℕ = c.live.result.now in
    let next : ℕ = c.end_before-next.result in
    let place : ℕ = c.new_address-place.result in
    let is = place_of image c.plan.result.now items c.args.i place (c.plan.ensures ∙ c.args.self.now.survey_of) c.live.ensures.value c.new_address-place.ensures in
    run image c.objects_are_placed.ensures items c.args.i next place c.live.ensures.value (inside c.args.i items image.live c.live.ensures.value c.requires) c.end_before-next.ensures is

pub other_in_object-requires : goal.other_in_object-requires
other_in_object-requires c =
    let image : HeapImage = c.args.self.now.before.now in
    let items : List ℕ = c.live.result.now in
    let next : ℕ = c.end_before-next.result in
    let place : ℕ = c.new_address-place.result in
    let is = place_of image c.plan.result.now items c.args.i place (c.plan.ensures ∙ c.args.self.now.survey_of) c.live.ensures.value c.new_address-place.ensures in
    object image c.objects_are_placed.ensures items c.args.i next place c.live.ensures.value (inside c.args.i items image.live c.live.ensures.value c.requires) c.end_before-next.ensures is

-- the gap and the object are what lies between the ends of two objects
module _ (image after : HeapImage) (i next place size : ℕ) (next_is : next ≡ behind (new_ends image) i) (end : place + size ≡ behind (new_ends image) (i + 1)) (ordered : next ≤ place) where
  pub in_gap : (p : ℕ) → IsFirstOther image after next place p → IsFirstOther image after (behind (new_ends image) i) (behind (new_ends image) (i + 1)) p
  in_gap p other =
      subst (λ n. IsFirstOther image after n (behind (new_ends image) (i + 1)) p) next_is
      (subst (λ n. IsFirstOther image after next n p) end
      (later image after next next place (place + size) p (omega arith) (omega arith) (none image after next next (omega arith)) other))

  pub in_object : AreCompacted image after next place → (p : ℕ) → IsFirstOther image after place (place + size) p
      → IsFirstOther image after (behind (new_ends image) i) (behind (new_ends image) (i + 1)) p
  in_object gap p other =
      subst (λ n. IsFirstOther image after n (behind (new_ends image) (i + 1)) p) next_is
      (subst (λ n. IsFirstOther image after next n p) end
      (later image after next place (place + size) (place + size) p ordered (omega arith) gap other))

  pub whole : AreCompacted image after next place → AreCompacted image after place (place + size)
      → AreCompacted image after (behind (new_ends image) i) (behind (new_ends image) (i + 1))
  whole gap words =
      subst (λ n. AreCompacted image after n (behind (new_ends image) (i + 1))) next_is
      (subst (λ n. AreCompacted image after next n) end (joined image after next place (place + size) gap words))

pub returns-in-Some : goal.returns-in-Some
returns-in-Some c =
    let image : HeapImage = c.args.self.now.before.now in
    let items : List ℕ = c.live.result.now in
    let i : ℕ = c.args.i in
    let next : ℕ = c.end_before-next.result in
    let place : ℕ = c.new_address-place.result in
    let size : ℕ = size_at image (get_or items i 0) in
    let l = inside i items image.live c.live.ensures.value c.requires in
    let is = place_of image c.plan.result.now items i place (c.plan.ensures ∙ c.args.self.now.survey_of) c.live.ensures.value c.new_address-place.ensures in
    let end = end_of_place image items i place size c.live.ensures.value is refl ∙ sym (behind-next (new_ends image) i (i + 1) refl) in
    let ordered = low image c.objects_are_placed.ensures items i next place c.live.ensures.value l c.end_before-next.ensures is in
    in_gap image c.args.self.now.after.now i next place size c.end_before-next.ensures end ordered c.in-Some.p c.in-Some.ensures

pub returns-in-None : goal.returns-in-None
returns-in-None c =
    let image : HeapImage = c.args.self.now.before.now in
    let after : HeapImage = c.args.self.now.after.now in
    let items : List ℕ = c.live.result.now in
    let i : ℕ = c.args.i in
    let next : ℕ = c.end_before-next.result in
    let place : ℕ = c.new_address-place.result in
    let size : ℕ = size_at image (get_or items i 0) in
    let l = inside i items image.live c.live.ensures.value c.requires in
    let is = place_of image c.plan.result.now items i place (c.plan.ensures ∙ c.args.self.now.survey_of) c.live.ensures.value c.new_address-place.ensures in
    let end = end_of_place image items i place size c.live.ensures.value is refl ∙ sym (behind-next (new_ends image) i (i + 1) refl) in
    let ordered = low image c.objects_are_placed.ensures items i next place c.live.ensures.value l c.end_before-next.ensures is in
    let gap = c.in-None.ensures in
    match_map c.other_in_object.result (AreCompacted image after place (place + size)) (AreCompacted image after (behind (new_ends image) i) (behind (new_ends image) (i + 1)))
    (IsFirstOther image after place (place + size)) (IsFirstOther image after (behind (new_ends image) i) (behind (new_ends image) (i + 1)))
    (whole image after i next place size c.end_before-next.ensures end ordered gap) (in_object image after i next place size c.end_before-next.ensures end ordered gap) c.other_in_object.ensures
