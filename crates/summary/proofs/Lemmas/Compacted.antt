-- The objects reached in the compacted heap.
use Rattle.std.proofs.Common.{◌≡◌, ℕ, ◌+◌, ◌-◌, ◌≤◌, ◌<◌, inl, inr, Bool, true, false, ◌&&◌, List, length, get_or, refl, sym, ◌∙◌, ap, subst, arith, eqb}
use Rattle.std.proofs.lemmas.Bool.{cases_eq, eq-eqb, eqb-true, ne_eqb, or_left, or_right, and_from, and_parts, cond-true, cond-false}
use Rattle.std.proofs.lemmas.List.{get_or_default, get_or-map, length-map}
use Rattle.std.proofs.lemmas.List.Folds.{list_any_at, Any-from_list_any}
use Rattle.std.proofs.lemmas.List.Elements.{All-from_get_or, All-map}
use Rattle.std.specs.Prelude.{All, map, Option, None, Some, IfSome, option_map}
use Rattle.std.specs.List.{list_any}
use Rattle.object_heap.specs.Layout.{references_in}
use Rattle.object_heap.specs.HeapImage.{HeapImage, AreRoots, IsValid, HasLiveList, heap_words, references_at, reference_at, is_null_or_live, is_unsound, leads_to, refers_to, reachable}
use Rattle.summary.specs.NewAddresses.{new_address}
use Rattle.summary.specs.Compaction.{redirected, compact}
use Rattle.summary.specs.Redirection.{RedirectsReferences}
use Rattle.summary.proofs.Lemmas.Graph.{reference-object}
use Rattle.summary.proofs.Lemmas.Origin.{length-compact}
use Rattle.summary.proofs.Lemmas.Valid.{redirecting, valid_with, compact-HasLiveList, header_of_moved, new_at, count_same}
use Rattle.object_heap.specs.Reachable.{is_listed, IsClosed}
use Rattle.object_heap.specs.LiveLaws.{LiveLaws}

listed_at : (xs : List ℕ) (i : ℕ) → i < length xs → is_listed xs (get_or xs i 0) ≡ true
listed_at xs i l = list_any_at (λ b. eqb (get_or xs i 0) b) xs i 0 l (eq-eqb (get_or xs i 0) (get_or xs i 0) refl)

-- a listed address has a place
place_of : (xs : List ℕ) (a : ℕ) → is_listed xs a ≡ true → (i : ℕ) × (i < length xs) × (get_or xs i 0 ≡ a)
place_of xs a h =
    let at = Any-from_list_any (λ b. eqb a b) xs h in
    (at.0, at.2, get_or_default xs at.0 0 at.1 at.2 ∙ at.3 ∙ sym (eqb-true a at.1 at.4))

any_listed : (p : ℕ → Bool) (xs : List ℕ) (a : ℕ) → is_listed xs a ≡ true → p a ≡ true → list_any p xs ≡ true
any_listed p xs a listed passes =
    let at = Any-from_list_any (λ b. eqb a b) xs listed in
    let e : a ≡ get_or xs at.0 at.1 = eqb-true a at.1 at.4 ∙ sym at.3 in
    list_any_at p xs at.0 at.1 at.2 (subst (λ c. p c ≡ true) e passes)

module _ (law : LiveLaws) (image : HeapImage) (roots : List ℕ) (sound : HasLiveList image) (lawful : RedirectsReferences image.layout (heap_words image)) (few : All (λ w. w ≤ heap_words image) roots) (lives : image.live ≡ reachable image roots) where
  abbrev after : HeapImage
  after = compact image

  abbrev new_roots : List ℕ
  new_roots = map (redirected image) roots

  sound' : HasLiveList after
  sound' = compact-HasLiveList image sound lawful

  live_is : (a : ℕ) → is_listed image.live a ≡ is_listed (reachable image roots) a
  live_is a = ap (λ xs. is_listed xs a) lives

  redirected-some : (w b : ℕ) → w ≡ b + 1 → redirected image w ≡ new_address image b + 1
  redirected-some w b e =
      let at : w - 1 ≡ b = omega arith in
      cond-false (eqb w 0) 0 (new_address image (w - 1) + 1) (ne_eqb w 0 (λ z. let no : ⊥ = omega arith in no)) ∙ ap (λ c. new_address image c + 1) at

  -- a live object's new address is a live address
  new_listed : (a : ℕ) → is_listed image.live a ≡ true → is_listed after.live (new_address image a) ≡ true
  new_listed a h =
      let place = place_of image.live a h in
      let count = count_same image sound in
      let at : get_or after.live place.0 0 ≡ new_address image a = new_at image sound place.0 0 place.1 ∙ ap (new_address image) place.2 in
      subst (λ c. is_listed after.live c ≡ true) at (listed_at after.live place.0 (omega arith))

  -- a redirected reference leads to a live object, or nowhere
  redirected_leads : (w : ℕ) → is_null_or_live image w ≡ true → is_null_or_live after (redirected image w) ≡ true
  redirected_leads w h = elim (cases_eq w 0) [
    | inl null ↦
        let z : redirected image w ≡ 0 = cond-true (eqb w 0) 0 (new_address image (w - 1) + 1) (eq-eqb w 0 null) in
        or_left (eqb (redirected image w) 0) (list_any (λ a. eqb (redirected image w) (a + 1)) after.live) (eq-eqb (redirected image w) 0 z)
    | inr some ↦
        let b : ℕ = w - 1 in
        let is : w ≡ b + 1 = omega arith in
        let live = law.leads_to_live image sound w b h (eq-eqb w (b + 1) is) in
        or_right (eqb (redirected image w) 0) (list_any (λ a. eqb (redirected image w) (a + 1)) after.live)
        (any_listed (λ a. eqb (redirected image w) (a + 1)) after.live (new_address image b) (new_listed b live) (eq-eqb (redirected image w) (new_address image b + 1) (redirected-some w b is)))
  ]

  new_roots_lead : All (λ w. is_null_or_live after w ≡ true) new_roots
  new_roots_lead = All-from_get_or (λ w. is_null_or_live after w ≡ true) new_roots 0 (λ i l.
      let long = length-map roots (redirected image) in
      let m : i < length roots = omega arith in
      let at : get_or new_roots i 0 ≡ redirected image (get_or roots i 0) = get_or-map (redirected image) roots i 0 0 m in
      subst (λ w. is_null_or_live after w ≡ true) (sym at) (redirected_leads (get_or roots i 0) (law.root_leads image roots lives (get_or roots i 0) (few i 0 m) (listed_at roots i m))))

  passes : ℕ → Bool
  passes a = is_listed image.live a && is_listed (reachable after new_roots) (new_address image a)

  passing : (a : ℕ) → is_listed image.live a ≡ true → is_listed (reachable after new_roots) (new_address image a) ≡ true → passes a ≡ true
  unfolding passes
  passing a h k = and_from (is_listed image.live a) (is_listed (reachable after new_roots) (new_address image a)) h k

  passed : (a : ℕ) → passes a ≡ true → (is_listed image.live a ≡ true) × (is_listed (reachable after new_roots) (new_address image a) ≡ true)
  unfolding passes
  passed a h = and_parts (is_listed image.live a) (is_listed (reachable after new_roots) (new_address image a)) h

  -- where an object refers to another, it does so at its new address
  refers_after : (a b : ℕ) → is_listed image.live a ≡ true → is_listed image.live b ≡ true → refers_to image a b ≡ true → refers_to after (new_address image a) (new_address image b) ≡ true
  refers_after a b h k refers =
      let field = law.field_of image sound a b refers in
      let f : ℕ = field.1.0 in
      let i = place_of image.live a h in
      let j = place_of image.live b k in
      let leads : reference_at image (get_or image.live i.0 0) f ≡ get_or image.live j.0 0 + 1 = ap (λ c. reference_at image c f) i.2 ∙ field.1.2 ∙ ap (λ c. c + 1) (sym j.2) in
      let inside : f < references_at image (get_or image.live i.0 0) = subst (λ c. f < references_at image c) (sym i.2) field.1.1 in
      let new : reference_at after (new_address image (get_or image.live i.0 0)) f ≡ new_address image (get_or image.live j.0 0) + 1 = reference-object image sound lawful i.0 j.0 f i.1 j.1 inside leads in
      let new' : reference_at after (new_address image a) f ≡ new_address image b + 1 = ap (λ c. reference_at after (new_address image c) f) (sym i.2) ∙ new ∙ ap (λ c. new_address image c + 1) j.2 in
      let count : f < references_at after (new_address image a) = subst (λ c. f < references_at after (new_address image c)) i.2 (subst (λ w. f < references_in image.layout w) (sym (header_of_moved image sound i.0 i.1)) inside) in
      let ok : is_unsound after (new_address image a) ≡ false = law.not_unsound after sound' (new_address image a) (law.live_sound after sound' (new_address image a) (new_listed a h)) in
      law.refers_by after sound' (new_address image a) (new_address image b) f ok count new'

  closed : IsClosed image roots passes
  closed = record {
    from_roots = λ b l h.
        let live : is_listed image.live b ≡ true = live_is b ∙ (law.reachable-IsClosed image roots).from_roots b l h in
        let at = Any-from_list_any (λ w. leads_to w b) roots h in
        let long = length-map roots (redirected image) in
        let is : at.1 ≡ b + 1 = eqb-true at.1 (b + 1) at.4 in
        let root : get_or new_roots at.0 (redirected image at.1) ≡ new_address image b + 1 = get_or-map (redirected image) roots at.0 at.1 (redirected image at.1) at.2 ∙ ap (redirected image) at.3 ∙ redirected-some at.1 b is in
        let leads : list_any (λ w. leads_to w (new_address image b)) new_roots ≡ true =
        list_any_at (λ w. leads_to w (new_address image b)) new_roots at.0 (redirected image at.1) (omega arith) (eq-eqb (get_or new_roots at.0 (redirected image at.1)) (new_address image b + 1) root) in
        passing b live ((law.reachable-IsClosed after new_roots).from_roots (new_address image b) (law.live_below after sound' (new_address image b) (new_listed b live)) leads);
    from_objects = λ a b h refers l.
        let before = passed a h in
        let live : is_listed image.live b ≡ true = live_is b ∙ (law.reachable-IsClosed image roots).from_objects a b (sym (live_is a) ∙ before.0) refers l in
        passing b live ((law.reachable-IsClosed after new_roots).from_objects (new_address image a) (new_address image b) before.1 (refers_after a b before.0 live refers) (law.live_below after sound' (new_address image b) (new_listed b live)));
  }

  reached : (y : ℕ) → is_listed after.live y ≡ true → is_listed (reachable after new_roots) y ≡ true
  reached y h =
      let place = place_of after.live y h in
      let count = count_same image sound in
      let m : place.0 < length image.live = omega arith in
      let a : ℕ = get_or image.live place.0 0 in
      let is : new_address image a ≡ y = sym (new_at image sound place.0 0 m) ∙ place.2 in
      let old : is_listed (reachable image roots) a ≡ true = sym (live_is a) ∙ listed_at image.live place.0 m in
      subst (λ c. is_listed (reachable after new_roots) c ≡ true) is (passed a (law.reachable-least image roots passes closed a old)).1

  pub compact-reachable : after.live ≡ reachable after new_roots
  compact-reachable = law.live_is_reachable after sound' new_roots new_roots_lead reached

null_or_live_low : LiveLaws → (image : HeapImage) → HasLiveList image → (w : ℕ) → is_null_or_live image w ≡ true → w ≤ heap_words image
null_or_live_low law image sound w h = elim (cases_eq w 0) [
  | inl null ↦ omega arith
  | inr some ↦
      let b : ℕ = w - 1 in
      let is : w ≡ b + 1 = omega arith in
      let below = law.live_below image sound b (law.leads_to_live image sound w b h (eq-eqb w (b + 1) is)) in
      omega arith
]

-- The compacted image is valid again.
rooted_after : LiveLaws → (image : HeapImage) (valid : IsValid image) (roots : Option (List ℕ)) → IfSome roots (AreRoots image) → IfSome (option_map (map (redirected image)) roots) (AreRoots (compact image))
rooted_after law image valid None h = tt
rooted_after law image valid (Some roots) h =
    let long = length-compact image valid.live_list in
    let same = length-map roots (redirected image) in
    let few = h.few in
    let counted = h.counted in
    let leads = new_roots_lead law image roots valid.live_list (redirecting valid.lawful) h.inside h.reached in
    record {
      few = omega arith;
      counted = omega arith;
      inside = All-map (λ w. w ≤ heap_words (compact image)) (redirected image) roots (λ k d l.
          let m : k < length (map (redirected image) roots) = omega arith in
          null_or_live_low law (compact image) (compact-HasLiveList image valid.live_list (redirecting valid.lawful)) (redirected image (get_or roots k d)) (subst (λ w. is_null_or_live (compact image) w ≡ true) (get_or-map (redirected image) roots k d d l) (leads k d m)));
      reached = compact-reachable law image roots valid.live_list (redirecting valid.lawful) h.inside h.reached;
    }

pub compact-IsValid : LiveLaws → (image : HeapImage) → IsValid image → IsValid (compact image)
compact-IsValid law image valid = valid_with image valid (rooted_after law image valid image.roots valid.rooted)
