-- A root to each live object.
use Rattle.std.proofs.Common.{◌≡◌, ℕ, ◌+◌, ◌/◌, ◌≤◌, ◌<◌, ◌^◌, true, false, List, length, get_or, refl, sym, ◌∙◌, ap, subst, arith, Option, Some, None}
use Rattle.std.proofs.lemmas.Bool.{true≢false}
use Rattle.std.proofs.lemmas.List.{get_or-map, length-map}
use Rattle.std.proofs.lemmas.List.Elements.{All-from_get_or}
use Rattle.std.specs.Prelude.{All, IfSome, map}
use Rattle.std.specs.Option.{is_some}
use Rattle.object_heap.specs.HeapImage.{HeapImage, IsValid, AreRoots, HasSoundHeader, heap_words, reachable, roots_or}
use Rattle.heap_image.specs.Upgrade.{in_version_three, upgraded, upgraded_version}
use Rattle.object_heap.specs.Version.{Allows, has_roots}
use Rattle.object_heap.specs.declared.version.Version.{Version}
use Rattle.object_heap.specs.declared.version.Version.TheVariants.{One, Two, Three}
use Rattle.heap_image.proofs.Lemmas.LiveWords.{live_end-le}
use Rattle.heap_image.proofs.Lemmas.TextLaws.{few_listed, reachable-words}

-- what is sound does not depend on roots
sound_same : (image : HeapImage) (version : Version) (roots : Option (List ℕ)) (a : ℕ) → HasSoundHeader image a → HasSoundHeader (record image { version = version; roots = roots }) a
sound_same image version roots a h = record { object = h.object; header = h.header; references = h.references; inside = h.inside }

-- version 2 allows what version 1 does
allowed_two : (v : Version) (log words : ℕ) → has_roots v ≡ false → Allows v log words → Allows Two log words
allowed_two One log words h a = record { region_log_high = a.region_log_high; few_words = a.few_words; few_regions = a.few_regions }
allowed_two Two log words h a = absurd (true≢false h)
allowed_two Three log words h a = absurd (true≢false h)

module _ (image : HeapImage) (valid : IsValid image) where
  live_below : (i : ℕ) → i < length image.live → get_or image.live i 0 < heap_words image
  live_below i l = let e = live_end-le image valid.live_list i l in let some = (valid.live_list.sound i 0 l).header in omega arith

  pub roots_fit : All (λ a. a + 1 < 2 ^ 64) image.live
  roots_fit = All-from_get_or (λ a. a + 1 < 2 ^ 64) image.live 0 (λ i l. let b = live_below i l in let few = valid.limits.few_words in omega arith)

  pub upgraded-IsValid : image.live ≡ reachable image (map (λ a. a + 1) image.live) → image.roots ≡ None → (roots : List ℕ) → roots ≡ map (λ a. a + 1) image.live → IsValid (record image { version = Two; roots = Some roots })
  upgraded-IsValid reached none roots e =
      let long = length-map image.live (λ a. a + 1) in
      let same = ap length e in
      record {
        own = valid.own;
        lawful = valid.lawful;
        limits = valid.limits;
        allowed = allowed_two image.version image.region_log (heap_words image) (sym valid.versioned ∙ ap is_some none) valid.allowed;
        allowance_fits = valid.allowance_fits;
        words_fit = valid.words_fit;
        versioned = refl;
        live_list = record { sound = λ k d l. sound_same image Two (Some roots) (get_or image.live k d) (valid.live_list.sound k d l); apart = valid.live_list.apart; references = valid.live_list.references };
        rooted = record {
          few = let few = valid.limits.few_live in omega arith;
          counted = let few = valid.limits.few_live in let words = few_listed image valid none in omega arith;
          inside = subst (λ xs. All (λ w. w ≤ heap_words image) xs) (sym e) (All-from_get_or (λ w. w ≤ heap_words image) (map (λ a. a + 1) image.live) 0 (λ i l.
              let m : i < length image.live = omega arith in
              let at : get_or (map (λ a. a + 1) image.live) i 0 ≡ get_or image.live i 0 + 1 = get_or-map (λ a. a + 1) image.live i 0 0 m in
              let b = live_below i m in
              omega arith));
          reached = reached ∙ ap (reachable image) (sym e) ∙ sym (reachable-words image Two image.live (Some roots) roots);
        };
      }

-- version 3 allows what any version does
allowed_three : (v : Version) (log words : ℕ) → Allows v log words → Allows Three log words
allowed_three One log words a = record {
  region_log_high = let high : log ≤ 16 = a.region_log_high in omega arith;
  few_words = let few : words ≤ 4194304 = a.few_words in omega arith;
  few_regions = let few : words / 2 ^ log ≤ 16384 = a.few_regions in omega arith;
}
allowed_three Two log words a = record {
  region_log_high = let high : log ≤ 16 = a.region_log_high in omega arith;
  few_words = let few : words ≤ 4194304 = a.few_words in omega arith;
  few_regions = let few : words / 2 ^ log ≤ 16384 = a.few_regions in omega arith;
}
allowed_three Three log words a = a

-- roots stay roots in version 3
roots_in_three : (image : HeapImage) (roots : Option (List ℕ)) → IfSome roots (AreRoots image) → IfSome roots (AreRoots (in_version_three image))
roots_in_three image None are = tt
roots_in_three image (Some roots) are = record {
  few = are.few;
  counted = are.counted;
  inside = are.inside;
  reached = are.reached ∙ sym (reachable-words image Three image.live image.roots roots);
}

-- an image with roots is one of version 3, too
pub in_version_three-IsValid : (image : HeapImage) → IsValid image → is_some image.roots ≡ true → IsValid (in_version_three image)
in_version_three-IsValid image valid some = record {
  own = valid.own;
  lawful = valid.lawful;
  limits = valid.limits;
  allowed = allowed_three image.version image.region_log (heap_words image) valid.allowed;
  allowance_fits = valid.allowance_fits;
  words_fit = valid.words_fit;
  versioned = some;
  live_list = record { sound = λ k d l. sound_same image Three image.roots (get_or image.live k d) (valid.live_list.sound k d l); apart = valid.live_list.apart; references = valid.live_list.references };
  rooted = roots_in_three image image.roots valid.rooted;
}

-- an image with roots stays
by_roots : (image : HeapImage) (version : Version) → image.version ≡ version → (roots : Option (List ℕ)) → image.roots ≡ roots → is_some roots ≡ true → has_roots version ≡ true
    → image ≡ (record image { version = upgraded_version version; roots = Some (roots_or (map (λ a. a + 1) image.live) roots) })
by_roots image version v None e s h = absurd (true≢false (sym s))
by_roots image One v (Some roots) e s h = absurd (true≢false (sym h))
by_roots image Two v (Some roots) e s h = λ i. record { version = v i; layout = image.layout; region_log = image.region_log; allowance = image.allowance; words = image.words; live = image.live; roots = e i }
by_roots image Three v (Some roots) e s h = λ i. record { version = v i; layout = image.layout; region_log = image.region_log; allowance = image.allowance; words = image.words; live = image.live; roots = e i }

pub upgraded-same : (image : HeapImage) (version : Version) → version ≡ image.version → is_some image.roots ≡ has_roots version → has_roots version ≡ true → image ≡ upgraded image
upgraded-same image version v is h = by_roots image image.version refl image.roots refl (is ∙ h) (ap has_roots (sym v) ∙ h)

none_of : (roots : Option (List ℕ)) → is_some roots ≡ false → roots ≡ None
none_of None h = refl
none_of (Some roots) h = absurd (true≢false h)

pub rootless : (image : HeapImage) (version : Version) → is_some image.roots ≡ has_roots version → has_roots version ≡ false → image.roots ≡ None
rootless image version is h = none_of image.roots (is ∙ h)

two_of : (v : Version) → has_roots v ≡ false → upgraded_version v ≡ Two
two_of One h = refl
two_of Two h = refl
two_of Three h = absurd (true≢false h)

pub upgraded-rootless : (image : HeapImage) (roots : List ℕ) → image.roots ≡ None → has_roots image.version ≡ false → roots ≡ map (λ a. a + 1) image.live → (record image { version = Two; roots = Some roots }) ≡ upgraded image
upgraded-rootless image roots none listed e =
    ap (λ xs. record image { version = Two; roots = Some xs }) (e ∙ sym (ap (roots_or (map (λ a. a + 1) image.live)) none))
    ∙ ap (λ v. record image { version = v; roots = Some (roots_or (map (λ a. a + 1) image.live) image.roots) }) (sym (two_of image.version listed))
