use Rattle.std.proofs.Common.{◌≡◌, ℕ, ◌+◌, ◌-◌, ◌*◌, ◌<◌, ◌||◌, inl, inr, min, List, All, length, get_or, map, take, drop, ap, ◌∙◌, sym, eqb, arith}
use Rattle.std.specs.List.{list_any}
use Rattle.std.proofs.lemmas.Bool.{cases_lt, eqb-true, eq-eqb}
use Rattle.std.proofs.lemmas.List.{take_all, length-take, length-drop}
use Rattle.std.proofs.lemmas.List.Elements.{All-take, All-drop}
use Rattle.object_heap.specs.HeapImage.{HeapImage, HasSoundHeader, size_at, end_of}
use Rattle.object_heap.specs.Bits.{has}
use Rattle.mark_bitmap.proofs.Lemmas.Tests.{same_tests}
use Rattle.mark_bitmap.proofs.Lemmas.Runs.{list_any-same}
use Rattle.mark_bitmap.proofs.objects.mark_ends_of.Goals as goal

-- a piece of a list, of which the last may be shorter
piece-is : (xs : List ℕ) (p to : ℕ) → to ≡ min (length xs) (p + 64) → take (to - p) (drop p xs) ≡ take 64 (drop p xs)
piece-is xs p to is = elim (cases_lt (length xs) (p + 64)) [
  | inl short ↦
      let rest : length (drop p xs) ≡ length xs - p = length-drop p xs in
      take_all (to - p) (drop p xs) (omega arith) ∙ sym (take_all 64 (drop p xs) (omega arith))
  | inr long ↦ let n : to - p ≡ 64 = omega arith in ap (λ m. take m (drop p xs)) n
]

-- an object ends before this place where its last word is the one before it
last : (image : HeapImage) (a k : ℕ) → 0 < size_at image a → eqb (end_of image a - 1) k ≡ eqb (end_of image a) (k + 1)
last image a k some = same_tests (eqb (end_of image a - 1) k) (eqb (end_of image a) (k + 1))
    (λ t. let e : end_of image a - 1 ≡ k = eqb-true (end_of image a - 1) k t in eq-eqb (end_of image a) (k + 1) (omega arith))
    (λ t. let e : end_of image a ≡ k + 1 = eqb-true (end_of image a) (k + 1) t in eq-eqb (end_of image a - 1) k (omega arith))

pub returns-clause-bits : goal.returns-clause-bits
returns-clause-bits c = λ k inside.
    let image : HeapImage = c.args.image.now in
    let live : List ℕ = c.live-objects.result.now in
    let same : live ≡ image.live = c.live-objects.ensures.value in
    let p : ℕ = c.args.piece * 64 in
    let to : ℕ = c.min-to.result in
    let is : to ≡ min (length live) (p + 64) = c.min-to.ensures in
    let objects : List ℕ = take (to - p) (drop p live) in
    let place : ℕ = 64 * c.args.start + k in
    let begin : p < length live = rw same (omega (arith, c.requires.piece)) in
    let rest : length (drop p live) ≡ length live - p = length-drop p live in
    let long : length objects ≡ to - p = length-take (to - p) (drop p live) ∙ omega arith in
    let sound : All (HasSoundHeader image) objects = rw same (All-take (HasSoundHeader image) (to - p) (drop p image.live) (All-drop (HasSoundHeader image) p image.live c.live-objects.ensures.valid.live_list.sound)) in
    let lasts : take (to - p) c.last_words-lasts.result ≡ map (λ a. end_of image a - 1) objects = c.last_words-lasts.ensures ∙ ap (λ (l : List ℕ). map (λ a. end_of image a - 1) (take (to - p) (drop p l))) (sym same) in
    let start : p ≡ 64 * c.args.piece = omega arith in
    c.insert_within.ensures.bits k inside
    ∙ ap (λ b. has c.args.ends.now k || b)
    (ap (list_any (λ a. eqb a place)) lasts
    ∙ list_any-same (λ a. eqb a place) (λ a. eqb (end_of image a) (place + 1)) (λ a. end_of image a - 1) objects (λ i l. last image (get_or objects i 0) place (sound i 0 l).header)
    ∙ ap (list_any (λ a. eqb (end_of image a) (place + 1))) (piece-is live p to is)
    ∙ ap (λ (l : List ℕ). list_any (λ a. eqb (end_of image a) (place + 1)) (take 64 (drop p l))) same
    ∙ ap (λ n. list_any (λ a. eqb (end_of image a) (place + 1)) (take 64 (drop n image.live))) start)
