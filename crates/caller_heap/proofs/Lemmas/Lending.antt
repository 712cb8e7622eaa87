-- Words that are lent in their order and come back.
use Rattle.std.proofs.Common.{◌≡◌, ℕ, ◌+◌, ◌^◌, ◌<◌, ◌≤◌, inl, inr, Bool, true, List, [], ◌∷◌, ◌++◌, length, get_or, take, drop, set, refl, sym, ◌∙◌, ap, subst, arith}
use Rattle.std.proofs.Math.Nat.{one-le-pow, pow-le-pow_right}
use Rattle.std.proofs.lemmas.Bool.{cases_lt}
use Rattle.std.proofs.lemmas.List.{map-append, map_more, take-append-drop, take_more_set, get_or-drop, drop-set-lt, drop-drop, drop-set, drop_more}
use Rattle.std.proofs.lemmas.List.Elements.{All-head, All-tail, All-push}
use Rattle.std.specs.Prelude.{All, map}
use Rattle.caller_heap.specs.Lent.{Lent, IsHeld, IsGone, content, held, words_in}

-- the content of words that are held is what they are
pub held_told : (words : List Lent) → All IsHeld words → map held (map words_in words) ≡ map content words
held_told [] h = refl
held_told (w ∷ words) h =
    let here : held (words_in w) ≡ content w = ap (λ b. (b, w.3)) (sym (All-head IsHeld w words h)) in
    ap (λ t. t ∷ map held (map words_in words)) here ∙ ap (λ ts. content w ∷ ts) (held_told words (All-tail IsHeld w words h))

-- with the first ones back, and the others never lent, all are as they were
pub all_back : (before middle after : List Lent) (regions : List (List ℕ)) (n : ℕ) → regions ≡ map words_in (take n before) → All IsHeld (take n before) → drop n middle ≡ drop n before
    → map content after ≡ map held regions ++ map content (drop n middle) → map content after ≡ map content before
all_back before middle after regions n are held_all rest kept =
    kept
    ∙ ap (λ bs. map held bs ++ map content (drop n middle)) are
    ∙ ap (λ ts. ts ++ map content (drop n middle)) (held_told (take n before) held_all)
    ∙ ap (λ ws. map content (take n before) ++ map content ws) rest
    ∙ sym (map-append content (take n before) (drop n before))
    ∙ ap (map content) (take-append-drop n before)

-- ---- the next place of a list, the rest of which is as it was

pub rest_at : {X : Type 0} (now before : List X) (i : ℕ) (d : X) → drop i now ≡ drop i before → get_or now i d ≡ get_or before i d
rest_at now before i d h =
    let e : i + 0 ≡ i = omega arith in
    ap (λ n. get_or now n d) (sym e) ∙ sym (get_or-drop i now 0 d) ∙ ap (λ xs. get_or xs 0 d) h ∙ get_or-drop i before 0 d ∙ ap (λ n. get_or before n d) e

pub rest_more : {X : Type 0} (now before : List X) (i : ℕ) (new : X) → drop i now ≡ drop i before → drop (i + 1) (set now i new) ≡ drop (i + 1) before
rest_more now before i new h =
    drop-set-lt (i + 1) now i new (omega arith) ∙ sym (drop-drop 1 i now) ∙ ap (drop 1) h ∙ drop-drop 1 i before

pub gone_more : (now : List Lent) (i : ℕ) (new : Lent) → i < length now → All IsGone (take i now) → IsGone new → All IsGone (take (i + 1) (set now i new))
gone_more now i new inside so_far gone = subst (All IsGone) (sym (take_more_set now i new inside)) (All-push IsGone (take i now) new so_far gone)

pub lent_more : (regions : List (List ℕ)) (before : List Lent) (i : ℕ) (w : Lent) → i < length before → get_or before i w ≡ w → regions ≡ map words_in (take i before) → regions ++ words_in w ∷ [] ≡ map words_in (take (i + 1) before)
lent_more regions before i w inside is so_far =
    ap (λ xs. xs ++ words_in w ∷ []) so_far
    ∙ ap (λ v. map words_in (take i before) ++ words_in v ∷ []) (sym is)
    ∙ sym (map_more words_in before i w inside)

-- ---- the last region that is still out, and the place before those that are back

pub kept_more : (now : List Lent) (regions : List (List ℕ)) (region : List ℕ) (r : ℕ) (new : Lent) (rest : List (Bool × List ℕ)) → r < length now → r < length regions → get_or regions r region ≡ region → content new ≡ held region
    → map content (drop (r + 1) now) ≡ map held (drop (r + 1) regions) ++ rest → map content (drop r (set now r new)) ≡ map held (drop r regions) ++ rest
kept_more now regions region r new rest inside below is back so_far =
    ap (map content) (drop-set now r new inside)
    ∙ ap (λ t. t ∷ map content (drop (r + 1) now)) back
    ∙ ap (λ ts. held region ∷ ts) so_far
    ∙ ap (λ b. (held b ∷ map held (drop (r + 1) regions)) ++ rest) (sym is)
    ∙ ap (λ bs. map held bs ++ rest) (sym (drop_more regions r region below))

pub same_told : (w : Lent) (block : List ℕ) → w.0 ≡ true → w.3 ≡ block → content w ≡ held block
same_told w block is_held is = ap (λ b. (b, w.3)) is_held ∙ ap held is

-- ---- the sizes of regions

pub small_region : (log : ℕ) → log ≤ 20 → (1 ≤ 2 ^ log) × (2 ^ log ≤ 1048576)
small_region log high =
    let few : 2 ^ log ≤ 2 ^ 20 = pow-le-pow_right {n = 2} (omega arith) high in
    (one-le-pow log 2 (omega arith), omega arith)

-- a size that isn't 0 is that of a region
pub region_is : (log size : ℕ) → (log ≤ 20 → size ≡ 2 ^ log) → (20 < log → size ≡ 0) → 1 ≤ size → size ≡ 2 ^ log
region_is log size sized none some = elim (cases_lt 20 log) [ inl large ↦ let zero = none large in let no : ⊥ = omega arith in absurd no | inr small ↦ sized small ]
