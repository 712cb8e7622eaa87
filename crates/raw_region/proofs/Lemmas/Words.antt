-- Words of bytes.
--     fits-part          a part of bytes is bytes
--     words_read         one more word after those of the first 8 * i bytes
use Rattle.std.proofs.Common.{◌≡◌, ℕ, zero, suc, ◌+◌, ◌-◌, ◌*◌, ◌<◌, ◌≤◌, List, [], ◌∷◌, ◌++◌, length, get_or, take, drop, flat_map, sym, ap, subst, ◌∙◌, lit<, arith}
use Rattle.core.proofs.ptr.Rows.{take_all}
use Rattle.std.proofs.lemmas.Nat.{le_bytes_8}
use Rattle.std.proofs.lemmas.List.{append-nil, length-take-le, length-drop}
use Rattle.std.proofs.lemmas.List.Concat.{flat_map-append}
use Rattle.std.proofs.Math.Seq.{take-add}
use Rattle.std.specs.Prelude.{slice_range}
use Rattle.std.specs.Int.{w64, to_le_bytes, from_le_bytes}

fits-drop : (o : ℕ) (xs : List ℕ) → ((i : ℕ) → get_or xs i 0 < 256) → (i : ℕ) → get_or (drop o xs) i 0 < 256
fits-drop zero xs h = h
fits-drop (suc o) [] h = h
fits-drop (suc o) (x ∷ xs) h = fits-drop o xs (λ i. h (suc i))

fits-take : (k : ℕ) (xs : List ℕ) → ((i : ℕ) → get_or xs i 0 < 256) → (i : ℕ) → get_or (take k xs) i 0 < 256
fits-take zero xs h i = lit< tt
fits-take (suc k) [] h i = h i
fits-take (suc k) (x ∷ xs) h zero = h zero
fits-take (suc k) (x ∷ xs) h (suc i) = fits-take k xs (λ j. h (suc j)) i

pub fits-part : (xs : List ℕ) (o k : ℕ) → ((i : ℕ) → get_or xs i 0 < 256) → (i : ℕ) → get_or (take k (drop o xs)) i 0 < 256
fits-part xs o k h = fits-take k (drop o xs) (fits-drop o xs h)

pub length-eight : (xs : List ℕ) (o : ℕ) → o + 8 ≤ length xs → length (slice_range xs o (o + 8)) ≡ 8
length-eight xs o inside = length-take-le (o + 8 - o) (drop o xs) (omega (arith, length-drop o xs)) ∙ omega arith

pub word_read : (part bs : List ℕ) (w : ℕ) → length part ≡ 8 → ((i : ℕ) → get_or part i 0 < 256) → bs ≡ take 8 part → w ≡ from_le_bytes w64 bs → to_le_bytes w64 w ≡ part
word_read part bs w long fits same is = le_bytes_8 part w long fits (is ∙ ap (from_le_bytes w64) (same ∙ subst (λ k. take k part ≡ part) long (take_all part)))

pub words_read : (ws bytes : List ℕ) (w i : ℕ) → flat_map (to_le_bytes w64) ws ≡ take (8 * i) bytes → to_le_bytes w64 w ≡ slice_range bytes (8 * i) (8 * i + 8)
    → flat_map (to_le_bytes w64) (ws ++ w ∷ []) ≡ take (8 * (i + 1)) bytes
words_read ws bytes w i before is =
    let eight : 8 * i + 8 - 8 * i ≡ 8 = omega arith in let more : 8 * i + 8 ≡ 8 * (i + 1) = omega arith in
    flat_map-append (to_le_bytes w64) ws (w ∷ [])
    ∙ ap (λ l. flat_map (to_le_bytes w64) ws ++ l) (append-nil (to_le_bytes w64 w) ∙ is ∙ ap (λ k. take k (drop (8 * i) bytes)) eight)
    ∙ ap (λ l. l ++ take 8 (drop (8 * i) bytes)) before
    ∙ sym (take-add (8 * i) 8 bytes)
    ∙ ap (λ k. take k bytes) more
