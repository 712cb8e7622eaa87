-- The bytes of an image, one after the other.
use Rattle.std.proofs.Common.{◌≡◌, ℕ, ◌+◌, ◌<◌, ◌≤◌, List, [], ◌∷◌, ◌++◌, length, take, drop, set, get_or, reverse, sym, ap, ◌∙◌, arith, append_assoc, length-append}
use Rattle.std.specs.Prelude.{flat_map}
use Rattle.std.specs.Int.{w64, to_le_bytes}
use Rattle.std.proofs.lemmas.List.{drop_more, drop_all, length-take-le, reverse-append, take_more_set}
use Rattle.image_streams.specs.Numbers.{numbers}
use Rattle.heap_text.proofs.Lemmas.TokenSteps.{take_token}

-- the next chunk begins where the one before it ends
pub next_chunk_left : {C : Type 0} (items : C → List ℕ) (chunk tail : List ℕ) (index : ℕ) (old new : List C) (next : C) → length chunk ≤ index → old ≡ new ++ (next ∷ [])
    → items next ++ (flat_map items (reverse new) ++ tail) ≡ drop index chunk ++ (flat_map items (reverse old) ++ tail)
next_chunk_left items chunk tail index old new next past is =
    let order : reverse old ≡ next ∷ reverse new = ap (λ (xs : List _). reverse xs) is ∙ reverse-append new (next ∷ []) in
    sym (append_assoc (items next) (flat_map items (reverse new)) tail)
    ∙ (ap (λ (xs : List _). flat_map items xs ++ tail) (sym order)
    ∙ ap (λ (t : List ℕ). t ++ (flat_map items (reverse old) ++ tail)) (sym (drop_all index chunk past)))

-- the next number of a chunk
pub next_of_chunk : (chunk rest : List ℕ) (index : ℕ) → index < length chunk → drop index chunk ++ rest ≡ get_or chunk index 0 ∷ (drop (index + 1) chunk ++ rest)
next_of_chunk chunk rest index inside = ap (λ (t : List ℕ). t ++ rest) (drop_more chunk index 0 inside)

-- the next number comes after all chunks
pub next_of_tail : {C : Type 0} (items : C → List ℕ) (chunk tail : List ℕ) (index : ℕ) (chunks : List C) → length chunk ≤ index → chunks ≡ []
    → drop index chunk ++ (flat_map items (reverse chunks) ++ tail) ≡ tail
next_of_tail items chunk tail index chunks past none =
    ap (λ (t : List ℕ). t ++ (flat_map items (reverse chunks) ++ tail)) (drop_all index chunk past)
    ∙ ap (λ (xs : List _). flat_map items (reverse xs) ++ tail) none

-- the bytes of a number take the place of those that were given
pub number_bytes_left : (bytes new left more : List ℕ) (byte number : ℕ) → length bytes ≤ byte → drop 24 new ≡ to_le_bytes w64 number → left ≡ number ∷ more
    → drop 24 new ++ numbers more ≡ drop byte bytes ++ numbers left
number_bytes_left bytes new left more byte number past is next =
    ap (λ (t : List ℕ). t ++ numbers more) is
    ∙ (sym (ap numbers next) ∙ ap (λ (t : List ℕ). t ++ numbers left) (sym (drop_all byte bytes past)))

pub no_bytes_left : (bytes left : List ℕ) (byte : ℕ) → length bytes ≤ byte → left ≡ [] → drop byte bytes ++ numbers left ≡ []
no_bytes_left bytes left byte past none = ap (λ (t : List ℕ). t ++ numbers left) (drop_all byte bytes past) ∙ ap numbers none

-- a whole number more was given
pub number_given : (whole buffer row bytes left more : List ℕ) (count byte number : ℕ) → count + 8 ≤ length buffer → length row ≡ 8 → length bytes ≤ byte
    → whole ≡ take count buffer ++ (drop byte bytes ++ numbers left) → left ≡ number ∷ more → row ≡ to_le_bytes w64 number
    → whole ≡ take (count + 8) (take count buffer ++ (row ++ drop 8 (drop count buffer))) ++ (drop byte bytes ++ numbers more)
number_given whole buffer row bytes left more count byte number inside eight past is next row_is =
    let front : List ℕ = take count buffer in
    let back : List ℕ = drop 8 (drop count buffer) in
    let none : drop byte bytes ≡ [] = drop_all byte bytes past in
    let len : count + 8 ≡ length (front ++ row) = omega (arith, eight, length-append front row, length-take-le count buffer (omega (arith, inside))) in
    let put : take (count + 8) (front ++ (row ++ back)) ≡ front ++ row =
    ap (λ (t : List ℕ). take (count + 8) t) (sym (append_assoc front row back))
    ∙ (ap (λ (n : ℕ). take n ((front ++ row) ++ back)) len ∙ take_token (front ++ row) back) in
    is
    ∙ (ap (λ (t : List ℕ). front ++ (t ++ numbers left)) none
    ∙ (ap (λ (t : List ℕ). front ++ numbers t) next
    ∙ (ap (λ (t : List ℕ). front ++ (t ++ numbers more)) (sym row_is)
    ∙ (sym (append_assoc front row (numbers more))
    ∙ (ap (λ (t : List ℕ). t ++ numbers more) (sym put)
    ∙ ap (λ (t : List ℕ). take (count + 8) (front ++ (row ++ back)) ++ (t ++ numbers more)) (sym none))))))

-- one byte more was given
pub byte_given : (whole left rest buffer : List ℕ) (count byte : ℕ) → count < length buffer → whole ≡ take count buffer ++ left → left ≡ byte ∷ rest
    → whole ≡ take (count + 1) (set buffer count byte) ++ rest
byte_given whole left rest buffer count byte inside is next =
    is ∙ (ap (λ (t : List ℕ). take count buffer ++ t) next
    ∙ (sym (append_assoc (take count buffer) (byte ∷ []) rest) ∙ ap (λ (t : List ℕ). t ++ rest) (sym (take_more_set buffer count byte inside))))
