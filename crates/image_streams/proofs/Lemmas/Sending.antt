-- Bytes that are held and given, over several calls.
use Rattle.std.proofs.Common.{◌≡◌, ℕ, zero, suc, ◌+◌, ◌*◌, List, [], ◌++◌, length, take, drop, replicate, refl, sym, ◌∙◌, ap, subst, arith, append_assoc, length-take, Option, Result, Ok, Err}
use Rattle.std.proofs.lemmas.List.{append-nil, replicate-append-replicate, take-append-le, take-append-drop, take-take, take_all}
use Rattle.std.proofs.lemmas.List.Concat.{flat_map-append}
use Rattle.std.specs.Result.{OnErr}
use Rattle.std.specs.Int.{w64, to_le_bytes}
use Rattle.std.specs.Io.KnownBytes.{Appends}
use Rattle.image_streams.specs.Numbers.{numbers}
use Rattle.image_streams.specs.Outgoing.{Sends, TakesBeginning}
use Rattle.image_streams.proofs.Lemmas.Known.{appends_more, appends_none}
use Rattle.image_streams.proofs.Lemmas.Pieces.{take_past, take_more}

pub sends_none : (took : Option (List ℕ)) (held : List ℕ) → Sends took took held held []
sends_none took held = ([], appends_none took, sym (append-nil held))

pub sends_more : (a b c : Option (List ℕ)) (h i j x y : List ℕ) → Sends a b h i x → Sends b c i j y → Sends a c h j (x ++ y)
sends_more a b c h i j x y s t = (
  s.0 ++ t.0,
  appends_more a b c s.0 t.0 s.1 t.1,
  append_assoc s.0 t.0 j ∙ ap (λ l. s.0 ++ l) t.2 ∙ sym (append_assoc s.0 i y) ∙ ap (λ l. l ++ y) s.2 ∙ append_assoc h x y,
)

-- what is held grows by what is written
pub sends_held : (a b : Option (List ℕ)) (h i j x y : List ℕ) → Sends a b h i x → j ≡ i ++ y → Sends a b h j (x ++ y)
sends_held a b h i j x y s e = (s.0, s.1, ap (λ l. s.0 ++ l) e ∙ sym (append_assoc s.0 i y) ∙ ap (λ l. l ++ y) s.2 ∙ append_assoc h x y)

-- a beginning by its own length
by_length : (n : ℕ) (xs : List ℕ) → take n xs ≡ take (length (take n xs)) xs
by_length n xs =
    let l = length-take n xs in
    sym (take_all (length (take n xs)) (take n xs) (omega arith)) ∙ take-take (length (take n xs)) n xs (omega arith)

-- a beginning of the first of two pieces
pub beginning_of_first : (a b : Option (List ℕ)) (x y : List ℕ) → TakesBeginning a b x → TakesBeginning a b (x ++ y)
beginning_of_first a b x y t =
    let k : ℕ = length (take t.0 x) in
    let l = length-take t.0 x in
    let same : take t.0 x ≡ take k (x ++ y) = by_length t.0 x ∙ sym (take-append-le k x y (omega arith)) in
    (k, subst (λ bytes. Appends a b bytes) same t.1)

-- after a failure a beginning was taken, whatever else would have been written
pub beginning_after : (a b c : Option (List ℕ)) (h i x rest : List ℕ) → Sends a b h i x → TakesBeginning b c (i ++ rest) → TakesBeginning a c (h ++ (x ++ rest))
beginning_after a b c h i x rest s t =
    let whole : s.0 ++ (i ++ rest) ≡ h ++ (x ++ rest) = sym (append_assoc s.0 i rest) ∙ ap (λ p. p ++ rest) s.2 ∙ append_assoc h x rest in
    let taken : s.0 ++ take t.0 (i ++ rest) ≡ take (length s.0 + t.0) (h ++ (x ++ rest)) = sym (take_past s.0 (i ++ rest) (length s.0) t.0 refl) ∙ ap (take (length s.0 + t.0)) whole in
    (length s.0 + t.0, subst (λ bytes. Appends a c bytes) taken (appends_more a b c s.0 (take t.0 (i ++ rest)) s.1 t.1))

-- the bytes of numbers, those so far and the others
pub numbers_split : (words : List ℕ) (done : ℕ) → numbers words ≡ numbers (take done words) ++ numbers (drop done words)
numbers_split words done = ap numbers (sym (take-append-drop done words)) ∙ flat_map-append (to_le_bytes w64) (take done words) (drop done words)

pub numbers_more : (words : List ℕ) (done n : ℕ) → numbers (take (done + n) words) ≡ numbers (take done words) ++ numbers (take n (drop done words))
numbers_more words done n = ap numbers (take_more words done n) ∙ flat_map-append (to_le_bytes w64) (take done words) (take n (drop done words))

-- with one more piece a device failed, and more would have come
pub failed_piece : (a b c : Option (List ℕ)) (held x piece more : List ℕ) → Sends a b [] held x → TakesBeginning b c (held ++ piece) → TakesBeginning a c (x ++ (piece ++ more))
failed_piece a b c held x piece more s t =
    let longer = subst (λ bytes. TakesBeginning b c bytes) (append_assoc held piece more) (beginning_of_first b c (held ++ piece) more t) in
    beginning_after a b c [] held x (piece ++ more) s longer

-- the first bytes went out, and none was held
pub sends_first : (a b : Option (List ℕ)) (bytes : List ℕ) → Appends a b bytes → Sends a b [] [] bytes
sends_first a b bytes h = (bytes, h, append-nil bytes)

-- all that was written went out
pub all_sent : (a b c : Option (List ℕ)) (held x : List ℕ) → Sends a b [] held x → Appends b c held → Appends a c x
all_sent a b c held x s h = subst (λ bytes. Appends a c bytes) s.2 (appends_more a b c s.0 held s.1 h)

-- the bytes of zeros are zeros, eight for each
pub numbers_of_zeros : (n : ℕ) → numbers (replicate n 0) ≡ replicate (8 * n) 0
numbers_of_zeros zero = refl
numbers_of_zeros (suc n) =
    let more : 8 + 8 * n ≡ 8 * suc n = omega arith in
    ap (λ bytes. replicate 8 0 ++ bytes) (numbers_of_zeros n) ∙ replicate-append-replicate 8 (8 * n) 0 ∙ ap (λ k. replicate {A = ℕ} k 0) more

-- the bytes of words that are all zeros
pub zeros_of : (words : List ℕ) → words ≡ replicate (length words) 0 → replicate (8 * length words) 0 ≡ numbers words
zeros_of words e = sym (numbers_of_zeros (length words)) ∙ ap numbers (sym e)

-- what was held went out, and then the bytes of words that are all zeros
pub sends_zeros : (a b c : Option (List ℕ)) (held holds words : List ℕ) → Appends a b held → holds ≡ [] → words ≡ replicate (length words) 0 → Appends b c (replicate (8 * length words) 0) → Sends a c held holds (numbers words)
sends_zeros a b c held holds words h none e zeros = (
  held ++ numbers words,
  appends_more a b c held (numbers words) h (subst (λ bytes. Appends b c bytes) (zeros_of words e) zeros),
  ap (λ l. (held ++ numbers words) ++ l) none ∙ append-nil (held ++ numbers words),
)

-- what was held went out, and then some of the zeros
pub beginning_of_zeros : (a b c : Option (List ℕ)) (held words : List ℕ) → Appends a b held → words ≡ replicate (length words) 0 → TakesBeginning b c (replicate (8 * length words) 0) → TakesBeginning a c (held ++ numbers words)
beginning_of_zeros a b c held words h e t = beginning_after a b c held [] [] (numbers words) (held, h, refl) (subst (λ bytes. TakesBeginning b c bytes) (zeros_of words e) t)

-- none is held
pub none_held : (end : ℕ) (bytes : List ℕ) → end ≡ 0 → take (8 * end) bytes ≡ []
none_held end bytes e = ap (λ n. take (8 * n) bytes) e

-- what holds in any case
pub on_err_of : {T E P : Type 0} (r : Result T E) → P → OnErr r P
on_err_of (Ok _) p = tt
on_err_of (Err _) p = p
