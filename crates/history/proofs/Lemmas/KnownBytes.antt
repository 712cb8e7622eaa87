-- The known bytes of a device over several calls, and bytes that are put back before others.
use Rattle.std.proofs.Common.{◌≡◌, ℕ, suc, ◌+◌, ◌≤◌, List, [], ◌∷◌, ◌++◌, length, take, refl, sym, ◌∙◌, ap, arith, append_assoc, length-take, Option, Some, None}
use Rattle.std.proofs.lemmas.List.{take-append-le}
use Rattle.std.specs.Io.KnownBytes.{Consumes, prepend_known}
use borrow.Rule.Slice.PartMut.{put_mid, post_of}

pub consumes_none : (known : Option (List ℕ)) → Consumes known known []
consumes_none None = tt
consumes_none (Some xs) = refl

pub consumes_more : (a b c : Option (List ℕ)) (xs ys : List ℕ) → Consumes a b xs → Consumes b c ys → Consumes a c (xs ++ ys)
consumes_more None b c xs ys h k = tt
consumes_more (Some as') None c xs ys h k = absurd h
consumes_more (Some as') (Some bs) None xs ys h k = absurd k
consumes_more (Some as') (Some bs) (Some cs) xs ys h k = h ∙ ap (λ l. xs ++ l) k ∙ sym (append_assoc xs ys cs)

-- what was held is read
pub consumes_held : (before left : Option (List ℕ)) (read held taken kept : List ℕ) → held ≡ taken ++ kept → Consumes before (prepend_known held left) read → Consumes before (prepend_known kept left) (read ++ taken)
consumes_held None left read held taken kept e h = tt
consumes_held (Some xs) None read held taken kept e h = absurd h
consumes_held (Some xs) (Some ys) read held taken kept e h = h ∙ ap (λ l. read ++ (l ++ ys)) e ∙ ap (λ l. read ++ l) (append_assoc taken kept ys) ∙ sym (append_assoc read taken (kept ++ ys))

take_past : (xs ys : List ℕ) (a n : ℕ) → length xs ≡ a → take (a + n) (xs ++ ys) ≡ xs ++ take n ys
take_past [] ys a n h = let e : a + n ≡ n = omega arith in rw e refl
take_past (x ∷ xs) ys a n h =
    let e : a + n ≡ suc (length xs + n) = omega arith in
    rw e (ap (λ l. x ∷ l) (take_past xs ys (length xs) n refl))

-- the first n of ys were put after the first a of xs
pub take_put_back : (xs ys : List ℕ) (a k n : ℕ) → a ≤ length xs → n ≤ length ys → take (a + n) (put_mid a k xs ys) ≡ take a xs ++ take n ys
take_put_back xs ys a k n h l =
    let at : length (take a xs) ≡ a = let t = length-take a xs in omega arith in
    take_past (take a xs) (ys ++ post_of a k xs) a n at ∙ ap (λ zs. take a xs ++ zs) (take-append-le n ys (post_of a k xs) l)
