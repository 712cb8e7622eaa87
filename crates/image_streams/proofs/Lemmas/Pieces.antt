-- A list that comes or goes piece by piece.
use Rattle.std.proofs.Common.{◌≡◌, ℕ, zero, suc, ◌+◌, ◌-◌, ◌≤◌, List, [], ◌∷◌, ◌++◌, length, take, drop, refl, sym, ◌∙◌, ap, arith, length-take, length-drop}
use Rattle.std.proofs.lemmas.List.{take-append-le, take-take, take_all}
use borrow.Rule.Slice.PartMut.{put_mid, post_of, mid_of, same_len_mid}

pub take_past : (xs ys : List ℕ) (a n : ℕ) → length xs ≡ a → take (a + n) (xs ++ ys) ≡ xs ++ take n ys
take_past [] ys a n h = let e : a + n ≡ n = omega arith in rw e refl
take_past (x ∷ xs) ys a n h =
    let e : a + n ≡ suc (length xs + n) = omega arith in
    rw e (ap (λ l. x ∷ l) (take_past xs ys (length xs) n refl))

-- the first n of ys were put after the first a of xs
pub take_put_back : (xs ys : List ℕ) (a k n : ℕ) → a ≤ length xs → n ≤ length ys → take (a + n) (put_mid a k xs ys) ≡ take a xs ++ take n ys
take_put_back xs ys a k n h l =
    let at : length (take a xs) ≡ a = let t = length-take a xs in omega arith in
    take_past (take a xs) (ys ++ post_of a k xs) a n at ∙ ap (λ zs. take a xs ++ zs) (take-append-le n ys (post_of a k xs) l)

-- the first a of xs, and n more
pub take_more : (xs : List ℕ) (a n : ℕ) → take (a + n) xs ≡ take a xs ++ take n (drop a xs)
take_more xs zero n = let e : 0 + n ≡ n = omega arith in rw e refl
take_more [] (suc a) n = let e : suc a + n ≡ suc (a + n) = omega arith in rw e (sym (take_all n [] (omega arith)))
take_more (x ∷ xs) (suc a) n = let e : suc a + n ≡ suc (a + n) = omega arith in rw e (ap (λ l. x ∷ l) (take_more xs a n))

pub length-put_mid : (xs ys : List ℕ) (a : ℕ) → a ≤ length xs → length ys ≡ length xs - a → length (put_mid a (length xs - a) xs ys) ≡ length xs
length-put_mid xs ys a h e = same_len_mid a (length xs - a) xs ys (e ∙ sym (length_of_mid xs a))
  where
    length_of_mid : (xs : List ℕ) (a : ℕ) → length (mid_of a (length xs - a) xs) ≡ length xs - a
    length_of_mid xs a = let t = length-take (length xs - a) (drop a xs) in let d = length-drop a xs in omega arith

-- what is as long as the rest of a list
pub length_of_rest : (xs ys : List ℕ) (a : ℕ) → length ys ≡ length (mid_of a (length xs - a) xs) → length ys ≡ length xs - a
length_of_rest xs ys a e = let t = length-take (length xs - a) (drop a xs) in let d = length-drop a xs in omega arith

pub length_of_piece : (xs : List ℕ) (a n : ℕ) → n ≤ length (take (length xs - a) (drop a xs)) → n ≤ length xs - a
length_of_piece xs a n h = let t = length-take (length xs - a) (drop a xs) in omega arith

-- the first a of xs, and n more of the rest
pub take_piece : (xs : List ℕ) (a n : ℕ) → a ≤ length xs → n ≤ length xs - a → take (a + n) xs ≡ take a xs ++ take n (take (length xs - a) (drop a xs))
take_piece xs a n h l = take_more xs a n ∙ ap (λ zs. take a xs ++ zs) (sym (take-take n (length xs - a) (drop a xs) l))
