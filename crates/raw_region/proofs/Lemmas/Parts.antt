-- How the parts of a move make up the whole.
--     with_words-append     words written after those written before
--     part-with_words       what stands above the written words is as it was
--     with_words-more       c words more move down, after i of them have
use Rattle.std.proofs.Common.{◌≡◌, ℕ, ◌+◌, ◌-◌, ◌≤◌, List, ◌++◌, length, take, drop, sym, ap, ◌∙◌, arith}
use Rattle.std.proofs.lemmas.List.{append_assoc, length-take-le, length-drop, length-append, drop-drop}
use Rattle.std.proofs.Math.Seq.{take-add, take-append-add, drop-append-add, take-append_seam}
use Rattle.raw_region.specs.Region.{with_words, part}

take-both : (front ys rest : List ℕ) → take (length front + length ys) (front ++ (ys ++ rest)) ≡ front ++ ys
take-both front ys rest = take-append-add front (ys ++ rest) (length ys) ∙ ap (λ l. front ++ l) (take-append_seam ys rest)

drop-both : (front ys rest : List ℕ) (n : ℕ) → drop (length front + (length ys + n)) (front ++ (ys ++ rest)) ≡ drop n rest
drop-both front ys rest n = drop-append-add front (ys ++ rest) (length ys + n) ∙ drop-append-add ys rest n

pub with_words-append : (xs : List ℕ) (at : ℕ) (ys zs : List ℕ) → at ≤ length xs → with_words (with_words xs at ys) (at + length ys) zs ≡ with_words xs at (ys ++ zs)
with_words-append xs at ys zs inside =
    let front = take at xs in
    let rest = drop (at + length ys) xs in
    let once = front ++ (ys ++ rest) in
    let long : length front ≡ at = length-take-le at xs inside in
    let end = at + length ys + length zs in
    ap (λ k. take (k + length ys) once ++ (zs ++ drop end once)) (sym long)
    ∙ ap (λ l. l ++ (zs ++ drop end once)) (take-both front ys rest)
    ∙ ap (λ k. (front ++ ys) ++ (zs ++ drop k once)) (let l = long in omega arith)
    ∙ ap (λ l. (front ++ ys) ++ (zs ++ l)) (drop-both front ys rest (length zs) ∙ drop-drop (length zs) (at + length ys) xs)
    ∙ append_assoc front ys (zs ++ drop end xs)
    ∙ ap (λ l. front ++ l) (sym (append_assoc ys zs (drop end xs)))
    ∙ ap (λ k. front ++ ((ys ++ zs) ++ drop k xs)) (omega (arith, length-append ys zs))

pub part-with_words : (xs : List ℕ) (at : ℕ) (ys : List ℕ) (from n : ℕ) → at ≤ length xs → at + length ys ≤ from → part (with_words xs at ys) from n ≡ part xs from n
part-with_words xs at ys from n inside above =
    let front = take at xs in
    let rest = drop (at + length ys) xs in
    let long : length front ≡ at = length-take-le at xs inside in
    let past = from - (at + length ys) in
    ap (take n)
    (ap (λ k. drop k (front ++ (ys ++ rest))) (let l = long in omega arith)
    ∙ drop-both front ys rest past
    ∙ drop-drop past (at + length ys) xs
    ∙ ap (λ k. drop k xs) (omega arith))

length-part : (xs : List ℕ) (from n : ℕ) → from + n ≤ length xs → length (part xs from n) ≡ n
length-part xs from n inside = length-take-le n (drop from xs) (omega (arith, length-drop from xs))

pub with_words-more : (xs : List ℕ) (from to i c : ℕ) → to ≤ from → from + i ≤ length xs
    → with_words (with_words xs to (part xs from i)) (to + i) (part (with_words xs to (part xs from i)) (from + i) c) ≡ with_words xs to (part xs from (i + c))
with_words-more xs from to i c down inside =
    let moved = part xs from i in
    let once = with_words xs to moved in
    let long : length moved ≡ i = length-part xs from i inside in
    ap (λ l. with_words once (to + i) l) (part-with_words xs to moved (from + i) c (omega arith) (let l = long in omega arith))
    ∙ ap (λ k. with_words once (to + k) (part xs (from + i) c)) (sym long)
    ∙ with_words-append xs to moved (part xs (from + i) c) (omega arith)
    ∙ ap (with_words xs to) (sym (take-add i c (drop from xs) ∙ ap (λ l. moved ++ take c l) (drop-drop i from xs)))
