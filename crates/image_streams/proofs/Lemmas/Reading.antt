-- Numbers that were read from their bytes.
use Rattle.std.proofs.Common.{◌≡◌, ℕ, suc, ◌+◌, ◌-◌, ◌*◌, ◌≤◌, ◌<◌, List, [], ◌∷◌, ◌++◌, length, get_or, take, drop, refl, sym, ◌∙◌, ap, arith, length-take, length-drop, length-append, inl, inr, Option, Some, None}
use Rattle.std.proofs.lemmas.List.{take-append-drop, drop-drop, get_or_past}
use Rattle.std.proofs.lemmas.List.Elements.{All-get_or, All-take, All-drop, All-from_get_or}
use Rattle.std.proofs.lemmas.Bool.{cases_lt}
use Rattle.std.proofs.lemmas.Nat.{le_bytes_8}
use Rattle.std.specs.Prelude.{All, IfSome, slice_range}
use Rattle.std.specs.Io.KnownBytes.{Consumes, prepend_known}
use Rattle.std.specs.Int.{w64, to_le_bytes}
use Rattle.byteorder.specs.Endian.{IsRead, little_number}
use Rattle.byteorder.specs.Numbers.{little_from-take}
use Rattle.image_streams.specs.Numbers.{numbers}
use Rattle.image_streams.proofs.Lemmas.Pieces.{take_more}
use Rattle.image_streams.proofs.Lemmas.Counts.{length-numbers}

fits_all : (src : List ℕ) → ((i : ℕ) → get_or src i 0 < 256) → All (λ b. b < 256) src
fits_all src fit = All-from_get_or (λ b. b < 256) src 0 (λ i l. fit i)

all_fits : (src : List ℕ) → All (λ b. b < 256) src → (i : ℕ) → get_or src i 0 < 256
all_fits src h i = elim (cases_lt i (length src)) [ inl l ↦ All-get_or (λ b. b < 256) src i 0 l h | inr g ↦ let past = get_or_past src i 0 g in omega arith ]

take_fits : (n : ℕ) (src : List ℕ) → ((i : ℕ) → get_or src i 0 < 256) → (i : ℕ) → get_or (take n src) i 0 < 256
take_fits n src fit = all_fits (take n src) (All-take (λ b. b < 256) n src (fits_all src fit))

drop_fits : (n : ℕ) (src : List ℕ) → ((i : ℕ) → get_or src i 0 < 256) → (i : ℕ) → get_or (drop n src) i 0 < 256
drop_fits n src fit = all_fits (drop n src) (All-drop (λ b. b < 256) n src (fits_all src fit))

one_number : (src : List ℕ) (x : ℕ) → ((i : ℕ) → get_or src i 0 < 256) → 8 ≤ length src → x ≡ little_number 8 src → to_le_bytes w64 x ≡ take 8 src
one_number src x fit long e =
    le_bytes_8 (take 8 src) x (let t = length-take 8 src in omega arith) (take_fits 8 src fit) (e ∙ sym (little_from-take 0 8 8 src (omega arith)) ∙ omega arith)

pub numbers_read : (dst src : List ℕ) → ((i : ℕ) → get_or src i 0 < 256) → length src ≡ 8 * length dst → IsRead little_number 8 src dst → numbers dst ≡ src
numbers_read [] [] fit long read = refl
numbers_read [] (y ∷ src) fit long read = let no : ⊥ = omega arith in absurd no
numbers_read (x ∷ dst) src fit long read =
    let place : (k : ℕ) → drop (8 * suc k) src ≡ drop (8 * k) (drop 8 src) = λ k. let e : 8 * suc k ≡ 8 + 8 * k = omega arith in ap (λ n. drop n src) e ∙ sym (drop-drop (8 * k) 8 src) in
    let first = one_number src x fit (omega arith) (read 0 (omega arith)) in
    let rest = numbers_read dst (drop 8 src) (drop_fits 8 src fit) (let d = length-drop 8 src in omega arith) (λ k l. read (suc k) (omega arith) ∙ ap (little_number 8) (place k)) in
    ap (λ p. p ++ numbers dst) first ∙ ap (λ q. take 8 src ++ q) rest ∙ take-append-drop 8 src

pub slice_split : (bytes : List ℕ) (low mid high : ℕ) → low ≤ mid → mid ≤ high → slice_range bytes low high ≡ slice_range bytes low mid ++ slice_range bytes mid high
slice_split bytes low mid high a b =
    let e : high - low ≡ (mid - low) + (high - mid) = omega arith in
    let m : low + (mid - low) ≡ mid = omega arith in
    ap (λ n. take n (drop low bytes)) e ∙ take_more (drop low bytes) (mid - low) (high - mid)
    ∙ ap (λ q. take (mid - low) (drop low bytes) ++ take (high - mid) q) (drop-drop (mid - low) low bytes ∙ ap (λ n. drop n bytes) m)

-- where too few bytes are left after these numbers, too few were left before them
pub still_short : (before after : Option (List ℕ)) (words : List ℕ) (wanted more : ℕ) → Consumes before after (numbers words) → more + length words ≡ wanted → IfSome after (λ rest. length rest < 8 * more) → IfSome before (λ rest. length rest < 8 * wanted)
still_short None after words wanted more h e short = tt
still_short (Some xs) None words wanted more h e short = absurd h
still_short (Some xs) (Some ys) words wanted more h e short = let long = length-append (numbers words) ys in let n = length-numbers words in let same = ap length h in omega arith

-- where some bytes came, some were left
pub some_came : (before after : Option (List ℕ)) (buffer : List ℕ) (n : ℕ) → n ≤ length buffer → 0 < n → Consumes before after (take n buffer) → IfSome before (λ rest. 0 < length rest)
some_came None after buffer n l some h = tt
some_came (Some xs) None buffer n l some h = absurd h
some_came (Some xs) (Some ys) buffer n l some h = let long = length-append (take n buffer) ys in let t = length-take n buffer in let same = ap length h in omega arith

-- with nothing held, what is still to be read is what the device has left
pub none_held : (bytes : List ℕ) (start end : ℕ) → start ≡ end → slice_range bytes (8 * start) (8 * end) ≡ []
none_held bytes start end e = let none : 8 * end - 8 * start ≡ 0 = omega arith in ap (λ n. take n (drop (8 * start) bytes)) none

pub short_of_device : (held : List ℕ) (left : Option (List ℕ)) (n : ℕ) → held ≡ [] → IfSome (prepend_known held left) (λ rest. length rest < n) → IfSome left (λ rest. length rest < n)
short_of_device held None n e h = tt
short_of_device held (Some xs) n e h = let long = length-append held xs in let none = ap length e in omega arith

pub consumes_of_device : (held : List ℕ) (left after : Option (List ℕ)) (read : List ℕ) → held ≡ [] → Consumes (prepend_known held left) after read → Consumes left after read
consumes_of_device held None after read e h = tt
consumes_of_device held (Some xs) None read e h = h
consumes_of_device held (Some xs) (Some ys) read e h = ap (λ l. l ++ xs) (sym e) ∙ h

pub consumes_to_device : (held : List ℕ) (before left : Option (List ℕ)) (read : List ℕ) → held ≡ [] → Consumes before (prepend_known held left) read → Consumes before left read
consumes_to_device held None left read e h = tt
consumes_to_device held (Some xs) None read e h = h
consumes_to_device held (Some xs) (Some ys) read e h = h ∙ ap (λ l. read ++ (l ++ ys)) e

-- where some bytes were taken, some were left
pub some_taken : (before after : Option (List ℕ)) (xs : List ℕ) → 0 < length xs → Consumes before after xs → IfSome before (λ rest. 0 < length rest)
some_taken None after xs some h = tt
some_taken (Some all) None xs some h = absurd h
some_taken (Some all) (Some ys) xs some h = let long = length-append xs ys in let same = ap length h in omega arith
