-- No two valid images have the same text: the lines of one text determine the fields, words and objects of its image.
use Rattle.std.proofs.Common.{◌≡◌, ◌≢◌, ℕ, zero, suc, ◌+◌, ◌-◌, ◌^◌, ◌<◌, ◌≤◌, ◌⊎◌, inl, inr, Bool, true, false, List, [], ◌∷◌, ◌++◌, codes, decimal, get_or, drop, length, refl, sym, ap, ◌∙◌, subst, arith, append_assoc, add-one, All, Option, None, Some, ext_get_or, IfSome, is_some, append-nil}
use Rattle.std.specs.Prelude.{◌==◌, if◌then◌else◌, flat_map}
use Rattle.std.specs.List.{range_with_len, list_all, AllAdjacentBelow, AllByRecursion}
use Rattle.std.proofs.lemmas.Bool.{cases_lt, cases_Bool, and_parts, le-leb, lt-leb, eqb-true, true≢false}
use Rattle.std.proofs.lemmas.List.Elements.{recursion_from_All, All-head, All-tail}
use Rattle.std.proofs.lemmas.Fmt.{decimal_injective}
use Rattle.object_heap.specs.Header.{size_of, references_of, kind_of}
use Rattle.object_heap.specs.Version.{has_roots, number_of}
use Rattle.object_heap.specs.declared.version.Version.{Version}
use Rattle.object_heap.specs.declared.version.Version.TheVariants.{One, Two, Three}
use Rattle.object_heap.specs.Layout.{Layout, kind_in, references_in, size_in}
use Rattle.object_heap.specs.HeapImage.{HeapImage, IsValid, AreRoots, roots_or, HasSoundHeader, heap_words, word_at, kind_at, size_at, references_at, end_of, version_of}
use Rattle.heap_text.specs.Text.{addresses_between, reference_text, number_text, number_line, roots_text, roots_line, references_text, numbers_text, object_text, are_equal, dead_words_text, dead_text, lines_from, text_of}
use Rattle.heap_text.specs.Parsing.{LiesAhead}
use Rattle.heap_text.proofs.Lemmas.WordTexts.{some_reference, EndsToken, AreAlike, decimal_unique, decimal_is_word, reference_word, reference_is, reference_is_word, reference_injective, run_unique, list_unique}

-- a text in front of another, with the parts associated to the right
five : (a b c d e X : List ℕ) → (a ++ (b ++ (c ++ (d ++ e)))) ++ X ≡ a ++ (b ++ (c ++ (d ++ (e ++ X))))
five a b c d e X = simp append_assoc

pub six : (a b c d e f X : List ℕ) → (a ++ (b ++ (c ++ (d ++ (e ++ f))))) ++ X ≡ a ++ (b ++ (c ++ (d ++ (e ++ (f ++ X)))))
six a b c d e f X = simp append_assoc

pub seven : (a b c d e f g X : List ℕ) → (a ++ (b ++ (c ++ (d ++ (e ++ (f ++ g)))))) ++ X ≡ a ++ (b ++ (c ++ (d ++ (e ++ (f ++ (g ++ X))))))
seven a b c d e f g X = simp append_assoc

-- the text begins with a newline
abbrev IsNewline : List ℕ → Type 0
IsNewline [] = ⊥
IsNewline (b ∷ bs) = b ≡ 10

newline_ends : (X : List ℕ) → IsNewline X → EndsToken X
newline_ends [] n = n
newline_ends (b ∷ bs) n = omega (arith, n)

newline_first : (X : List ℕ) → IsNewline X → get_or X 0 0 ≡ 10
newline_first [] n = absurd n
newline_first (b ∷ bs) n = n

-- the text begins with a newline, or with a space and a `d`
abbrev EndsReferences : List ℕ → Type 0
EndsReferences [] = ⊥
EndsReferences (b ∷ bs) = (b ≡ 10) ⊎ ((b ≡ 32) × (get_or bs 0 0 ≡ 100))

references_end : (X : List ℕ) → EndsReferences X → EndsToken X
references_end [] n = n
references_end (b ∷ bs) (inl n) = omega (arith, n)
references_end (b ∷ bs) (inr n) = omega (arith, n.0)

number_ends : (w : ℕ) (A X : List ℕ) → w < 2 ^ 64 → IsNewline X → 32 ∷ (decimal w ++ A) ≢ X
number_ends w A X few n e =
    let first : 32 ≡ 10 = ap (λ (xs : List ℕ). get_or xs 0 0) e ∙ newline_first X n in
    absurd (omega (arith, first))

reference_first : (w : ℕ) (A : List ℕ) → (get_or (reference_word w ++ A) 0 0 ≡ 110) ⊎ (get_or (reference_word w ++ A) 0 0 ≡ 64)
reference_first zero A = inl refl
reference_first (suc n) A = inr (ap (λ (xs : List ℕ). get_or (xs ++ A) 0 0) (some_reference n))

reference_ends : (w : ℕ) (A X : List ℕ) → w < 2 ^ 64 → EndsReferences X → 32 ∷ (reference_word w ++ A) ≢ X
reference_ends w A [] few n e = absurd n
reference_ends w A (b ∷ bs) few (inl n) e =
    let first : 32 ≡ b = ap (λ (xs : List ℕ). get_or xs 0 0) e in
    absurd (omega (arith, first, n))
reference_ends w A (b ∷ bs) few (inr n) e =
    let second : get_or (reference_word w ++ A) 0 0 ≡ get_or bs 0 0 = ap (λ (xs : List ℕ). get_or xs 1 0) e in
    absurd (elim (reference_first w A) [
      | inl one ↦ let no : ⊥ = omega (arith, one, second, n.1) in no
      | inr one ↦ let no : ⊥ = omega (arith, one, second, n.1) in no
    ])

numbers_unique : (f g : ℕ → ℕ) → ((q : ℕ) → f q < 2 ^ 64) → ((q : ℕ) → g q < 2 ^ 64) → (n m a : ℕ) (X Y : List ℕ) → IsNewline X → IsNewline Y
    → flat_map (λ q. number_text (f q)) (range_with_len a n) ++ X ≡ flat_map (λ q. number_text (g q)) (range_with_len a m) ++ Y → AreAlike f g a n m X Y
numbers_unique = run_unique number_text decimal (λ w. refl) decimal_is_word decimal_injective IsNewline newline_ends number_ends

references_unique : (f g : ℕ → ℕ) → ((q : ℕ) → f q < 2 ^ 64) → ((q : ℕ) → g q < 2 ^ 64) → (n m a : ℕ) (X Y : List ℕ) → EndsReferences X → EndsReferences Y
    → flat_map (λ q. reference_text (f q)) (range_with_len a n) ++ X ≡ flat_map (λ q. reference_text (g q)) (range_with_len a m) ++ Y → AreAlike f g a n m X Y
references_unique = run_unique reference_text reference_word reference_is reference_is_word reference_injective EndsReferences references_end reference_ends

-- the optional parts of a line
module _ (image : HeapImage) (from to : ℕ) where
  pub no_references : to ≤ from → references_text image from to ≡ []
  no_references h = rw (le-leb to from h) refl

  pub some_references : from < to → references_text image from to ≡ codes " refs" ++ flat_map (λ a. reference_text (word_at image a)) (addresses_between from to)
  some_references h = rw (lt-leb to from h) refl

  pub no_numbers : (name : List ℕ) → to ≤ from → numbers_text image name from to ≡ []
  no_numbers name h = rw (le-leb to from h) refl

  pub some_numbers : (name : List ℕ) → from < to → numbers_text image name from to ≡ name ++ flat_map (λ a. number_text (word_at image a)) (addresses_between from to)
  some_numbers name h = rw (lt-leb to from h) refl

  pub no_dead : to ≤ from → dead_text image from to ≡ []
  no_dead h = rw (le-leb to from h) refl

  pub some_dead : from < to → dead_text image from to ≡ codes "@" ++ (decimal from ++ (codes " dead " ++ (decimal (to - from)
      ++ (dead_words_text image from to ++ codes "\n"))))
  some_dead h = rw (lt-leb to from h) refl

-- the words of two images from one address up to another are equal
abbrev pub Agree : HeapImage → HeapImage → ℕ → ℕ → Type 0
Agree A B from to = (q : ℕ) → from ≤ q → q < to → word_at A q ≡ word_at B q

agree_join : (A B : HeapImage) (from mid to : ℕ) → Agree A B from mid → Agree A B mid to → Agree A B from to
agree_join A B from mid to low high q l h = elim (cases_lt q mid) [
  | inl below ↦ low q l below
  | inr above ↦ high q above h
]

get_fits : (xs : List ℕ) (q : ℕ) → AllByRecursion (λ w. w < 2 ^ 64) xs → get_or xs q 0 < 2 ^ 64
get_fits [] q h = omega arith
get_fits (x ∷ xs) zero h = h.0
get_fits (x ∷ xs) (suc q) h = get_fits xs q h.1

pub word_fits : (image : HeapImage) → IsValid image → (q : ℕ) → word_at image q < 2 ^ 64
word_fits image valid q = get_fits image.words q (recursion_from_All (λ w. w < 2 ^ 64) image.words valid.words_fit)

-- the rest of an object's line after its size, and the text after it
abbrev fields : HeapImage → ℕ → ℕ → ℕ → List ℕ → List ℕ
fields image a r s X = references_text image (a + 1) (a + 1 + r) ++ (numbers_text image (codes " data") (a + 1 + r) (a + s) ++ (codes "\n" ++ X))

data_ends : (image : HeapImage) (from to : ℕ) (X : List ℕ) → EndsReferences (numbers_text image (codes " data") from to ++ (codes "\n" ++ X))
data_ends image from to X = elim (cases_lt from to) [
  | inl some ↦ rw (some_numbers image from to (codes " data") some) (inr (refl, refl))
  | inr none ↦ rw (no_numbers image from to (codes " data") none) (inl refl)
]

data_unique : (A B : HeapImage) → IsValid A → IsValid B → (from to : ℕ) (X Y : List ℕ)
    → numbers_text A (codes " data") from to ++ (codes "\n" ++ X) ≡ numbers_text B (codes " data") from to ++ (codes "\n" ++ Y) → (X ≡ Y) × Agree A B from to
data_unique A B a b from to X Y e = elim (cases_lt from to) [
  | inl some ↦
      let f : flat_map (λ q. number_text (word_at A q)) (addresses_between from to) ++ (codes "\n" ++ X) ≡ flat_map (λ q. number_text (word_at B q)) (addresses_between from to) ++ (codes "\n" ++ Y)
      = ap (drop 5) (subst₂' some) in
      let all = numbers_unique (word_at A) (word_at B) (word_fits A a) (word_fits B b) (to - from) (to - from) from (codes "\n" ++ X) (codes "\n" ++ Y) refl refl f in
      (ap (drop 1) all.rest, λ q low high. all.words q low (omega arith))
  | inr none ↦
      (ap (drop 1) (sym (ap (λ t. t ++ (codes "\n" ++ X)) (no_numbers A from to (codes " data") none)) ∙ (e ∙ ap (λ t. t ++ (codes "\n" ++ Y)) (no_numbers B from to (codes " data") none))), λ q low high. absurd (omega arith))
]
  where
    subst₂' : from < to → (codes " data" ++ flat_map (λ q. number_text (word_at A q)) (addresses_between from to)) ++ (codes "\n" ++ X) ≡ (codes " data" ++ flat_map (λ q. number_text (word_at B q)) (addresses_between from to)) ++ (codes "\n" ++ Y)
    subst₂' some = sym (ap (λ t. t ++ (codes "\n" ++ X)) (some_numbers A from to (codes " data") some)) ∙ (e ∙ ap (λ t. t ++ (codes "\n" ++ Y)) (some_numbers B from to (codes " data") some))

-- references and data of two objects of the same size at the same address
no_mix : (X R : List ℕ) → EndsReferences X → X ≡ codes " refs" ++ R → ⊥
no_mix X R n e = go (subst EndsReferences e n)
  where
    go : EndsReferences (codes " refs" ++ R) → ⊥
    go (inl m) = let no : ⊥ = omega (arith, m) in no
    go (inr m) = let no : ⊥ = omega (arith, m.1) in no

abbrev data_of : HeapImage → ℕ → ℕ → ℕ → List ℕ → List ℕ
data_of image a r s X = numbers_text image (codes " data") (a + 1 + r) (a + s) ++ (codes "\n" ++ X)

abbrev references_run : HeapImage → ℕ → ℕ → List ℕ
references_run image a r = flat_map (λ q. reference_text (word_at image q)) (addresses_between (a + 1) (a + 1 + r))

fields_none : (image : HeapImage) (a s : ℕ) (X : List ℕ) → fields image a 0 s X ≡ data_of image a 0 s X
fields_none image a s X = ap (λ (t : List ℕ). t ++ data_of image a 0 s X) (no_references image (a + 1) (a + 1 + 0) (omega arith))

fields_some : (image : HeapImage) (a r s : ℕ) (X : List ℕ) → fields image a (suc r) s X ≡ codes " refs" ++ (references_run image a (suc r) ++ data_of image a (suc r) s X)
fields_some image a r s X = ap (λ (t : List ℕ). t ++ data_of image a (suc r) s X) (some_references image (a + 1) (a + 1 + suc r) (omega arith))
    ∙ append_assoc (codes " refs") (references_run image a (suc r)) (data_of image a (suc r) s X)

fields_end : (image : HeapImage) (a r s : ℕ) (X : List ℕ) → EndsToken (fields image a r s X)
fields_end image a zero s X = rw (fields_none image a s X) (references_end (data_of image a 0 s X) (data_ends image (a + 1 + 0) (a + s) X))
fields_end image a (suc r) s X = rw (fields_some image a r s X) (omega arith)

fields_unique : (A B : HeapImage) → IsValid A → IsValid B → (a r q s : ℕ) (X Y : List ℕ) → fields A a r s X ≡ fields B a q s Y
    → (r ≡ q) × (X ≡ Y) × Agree A B (a + 1) (a + s)
fields_unique A B va vb a zero zero s X Y e =
    let all = data_unique A B va vb (a + 1 + 0) (a + s) X Y (sym (fields_none A a s X) ∙ (e ∙ fields_none B a s Y)) in
    (refl, all.0, λ i low high. all.1 i (omega arith) high)
fields_unique A B va vb a zero (suc q) s X Y e =
    absurd (no_mix (data_of A a 0 s X) (references_run B a (suc q) ++ data_of B a (suc q) s Y) (data_ends A (a + 1 + 0) (a + s) X) (sym (fields_none A a s X) ∙ (e ∙ fields_some B a q s Y)))
fields_unique A B va vb a (suc r) zero s X Y e =
    absurd (no_mix (data_of B a 0 s Y) (references_run A a (suc r) ++ data_of A a (suc r) s X) (data_ends B (a + 1 + 0) (a + s) Y) (sym (fields_none B a s Y) ∙ (sym e ∙ fields_some A a r s X)))
fields_unique A B va vb a (suc r) (suc q) s X Y e =
    let f : references_run A a (suc r) ++ data_of A a (suc r) s X ≡ references_run B a (suc q) ++ data_of B a (suc q) s Y
    = ap (drop 5) (sym (fields_some A a r s X) ∙ (e ∙ fields_some B a q s Y)) in
    let all = references_unique (word_at A) (word_at B) (word_fits A va) (word_fits B vb) (a + 1 + suc r - (a + 1)) (a + 1 + suc q - (a + 1)) (a + 1) (data_of A a (suc r) s X) (data_of B a (suc q) s Y)
    (data_ends A (a + 1 + suc r) (a + s) X) (data_ends B (a + 1 + suc q) (a + s) Y) f in
    let same : suc r ≡ suc q = omega (arith, all.count) in
    let others = data_unique A B va vb (a + 1 + suc r) (a + s) X Y (all.rest ∙ ap (λ (k : ℕ). data_of B a k s Y) (sym same)) in
    (same, others.0, agree_join A B (a + 1) (a + 1 + suc r) (a + s) (λ i low high. all.words i low (omega arith)) others.1)

pub header_unique : (h k : ℕ) → kind_of h ≡ 1 → kind_of k ≡ 1 → references_of h ≡ references_of k → size_of h ≡ size_of k → h ≡ k
header_unique h k p q r s = omega arith

-- what the header of an object says
own_header : (image : HeapImage) → IsValid image → (a : ℕ) → (kind_of (word_at image a) ≡ kind_at image a) × (references_of (word_at image a) ≡ references_at image a) × (size_of (word_at image a) ≡ size_at image a)
own_header image valid a = (
  sym (ap (λ (y : Layout). kind_in y (word_at image a)) valid.own),
  sym (ap (λ (y : Layout). references_in y (word_at image a)) valid.own),
  sym (ap (λ (y : Layout). size_in y (word_at image a)) valid.own),
)

-- two objects at the same address
object_unique : (A B : HeapImage) → IsValid A → IsValid B → (a : ℕ) → HasSoundHeader A a → HasSoundHeader B a → (X Y : List ℕ) → object_text A a ++ X ≡ object_text B a ++ Y
    → (end_of A a ≡ end_of B a) × (X ≡ Y) × Agree A B a (end_of A a)
object_unique A B va vb a sa sb X Y e =
    let n : ℕ = size_at A a in
    let m : ℕ = size_at B a in
    let FA : List ℕ = fields A a (references_at A a) n X in
    let FB : List ℕ = fields B a (references_at B a) m Y in
    let few : a < 2 ^ 64 = omega (arith, sa.inside, va.limits.few_words) in
    let few_n : n < 2 ^ 64 = omega (arith, sa.inside, va.limits.few_words) in
    let few_m : m < 2 ^ 64 = omega (arith, sb.inside, vb.limits.few_words) in
    let whole : codes "@" ++ (decimal a ++ (codes " object " ++ (decimal n ++ FA))) ≡ codes "@" ++ (decimal a ++ (codes " object " ++ (decimal m ++ FB)))
    = sym (seven (codes "@") (decimal a) (codes " object ") (decimal n) (references_text A (a + 1) (a + 1 + references_at A a)) (numbers_text A (codes " data") (a + 1 + references_at A a) (end_of A a)) (codes "\n") X)
    ∙ (e ∙ seven (codes "@") (decimal a) (codes " object ") (decimal m) (references_text B (a + 1) (a + 1 + references_at B a)) (numbers_text B (codes " data") (a + 1 + references_at B a) (end_of B a)) (codes "\n") Y) in
    let kinds = decimal_unique a a (codes " object " ++ (decimal n ++ FA)) (codes " object " ++ (decimal m ++ FB)) few few (omega arith) (omega arith) (ap (drop 1) whole) in
    let sizes = decimal_unique n m FA FB few_n few_m (fields_end A a (references_at A a) n X) (fields_end B a (references_at B a) m Y) (ap (drop 8) kinds.1) in
    let size : n ≡ m = sizes.0 in
    let all = fields_unique A B va vb a (references_at A a) (references_at B a) n X Y (sizes.1 ∙ ap (λ (k : ℕ). fields B a (references_at B a) k Y) (sym size)) in
    let one = own_header A va a in
    let two = own_header B vb a in
    let header : word_at A a ≡ word_at B a = header_unique (word_at A a) (word_at B a) (one.0 ∙ sa.object) (two.0 ∙ sb.object) (one.1 ∙ all.0 ∙ sym two.1) (one.2 ∙ size ∙ sym two.2) in (
      ap (λ (k : ℕ). a + k) size,
      all.1,
      λ q low high. elim (cases_lt a q) [
        | inl later ↦ all.2 q (omega arith) high
        | inr here ↦ let at : q ≡ a = omega arith in ap (word_at A) at ∙ (header ∙ ap (word_at B) (sym at))
      ],
    )

-- the test holds of each number of a range
in_range : (p : ℕ → Bool) (a n : ℕ) → list_all p (range_with_len a n) ≡ true → (q : ℕ) → a ≤ q → q < a + n → p q ≡ true
in_range p a zero h q low high = absurd (omega arith)
in_range p a (suc n) h q low high =
    let both = and_parts (p a) (list_all p (range_with_len (a + 1) n)) h in
    elim (cases_lt a q) [
      | inl later ↦ in_range p (a + 1) n both.1 q (omega arith) (omega arith)
      | inr here ↦ let at : q ≡ a = omega arith in ap p at ∙ both.0
    ]

all_equal : (image : HeapImage) (from to : ℕ) → are_equal image from to ≡ true → (q : ℕ) → from ≤ q → q < to → word_at image q ≡ word_at image from
all_equal image from to h q low high =
    eqb-true (word_at image q) (word_at image from) (in_range (λ a. word_at image a == word_at image from) from (to - from) h q low (omega arith))

module _ (image : HeapImage) (from to : ℕ) where
  pub equal_words : are_equal image from to ≡ true → dead_words_text image from to ≡ codes " of" ++ number_text (word_at image from)
  equal_words h = rw h refl

  pub unequal_words : from < to → are_equal image from to ≡ false → dead_words_text image from to ≡ codes " words" ++ flat_map (λ a. number_text (word_at image a)) (addresses_between from to)
  unequal_words some h = rw h (some_numbers image from to (codes " words") some)

dead_words_end : (image : HeapImage) (from to : ℕ) → from < to → (X : List ℕ) → EndsToken (dead_words_text image from to ++ X)
dead_words_end image from to some X = elim (cases_Bool (are_equal image from to)) [
  | inl equal ↦ rw (equal_words image from to equal) (omega arith)
  | inr other ↦ rw (unequal_words image from to some other) (omega arith)
]

dead_words_unique : (A B : HeapImage) → IsValid A → IsValid B → (from to : ℕ) → from < to → (X Y : List ℕ)
    → dead_words_text A from to ++ (codes "\n" ++ X) ≡ dead_words_text B from to ++ (codes "\n" ++ Y) → (X ≡ Y) × Agree A B from to
dead_words_unique A B va vb from to some X Y e = go (cases_Bool (are_equal A from to)) (cases_Bool (are_equal B from to))
  where
    X' : List ℕ
    X' = codes "\n" ++ X

    Y' : List ℕ
    Y' = codes "\n" ++ Y

    told : (s t : List ℕ) → dead_words_text A from to ≡ s → dead_words_text B from to ≡ t → s ++ X' ≡ t ++ Y'
    told s t p q = sym (ap (λ (xs : List ℕ). xs ++ X') p) ∙ (e ∙ ap (λ (xs : List ℕ). xs ++ Y') q)

    go : (are_equal A from to ≡ true) ⊎ (are_equal A from to ≡ false) → (are_equal B from to ≡ true) ⊎ (are_equal B from to ≡ false) → (X ≡ Y) × Agree A B from to
    go (inl p) (inl q) =
        let f : decimal (word_at A from) ++ X' ≡ decimal (word_at B from) ++ Y' = ap (drop 4) (told _ _ (equal_words A from to p) (equal_words B from to q)) in
        let both = decimal_unique (word_at A from) (word_at B from) X' Y' (word_fits A va from) (word_fits B vb from) (omega arith) (omega arith) f in
        (ap (drop 1) both.1, λ i low high. all_equal A from to p i low high ∙ (both.0 ∙ sym (all_equal B from to q i low high)))
    go (inl p) (inr q) =
        let f : 111 ≡ 119 = ap (λ (xs : List ℕ). get_or xs 1 0) (told _ _ (equal_words A from to p) (unequal_words B from to some q)) in
        absurd (omega (arith, f))
    go (inr p) (inl q) =
        let f : 119 ≡ 111 = ap (λ (xs : List ℕ). get_or xs 1 0) (told _ _ (unequal_words A from to some p) (equal_words B from to q)) in
        absurd (omega (arith, f))
    go (inr p) (inr q) =
        let f : flat_map (λ a. number_text (word_at A a)) (addresses_between from to) ++ X' ≡ flat_map (λ a. number_text (word_at B a)) (addresses_between from to) ++ Y'
        = ap (drop 6) (told _ _ (unequal_words A from to some p) (unequal_words B from to some q)) in
        let all = numbers_unique (word_at A) (word_at B) (word_fits A va) (word_fits B vb) (to - from) (to - from) from X' Y' refl refl f in
        (ap (drop 1) all.rest, λ i low high. all.words i low (omega arith))

-- two dead runs from the same address
pub dead_is : (image : HeapImage) (from to : ℕ) → from < to → (X : List ℕ)
    → dead_text image from to ++ X ≡ codes "@" ++ (decimal from ++ (codes " dead " ++ (decimal (to - from) ++ (dead_words_text image from to ++ (codes "\n" ++ X)))))
dead_is image from to some X = ap (λ (t : List ℕ). t ++ X) (some_dead image from to some) ∙ six (codes "@") (decimal from) (codes " dead ") (decimal (to - from)) (dead_words_text image from to) (codes "\n") X

dead_unique : (A B : HeapImage) → IsValid A → IsValid B → (from to end : ℕ) → from < to → from < end → to < 2 ^ 64 → end < 2 ^ 64 → (X Y : List ℕ)
    → dead_text A from to ++ X ≡ dead_text B from end ++ Y → (to ≡ end) × (X ≡ Y) × Agree A B from to
dead_unique A B va vb from to end some some' few few' X Y e =
    let WA : List ℕ = dead_words_text A from to ++ (codes "\n" ++ X) in
    let WB : List ℕ = dead_words_text B from end ++ (codes "\n" ++ Y) in
    let whole = sym (dead_is A from to some X) ∙ (e ∙ dead_is B from end some' Y) in
    let kinds = decimal_unique from from (codes " dead " ++ (decimal (to - from) ++ WA)) (codes " dead " ++ (decimal (end - from) ++ WB)) (omega arith) (omega arith) (omega arith) (omega arith) (ap (drop 1) whole) in
    let counts = decimal_unique (to - from) (end - from) WA WB (omega arith) (omega arith) (dead_words_end A from to some (codes "\n" ++ X)) (dead_words_end B from end some' (codes "\n" ++ Y)) (ap (drop 6) kinds.1) in
    let same : to ≡ end = omega (arith, counts.0) in
    let all = dead_words_unique A B va vb from to some X Y (counts.1 ∙ ap (λ (k : ℕ). dead_words_text B from k ++ (codes "\n" ++ Y)) (sym same)) in
    (same, all.0, all.1)

-- the text is empty, or begins with an object at this address: so it does after a dead run up to there
abbrev FollowsDead : ℕ → List ℕ → Type 0
FollowsDead a X = (X ≡ []) ⊎ ((R : List ℕ) × (X ≡ codes "@" ++ (decimal a ++ (codes " object " ++ R))))

no_dead_line : (image : HeapImage) (from to : ℕ) → from < to → to < 2 ^ 64 → (X Y : List ℕ) → FollowsDead from Y → dead_text image from to ++ X ≡ Y → ⊥
no_dead_line image from to some few X Y (inl none) e =
    let f : 64 ≡ 0 = ap (λ (xs : List ℕ). get_or xs 0 0) (sym (dead_is image from to some X) ∙ (e ∙ none)) in
    let no : ⊥ = omega (arith, f) in no
no_dead_line image from to some few X Y (inr object) e =
    let W : List ℕ = decimal (to - from) ++ (dead_words_text image from to ++ (codes "\n" ++ X)) in
    let whole = sym (dead_is image from to some X) ∙ (e ∙ object.1) in
    let kinds = decimal_unique from from (codes " dead " ++ W) (codes " object " ++ object.0) (omega arith) (omega arith) (omega arith) (omega arith) (ap (drop 1) whole) in
    let f : 100 ≡ 111 = ap (λ (xs : List ℕ). get_or xs 1 0) kinds.1 in
    let no : ⊥ = omega (arith, f) in no

front_unique : (A B : HeapImage) → IsValid A → IsValid B → (from to end : ℕ) → from ≤ to → from ≤ end → to < 2 ^ 64 → end < 2 ^ 64 → (X Y : List ℕ)
    → FollowsDead to X → FollowsDead end Y → dead_text A from to ++ X ≡ dead_text B from end ++ Y → (to ≡ end) × (X ≡ Y) × Agree A B from to
front_unique A B va vb from to end low low' few few' X Y p q e = go (cases_lt from to) (cases_lt from end)
  where
    go : (from < to) ⊎ (to ≤ from) → (from < end) ⊎ (end ≤ from) → (to ≡ end) × (X ≡ Y) × Agree A B from to
    go (inl some) (inl some') = dead_unique A B va vb from to end some some' few few' X Y e
    go (inl some) (inr none) =
        let at : end ≡ from = omega arith in
        absurd (no_dead_line A from to some few X Y (subst (λ (k : ℕ). FollowsDead k Y) at q) (e ∙ ap (λ (t : List ℕ). t ++ Y) (no_dead B from end none)))
    go (inr none) (inl some) =
        let at : to ≡ from = omega arith in
        absurd (no_dead_line B from end some few' Y X (subst (λ (k : ℕ). FollowsDead k X) at p) (sym e ∙ ap (λ (t : List ℕ). t ++ X) (no_dead A from to none)))
    go (inr none) (inr none') =
        (omega arith, sym (ap (λ (t : List ℕ). t ++ X) (no_dead A from to none)) ∙ (e ∙ ap (λ (t : List ℕ). t ++ Y) (no_dead B from end none')), λ i l h. absurd (omega arith))

lies_ahead : (image : HeapImage) (from : ℕ) (live : List ℕ) → (0 < length live → from ≤ get_or live 0 0) → from ≤ heap_words image
    → All (λ a. HasSoundHeader image a) live → AllAdjacentBelow (λ a b. end_of image a ≤ b) live (length live) → LiesAhead image live from
lies_ahead image from [] first inside sound apart = inside
lies_ahead image from (a ∷ live) first inside sound apart =
    let one : HasSoundHeader image a = All-head (λ a. HasSoundHeader image a) a live sound in
    (first (omega arith), one, lies_ahead image (end_of image a) live (next live apart) one.inside (All-tail (λ a. HasSoundHeader image a) a live sound) (λ k d l. tail k d l))
  where
    next : (live : List ℕ) → AllAdjacentBelow (λ a b. end_of image a ≤ b) (a ∷ live) (length (a ∷ live)) → 0 < length live → end_of image a ≤ get_or live 0 0
    next [] h l = absurd (omega arith)
    next (b ∷ more) h l = h 0 0 (omega arith)

    tail : (k d : ℕ) → k + 1 < length live → end_of image (get_or live k d) ≤ get_or live (k + 1) d
    tail k d l = rw (add-one k) (subst (λ (n : ℕ). end_of image (get_or live k d) ≤ get_or (a ∷ live) n d) (add-one (suc k)) (apart (suc k) d (omega arith)))

object_first : (image : HeapImage) (a : ℕ) (X : List ℕ) → FollowsDead a (object_text image a ++ X)
object_first image a X =
    inr (
      decimal (size_at image a) ++ fields image a (references_at image a) (size_at image a) X,
      seven (codes "@") (decimal a) (codes " object ") (decimal (size_at image a)) (references_text image (a + 1) (a + 1 + references_at image a)) (numbers_text image (codes " data") (a + 1 + references_at image a) (end_of image a)) (codes "\n") X,
    )

-- the lines of the words
lines_unique : (A B : HeapImage) → IsValid A → IsValid B → heap_words A ≡ heap_words B → (live others : List ℕ) (from : ℕ) → LiesAhead A live from → LiesAhead B others from
    → lines_from A from live ≡ lines_from B from others → (live ≡ others) × Agree A B from (heap_words A)
lines_unique A B va vb len [] [] from p q e =
    let few : heap_words A < 2 ^ 64 = omega (arith, va.limits.few_words) in
    let all = front_unique A B va vb from (heap_words A) (heap_words B) p q few (omega arith) [] [] (inl refl) (inl refl) (append-nil (dead_text A from (heap_words A)) ∙ (e ∙ sym (append-nil (dead_text B from (heap_words B))))) in
    (refl, all.2)
lines_unique A B va vb len [] (b ∷ others) from p q e =
    let Y : List ℕ = object_text B b ++ lines_from B (end_of B b) others in
    let few : heap_words A < 2 ^ 64 = omega (arith, va.limits.few_words) in
    let inside : b < heap_words B = omega (arith, q.1.inside, q.1.header) in
    let all = front_unique A B va vb from (heap_words A) b p q.0 few (omega arith) [] Y (inl refl) (object_first B b (lines_from B (end_of B b) others)) (append-nil (dead_text A from (heap_words A)) ∙ e) in
    absurd (omega (arith, all.0))
lines_unique A B va vb len (a ∷ live) [] from p q e =
    let X : List ℕ = object_text A a ++ lines_from A (end_of A a) live in
    let few : heap_words A < 2 ^ 64 = omega (arith, va.limits.few_words) in
    let inside : a < heap_words A = omega (arith, p.1.inside, p.1.header) in
    let all = front_unique A B va vb from a (heap_words B) p.0 q (omega arith) (omega arith) X [] (object_first A a (lines_from A (end_of A a) live)) (inl refl) (e ∙ sym (append-nil (dead_text B from (heap_words B)))) in
    absurd (omega (arith, all.0))
lines_unique A B va vb len (a ∷ live) (b ∷ others) from p q e =
    let X : List ℕ = lines_from A (end_of A a) live in
    let few : heap_words A < 2 ^ 64 = omega (arith, va.limits.few_words) in
    let inside : a < heap_words A = omega (arith, p.1.inside, p.1.header) in
    let inside' : b < heap_words B = omega (arith, q.1.inside, q.1.header) in
    let all = front_unique A B va vb from a b p.0 q.0 (omega arith) (omega arith) (object_text A a ++ X) (object_text B b ++ lines_from B (end_of B b) others) (object_first A a X) (object_first B b (lines_from B (end_of B b) others)) e in
    let same : a ≡ b = all.0 in
    let sound : HasSoundHeader B a = subst (HasSoundHeader B) (sym same) q.1 in
    let object = object_unique A B va vb a p.1 sound X (lines_from B (end_of B a) others) (all.1 ∙ ap (λ (k : ℕ). object_text B k ++ lines_from B (end_of B k) others) (sym same)) in
    let end : end_of A a ≡ end_of B a = object.0 in
    let ahead : LiesAhead B others (end_of A a) = subst (LiesAhead B others) (sym end) (subst (λ (k : ℕ). LiesAhead B others (end_of B k)) (sym same) q.2) in
    let rest = lines_unique A B va vb len live others (end_of A a) p.2 ahead (object.1 ∙ ap (λ (k : ℕ). lines_from B k others) (sym end)) in
    let tails : live ≡ others = rest.0 in
    (cc, agree_join A B from a (heap_words A) all.2 (agree_join A B a (end_of A a) (heap_words A) object.2 rest.1))

-- the head
pub four : (a b c d X : List ℕ) → (a ++ (b ++ (c ++ d))) ++ X ≡ a ++ (b ++ (c ++ (d ++ X)))
four a b c d X = simp append_assoc

cancel : (p X Y : List ℕ) → p ++ X ≡ p ++ Y → X ≡ Y
cancel [] X Y e = e
cancel (c ∷ p) X Y e = cancel p X Y (ap (drop 1) e)

number_line_unique : (name : List ℕ) (m n : ℕ) (X Y : List ℕ) → m < 2 ^ 64 → n < 2 ^ 64 → number_line name m ++ X ≡ number_line name n ++ Y → (m ≡ n) × (X ≡ Y)
number_line_unique name m n X Y few few' e =
    let f = cancel name _ _ (sym (four name (codes " ") (decimal m) (codes "\n") X) ∙ (e ∙ four name (codes " ") (decimal n) (codes "\n") Y)) in
    let both = decimal_unique m n (codes "\n" ++ X) (codes "\n" ++ Y) few few' (omega arith) (omega arith) (ap (drop 1) f) in
    (both.0, ap (drop 1) both.1)

abbrev pub line_of_roots : Option (List ℕ) → List ℕ
line_of_roots roots = if is_some roots then roots_text (roots_or [] roots) else []

roots_unique : (p q : Option (List ℕ)) → IfSome p (AllByRecursion (λ w. w < 2 ^ 64)) → IfSome q (AllByRecursion (λ w. w < 2 ^ 64))
    → is_some p ≡ is_some q → (X Y : List ℕ) → line_of_roots p ++ X ≡ line_of_roots q ++ Y → (p ≡ q) × (X ≡ Y)
roots_unique None None f g v X Y e = (refl, e)
roots_unique None (Some ys) f g v X Y e = absurd (true≢false (sym v))
roots_unique (Some xs) None f g v X Y e = absurd (true≢false v)
roots_unique (Some xs) (Some ys) f g v X Y e =
    let three : (a b c Z : List ℕ) → (a ++ (b ++ c)) ++ Z ≡ a ++ (b ++ (c ++ Z)) = λ a b c Z. append_assoc a (b ++ c) Z ∙ ap (λ (t : List ℕ). a ++ t) (append_assoc b c Z) in
    let both = cancel (codes "roots") _ _ (sym (three (codes "roots") (flat_map reference_text xs) (codes "\n") X) ∙ (e ∙ three (codes "roots") (flat_map reference_text ys) (codes "\n") Y)) in
    let all = list_unique reference_text reference_word reference_is reference_is_word reference_injective EndsReferences references_end reference_ends xs ys f g (codes "\n" ++ X) (codes "\n" ++ Y) (inl refl) (inl refl) both in
    (ap Some all.0, ap (drop 1) all.1)

roots_fit : (image : HeapImage) → IsValid image → IfSome image.roots (AllByRecursion (λ w. w < 2 ^ 64))
roots_fit image valid = go image.roots valid.rooted
  where
    go : (roots : Option (List ℕ)) → IfSome roots (AreRoots image) → IfSome roots (AllByRecursion (λ w. w < 2 ^ 64))
    go None r = tt
    go (Some roots) r = recursion_from_All (λ w. w < 2 ^ 64) roots (λ k d l. let low = r.inside k d l in omega (arith, low, valid.limits.few_words))

pub ahead_of : (image : HeapImage) → IsValid image → LiesAhead image image.live 0
ahead_of image valid = lies_ahead image 0 image.live (λ _. omega arith) (omega arith) valid.live_list.sound valid.live_list.apart

pub version_few : (image : HeapImage) → version_of image < 2 ^ 64
version_few image = go image.version
  where
    go : (version : Version) → number_of version < 2 ^ 64
    go One = omega arith
    go Two = omega arith
    go Three = omega arith

numbers_apart : (v w : Version) → number_of v ≡ number_of w → v ≡ w
numbers_apart One One e = refl
numbers_apart One Two e = absurd (omega (arith, e))
numbers_apart One Three e = absurd (omega (arith, e))
numbers_apart Two One e = absurd (omega (arith, e))
numbers_apart Two Two e = refl
numbers_apart Two Three e = absurd (omega (arith, e))
numbers_apart Three One e = absurd (omega (arith, e))
numbers_apart Three Two e = absurd (omega (arith, e))
numbers_apart Three Three e = refl

image_same : (A B : HeapImage) → A.layout ≡ B.layout → A.version ≡ B.version → A.region_log ≡ B.region_log → A.allowance ≡ B.allowance → A.words ≡ B.words → A.live ≡ B.live → A.roots ≡ B.roots → A ≡ B
image_same A B y u a b c d e = go A.layout B.layout A.version B.version A.region_log B.region_log A.allowance B.allowance A.words B.words A.live B.live A.roots B.roots y u a b c d e
  where
    go : (f g : Layout) (t t' : Version) (k l m n : ℕ) (v w x y : List ℕ) (r s : Option (List ℕ)) → f ≡ g → t ≡ t' → k ≡ l → m ≡ n → v ≡ w → x ≡ y → r ≡ s
        → ◌≡◌ {A = HeapImage} (record { version = t; layout = f; region_log = k; allowance = m; words = v; live = x; roots = r }) (record { version = t'; layout = g; region_log = l; allowance = n; words = w; live = y; roots = s })
    go f g t t' k l m n v w x y r s z u a b c d e = cc

-- two valid images with one text are equal
pub one_image : (A B : HeapImage) → IsValid A → IsValid B → text_of A ≡ text_of B → A ≡ B
one_image A B va vb e =
    let RA : List ℕ = roots_line A ++ lines_from A 0 A.live in
    let RB : List ℕ = roots_line B ++ lines_from B 0 B.live in
    let vA = number_line (codes "heap version") (version_of A) in
    let vB = number_line (codes "heap version") (version_of B) in
    let lA = number_line (codes "region-log") A.region_log in
    let lB = number_line (codes "region-log") B.region_log in
    let wA = number_line (codes "words") (heap_words A) in
    let wB = number_line (codes "words") (heap_words B) in
    let aA = number_line (codes "allowance") A.allowance in
    let aB = number_line (codes "allowance") B.allowance in
    let whole = sym (four vA lA wA aA RA) ∙ (e ∙ four vB lB wB aB RB) in
    let version = number_line_unique (codes "heap version") (version_of A) (version_of B) (lA ++ (wA ++ (aA ++ RA))) (lB ++ (wB ++ (aB ++ RB))) (version_few A) (version_few B) whole in
    let log = number_line_unique (codes "region-log") A.region_log B.region_log (wA ++ (aA ++ RA)) (wB ++ (aB ++ RB)) (omega (arith, va.limits.region_log_high)) (omega (arith, vb.limits.region_log_high)) version.1 in
    let len = number_line_unique (codes "words") (heap_words A) (heap_words B) (aA ++ RA) (aB ++ RB) (omega (arith, va.limits.few_words)) (omega (arith, vb.limits.few_words)) log.1 in
    let allowance = number_line_unique (codes "allowance") A.allowance B.allowance RA RB va.allowance_fits vb.allowance_fits len.1 in
    let same : A.version ≡ B.version = numbers_apart A.version B.version version.0 in
    let rooted : is_some A.roots ≡ is_some B.roots = va.versioned ∙ (ap has_roots same ∙ sym vb.versioned) in
    let roots = roots_unique A.roots B.roots (roots_fit A va) (roots_fit B vb) rooted (lines_from A 0 A.live) (lines_from B 0 B.live) allowance.1 in
    let all = lines_unique A B va vb len.0 A.live B.live 0 (ahead_of A va) (ahead_of B vb) roots.1 in
    let words : A.words ≡ B.words = ext_get_or 0 A.words B.words len.0 (λ i l. all.1 i (omega arith) l) in
    image_same A B (va.own ∙ sym vb.own) same log.0 allowance.0 words all.0 roots.0
