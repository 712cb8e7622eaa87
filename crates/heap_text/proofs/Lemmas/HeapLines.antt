-- The lines of objects and dead runs, from addresses of an image to lists of words.
use Rattle.std.proofs.Common.{◌≡◌, ℕ, zero, suc, ◌+◌, ◌-◌, ◌^◌, ◌<◌, ◌≤◌, ◌⊎◌, inl, inr, true, false, Bool, ◌&&◌, ◌||◌, List, [], ◌∷◌, ◌++◌, codes, decimal, get_or, drop, take, length, refl, sym, ap, ◌∙◌, subst, arith, append_assoc, append-nil, length-append, length-drop, All}
use Rattle.std.specs.Prelude.{◌==◌, flat_map}
use Rattle.std.specs.List.{range_with_len, list_all, list_any, AllByRecursion}
use Rattle.std.proofs.lemmas.Bool.{cases_lt, cases_Bool, eqb-true}
use Rattle.std.proofs.lemmas.List.{drop_more, length-take-le, get_or-take, get_or-drop, drop-drop, get_or_at, get_or_default}
use Rattle.std.proofs.Math.Seq.{take-add}
use Rattle.std.proofs.lemmas.List.Elements.{All-head, All-tail, All-take, All-drop, recursion_from_All}
use Rattle.object_heap.specs.Header.{object_header}
use Rattle.object_heap.specs.Layout.{Layout, kind_in, references_in, size_in, reference_in}
use Rattle.object_heap.specs.HeapImage.{HeapImage, IsValid, HasSoundHeader, heap_words, word_at, size_at, references_at, reference_at, end_of, is_null_or_live}
use Rattle.heap_text.specs.Text.{reference_text, number_text, references_text, numbers_text, object_text, are_equal, dead_words_text, dead_text, lines_from}
use Rattle.heap_text.specs.TextLines.{ended_lines}
use Rattle.heap_text.specs.Words.{all_equal, data_part, dead_part, references_part}
use Rattle.heap_text.specs.Parsing.{LiesAhead, next_live}
use Rattle.heap_text.proofs.Lemmas.LineSteps.{lines_append, lines_cons, decimal_lines, number_lines, references_part_lines, data_part_lines, dead_part_lines, line_unique}
use Rattle.heap_text.proofs.Lemmas.PartSteps.{equal_part, unequal_part}
use Rattle.heap_text.proofs.Lemmas.OneText.{no_references, some_references, no_numbers, some_numbers, no_dead, some_dead, equal_words, unequal_words}

-- some words of an image
abbrev pub words_between : HeapImage → ℕ → ℕ → List ℕ
words_between image from n = take n (drop from image.words)

module _ (image : HeapImage) where
  pub words_run : (f : ℕ → List ℕ) (n from : ℕ) → from + n ≤ heap_words image
      → flat_map (λ a. f (word_at image a)) (range_with_len from n) ≡ flat_map f (words_between image from n)
  words_run f zero from inside = refl
  words_run f (suc n) from inside =
      ap (λ (t : List ℕ). f (word_at image from) ++ t) (words_run f n (from + 1) (omega (arith, inside)))
      ∙ sym (ap (λ (xs : List ℕ). flat_map f (take (suc n) xs)) (drop_more image.words from 0 (omega (arith, inside))))

  all_run : (test : ℕ → Bool) (n from : ℕ) → from + n ≤ heap_words image
      → list_all (λ a. test (word_at image a)) (range_with_len from n) ≡ list_all test (words_between image from n)
  all_run test zero from inside = refl
  all_run test (suc n) from inside =
      ap (λ b. test (word_at image from) && b) (all_run test n (from + 1) (omega (arith, inside)))
      ∙ sym (ap (λ (xs : List ℕ). list_all test (take (suc n) xs)) (drop_more image.words from 0 (omega (arith, inside))))

  pub run_length : (n from : ℕ) → from + n ≤ heap_words image → length (words_between image from n) ≡ n
  run_length n from inside = length-take-le n (drop from image.words) (omega (arith, length-drop from image.words, inside))

  references_part_some : (ws : List ℕ) → 0 < length ws → references_part ws ≡ codes " refs" ++ flat_map reference_text ws
  references_part_some [] some = absurd (omega arith)
  references_part_some (w ∷ ws) some = refl

  data_part_some : (ws : List ℕ) → 0 < length ws → data_part ws ≡ codes " data" ++ flat_map number_text ws
  data_part_some [] some = absurd (omega arith)
  data_part_some (w ∷ ws) some = refl

  none_between : (from n : ℕ) → n ≡ 0 → words_between image from n ≡ []
  none_between from n none = ap (λ (k : ℕ). words_between image from k) none

  pub references_are : (from n : ℕ) → from + n ≤ heap_words image → references_text image from (from + n) ≡ references_part (words_between image from n)
  references_are from n inside = elim (cases_lt 0 n) [
    | inl some ↦
        let count : from + n - from ≡ n = omega arith in
        some_references image from (from + n) (omega arith)
        ∙ (ap (λ (k : ℕ). codes " refs" ++ flat_map (λ a. reference_text (word_at image a)) (range_with_len from k)) count
        ∙ (ap (λ (t : List ℕ). codes " refs" ++ t) (words_run reference_text n from inside)
        ∙ sym (references_part_some (words_between image from n) (omega (arith, run_length n from inside)))))
    | inr none ↦ no_references image from (from + n) (omega arith) ∙ sym (ap references_part (none_between from n (omega arith)))
  ]

  pub data_is : (from n : ℕ) → from + n ≤ heap_words image → numbers_text image (codes " data") from (from + n) ≡ data_part (words_between image from n)
  data_is from n inside = elim (cases_lt 0 n) [
    | inl some ↦
        let count : from + n - from ≡ n = omega arith in
        some_numbers image from (from + n) (codes " data") (omega arith)
        ∙ (ap (λ (k : ℕ). codes " data" ++ flat_map (λ a. number_text (word_at image a)) (range_with_len from k)) count
        ∙ (ap (λ (t : List ℕ). codes " data" ++ t) (words_run number_text n from inside)
        ∙ sym (data_part_some (words_between image from n) (omega (arith, run_length n from inside)))))
    | inr none ↦ no_numbers image from (from + n) (codes " data") (omega arith) ∙ sym (ap data_part (none_between from n (omega arith)))
  ]

  first_between : (n from : ℕ) → 0 < n → get_or (words_between image from n) 0 0 ≡ word_at image from
  first_between n from some =
      get_or-take n (drop from image.words) 0 0 some
      ∙ (get_or-drop from image.words 0 0 ∙ ap (λ (k : ℕ). get_or image.words k 0) (let e : from + 0 ≡ from = omega arith in e))

  equal_is : (from n : ℕ) → 0 < n → from + n ≤ heap_words image → are_equal image from (from + n) ≡ all_equal (words_between image from n)
  equal_is from n some inside =
      let count : from + n - from ≡ n = omega arith in
      ap (λ (k : ℕ). list_all (λ a. word_at image a == word_at image from) (range_with_len from k)) count
      ∙ (all_run (λ w. w == word_at image from) n from inside
      ∙ ap (λ (x : ℕ). list_all (λ w. w == x) (words_between image from n)) (sym (first_between n from some)))

  pub dead_words_are : (from n : ℕ) → 0 < n → from + n ≤ heap_words image → dead_words_text image from (from + n) ≡ dead_part (words_between image from n)
  dead_words_are from n some inside =
      let ws : List ℕ = words_between image from n in
      elim (cases_Bool (all_equal ws)) [
        | inl equal ↦
            equal_words image from (from + n) (equal_is from n some inside ∙ equal)
            ∙ (ap (λ (x : ℕ). codes " of" ++ number_text x) (sym (first_between n from some)) ∙ sym (equal_part ws equal))
        | inr other ↦
            let count : from + n - from ≡ n = omega arith in
            unequal_words image from (from + n) (omega arith) (equal_is from n some inside ∙ other)
            ∙ (ap (λ (k : ℕ). codes " words" ++ flat_map (λ a. number_text (word_at image a)) (range_with_len from k)) count
            ∙ (ap (λ (t : List ℕ). codes " words" ++ t) (words_run number_text n from inside) ∙ sym (unequal_part ws other)))
      ]

-- the text of an object's line: its address, its kind, its size, and its fields
abbrev pub object_line : ℕ → List ℕ → List ℕ → List ℕ
object_line a refs others = (64 ∷ decimal a) ++ (32 ∷ (codes "object" ++ (number_text (1 + (length refs + length others)) ++ (references_part refs ++ data_part others))))

abbrev pub dead_line : ℕ → List ℕ → List ℕ
dead_line a ws = (64 ∷ decimal a) ++ (32 ∷ (codes "dead" ++ (number_text (length ws) ++ dead_part ws)))

object_shape : (at d o s n R D e X : List ℕ) → (at ++ (d ++ ((o ++ s) ++ (n ++ (R ++ (D ++ e)))))) ++ X ≡ ((at ++ d) ++ (o ++ ((s ++ n) ++ (R ++ D)))) ++ (e ++ X)
object_shape at d o s n R D e X = simp append_assoc

dead_shape : (at d o s n W e X : List ℕ) → (at ++ (d ++ ((o ++ s) ++ (n ++ (W ++ e))))) ++ X ≡ ((at ++ d) ++ (o ++ ((s ++ n) ++ W))) ++ (e ++ X)
dead_shape at d o s n W e X = simp append_assoc

-- the references of a live object are null or lead into the heap
live_low : (image : HeapImage) (live : List ℕ) (w : ℕ) → All (λ a. HasSoundHeader image a) live → list_any (λ a. w == a + 1) live ≡ true → w ≤ heap_words image
live_low image [] w sound e = let no : false ≡ true = e in cc
live_low image (a ∷ live) w sound e = elim (cases_Bool (w == a + 1)) [
  | inl here ↦
      let one : HasSoundHeader image a = All-head (λ b. HasSoundHeader image b) a live sound in
      let at : w ≡ a + 1 = eqb-true w (a + 1) here in
      omega (arith, at, one.inside, one.header)
  | inr other ↦
      live_low image live w (All-tail (λ b. HasSoundHeader image b) a live sound) (sym (ap (λ b. b || list_any (λ c. w == c + 1) live) other) ∙ e)
]

pub reference_low : (image : HeapImage) → IsValid image → (w : ℕ) → is_null_or_live image w ≡ true → w ≤ heap_words image
reference_low image valid w e = elim (cases_Bool (w == 0)) [
  | inl null ↦ let none : w ≡ 0 = eqb-true w 0 null in omega (arith, none)
  | inr other ↦ live_low image image.live w valid.live_list.sound (sym (ap (λ b. b || list_any (λ a. w == a + 1) image.live) other) ∙ e)
]

-- the line of an object, and what lies ahead after it
pub record IsObjectLine (image : HeapImage) (here : ℕ) (todo line rest : List ℕ) : Type 0 where
  pub live : List ℕ
  pub refs : List ℕ
  pub others : List ℕ
  pub todo_is : todo ≡ here ∷ live
  pub line_is : line ≡ object_line here refs others
  pub refs_fit : AllByRecursion (λ w. w ≤ heap_words image) refs
  pub others_fit : AllByRecursion (λ w. w < 2 ^ 64) others
  pub inside : here + (1 + (length refs + length others)) ≤ heap_words image
  pub size_fits : 1 + (length refs + length others) < 2 ^ 32
  pub references_fit : length refs < 2 ^ 24
  pub end : end_of image here ≡ here + (1 + (length refs + length others))
  pub words : take (here + (1 + (length refs + length others))) image.words
      ≡ take here image.words ++ (object_header (1 + (length refs + length others)) (length refs) ∷ (refs ++ others))
  pub ahead : LiesAhead image live (end_of image here)
  pub rest_is : rest ≡ lines_from image (end_of image here) live

-- the line of a dead run, and what lies ahead after it
pub record IsDeadLine (image : HeapImage) (here : ℕ) (todo line rest : List ℕ) : Type 0 where
  pub ws : List ℕ
  pub begins : here < next_live image todo
  pub line_is : line ≡ dead_line here ws
  pub fits : AllByRecursion (λ w. w < 2 ^ 64) ws
  pub count : here + length ws ≡ next_live image todo
  pub inside : next_live image todo ≤ heap_words image
  pub words : take (next_live image todo) image.words ≡ take here image.words ++ ws
  pub ahead : LiesAhead image todo (next_live image todo)
  pub rest_is : rest ≡ lines_from image (next_live image todo) todo

module _ (image : HeapImage) (valid : IsValid image) where
  pub fits_between : (from n : ℕ) → AllByRecursion (λ w. w < 2 ^ 64) (words_between image from n)
  fits_between from n =
      recursion_from_All (λ w. w < 2 ^ 64) (words_between image from n)
      (All-take (λ w. w < 2 ^ 64) n (drop from image.words) (All-drop (λ w. w < 2 ^ 64) from image.words valid.words_fit))

  pub few_words : heap_words image ≤ 68719476736
  few_words = valid.limits.few_words

  -- the object at an address
  module _ (a : ℕ) (sound : HasSoundHeader image a) (points : (f : ℕ) → f < references_at image a → is_null_or_live image (reference_at image a f) ≡ true) where
    abbrev pub refs_of : List ℕ
    refs_of = words_between image (a + 1) (references_at image a)

    abbrev pub others_of : List ℕ
    others_of = words_between image (a + 1 + references_at image a) (size_at image a - 1 - references_at image a)

    pub refs_count : length refs_of ≡ references_at image a
    refs_count = run_length image (references_at image a) (a + 1) (omega (arith, sound.references, sound.inside))

    pub others_count : length others_of ≡ size_at image a - 1 - references_at image a
    others_count = run_length image (size_at image a - 1 - references_at image a) (a + 1 + references_at image a) (omega (arith, sound.references, sound.inside))

    pub size_is : 1 + (length refs_of + length others_of) ≡ size_at image a
    size_is = omega (arith, refs_count, others_count, sound.references)

    pub refs_low : AllByRecursion (λ w. w ≤ heap_words image) refs_of
    refs_low = recursion_from_All (λ w. w ≤ heap_words image) refs_of (λ f d low.
        let inside : f < references_at image a = omega (arith, low, refs_count) in
        let is : get_or refs_of f d ≡ word_at image (a + 1 + f) =
        get_or-take (references_at image a) (drop (a + 1) image.words) f d inside ∙ (get_or-drop (a + 1) image.words f d ∙ get_or_default image.words (a + 1 + f) d 0 (omega (arith, inside, sound.references, sound.inside))) in
        subst (λ (w : ℕ). w ≤ heap_words image) (sym is) (reference_low image valid (word_at image (a + 1 + f)) (subst (λ (v : ℕ). is_null_or_live image v ≡ true) (ap (λ (y : Layout). reference_in y (word_at image (a + 1 + f))) valid.own) (points f inside))))

    object_words : take (a + size_at image a) image.words ≡ take a image.words ++ (word_at image a ∷ (refs_of ++ others_of))
    object_words =
        let r : ℕ = references_at image a in
        let s : ℕ = size_at image a - 1 - references_at image a in
        let size : size_at image a ≡ suc (r + s) = omega (arith, sound.references) in
        let first : drop a image.words ≡ word_at image a ∷ drop (a + 1) image.words = drop_more image.words a 0 (omega (arith, sound.header, sound.inside)) in
        let fields : take (r + s) (drop (a + 1) image.words) ≡ refs_of ++ others_of =
        take-add r s (drop (a + 1) image.words) ∙ ap (λ (t : List ℕ). refs_of ++ take s t) (drop-drop r (a + 1) image.words) in
        take-add a (size_at image a) image.words
        ∙ (ap (λ (k : ℕ). take a image.words ++ take k (drop a image.words)) size
        ∙ (ap (λ (t : List ℕ). take a image.words ++ take (suc (r + s)) t) first
        ∙ ap (λ (t : List ℕ). take a image.words ++ (word_at image a ∷ t)) fields))

    header_is : word_at image a ≡ object_header (size_at image a) (references_at image a)
    header_is =
        let kind = sym (ap (λ (y : Layout). kind_in y (word_at image a)) valid.own) ∙ sound.object in
        let references = ap (λ (y : Layout). references_in y (word_at image a)) valid.own in
        let size = ap (λ (y : Layout). size_in y (word_at image a)) valid.own in
        omega (arith, kind, references, size, sound.references, sound.inside, few_words)

    pub object_text_is : (X : List ℕ) → object_text image a ++ X ≡ object_line a refs_of others_of ++ (10 ∷ X)
    object_text_is X =
        let end : end_of image a ≡ a + 1 + references_at image a + (size_at image a - 1 - references_at image a) = omega (arith, sound.references) in
        ap (λ (t : List ℕ). (codes "@" ++ (decimal a ++ (codes " object " ++ (decimal (size_at image a) ++ (t ++ (numbers_text image (codes " data") (a + 1 + references_at image a) (end_of image a) ++ codes "\n")))))) ++ X)
        (references_are image (a + 1) (references_at image a) (omega (arith, sound.references, sound.inside)))
        ∙ (ap (λ (t : List ℕ). (codes "@" ++ (decimal a ++ (codes " object " ++ (decimal (size_at image a) ++ (references_part refs_of ++ (t ++ codes "\n")))))) ++ X)
        (ap (λ (k : ℕ). numbers_text image (codes " data") (a + 1 + references_at image a) k) end
        ∙ data_is image (a + 1 + references_at image a) (size_at image a - 1 - references_at image a) (omega (arith, sound.references, sound.inside)))
        ∙ (ap (λ (k : ℕ). (codes "@" ++ (decimal a ++ (codes " object " ++ (decimal k ++ (references_part refs_of ++ (data_part others_of ++ codes "\n")))))) ++ X) (sym size_is)
        ∙ object_shape (codes "@") (decimal a) (codes " object") (codes " ") (decimal (1 + (length refs_of + length others_of))) (references_part refs_of) (data_part others_of) (codes "\n") X))

    object_one_line : ended_lines (object_line a refs_of others_of) ≡ 0
    object_one_line =
        let size : ℕ = 1 + (length refs_of + length others_of) in
        let few : size < 2 ^ 64 = omega (arith, size_is, sound.inside, few_words) in
        let parts : List ℕ = references_part refs_of ++ data_part others_of in
        omega (
          arith,
          lines_append (64 ∷ decimal a) (32 ∷ (codes "object" ++ (number_text size ++ parts))),
          lines_cons 64 (decimal a),
          decimal_lines a (omega (arith, sound.inside, few_words)),
          lines_append (codes " object") (number_text size ++ parts),
          lines_append (number_text size) parts,
          number_lines size few,
          lines_append (references_part refs_of) (data_part others_of),
          references_part_lines (heap_words image) refs_of few_words refs_low,
          data_part_lines others_of (fits_between (a + 1 + references_at image a) (size_at image a - 1 - references_at image a)),
        )

  -- a line that begins with an object
  pub object_line_next : (here : ℕ) (live line rest : List ℕ) → LiesAhead image (here ∷ live) here
      → ((f : ℕ) → f < references_at image here → is_null_or_live image (reference_at image here f) ≡ true) → ended_lines line ≡ 0
      → line ++ (10 ∷ rest) ≡ lines_from image here (here ∷ live) → IsObjectLine image here (here ∷ live) line rest
  object_line_next here live line rest ahead points one is =
      let sound : HasSoundHeader image here = ahead.1 in
      let X : List ℕ = lines_from image (end_of image here) live in
      let refs : List ℕ = refs_of here sound points in
      let others : List ℕ = others_of here sound points in
      let text : line ++ (10 ∷ rest) ≡ object_line here refs others ++ (10 ∷ X) =
      is ∙ (ap (λ (t : List ℕ). t ++ (object_text image here ++ X)) (no_dead image here here (omega arith)) ∙ object_text_is here sound points X) in
      let both = line_unique line (object_line here refs others) rest X one (object_one_line here sound points) text in
      let size : 1 + (length refs + length others) ≡ size_at image here = size_is here sound points in
      record {
        live = live;
        refs = refs;
        others = others;
        todo_is = refl;
        line_is = both.0;
        refs_fit = refs_low here sound points;
        others_fit = fits_between (here + 1 + references_at image here) (size_at image here - 1 - references_at image here);
        inside = omega (arith, size, sound.inside);
        size_fits = omega (arith, size, ap (λ (y : Layout). size_in y (word_at image here)) valid.own);
        references_fit = omega (arith, refs_count here sound points, ap (λ (y : Layout). references_in y (word_at image here)) valid.own);
        end = ap (λ (k : ℕ). here + k) (sym size);
        words = ap (λ (k : ℕ). take (here + k) image.words) size
            ∙ (object_words here sound points
            ∙ ap (λ (w : ℕ). take here image.words ++ (w ∷ (refs ++ others)))
            (header_is here sound points ∙ (ap (λ (k : ℕ). object_header k (references_at image here)) (sym size) ∙ ap (λ (k : ℕ). object_header (1 + (length refs + length others)) k) (sym (refs_count here sound points)))));
        ahead = ahead.2;
        rest_is = both.1;
      }

  -- the dead run from one address up to another
  module _ (from n : ℕ) (some : 0 < n) (inside : from + n ≤ heap_words image) where
    abbrev pub run : List ℕ
    run = words_between image from n

    pub dead_text_is : (X : List ℕ) → dead_text image from (from + n) ++ X ≡ dead_line from run ++ (10 ∷ X)
    dead_text_is X =
        let count : from + n - from ≡ length run = omega (arith, run_length image n from inside) in
        ap (λ (t : List ℕ). t ++ X) (some_dead image from (from + n) (omega (arith, some)))
        ∙ (ap (λ (t : List ℕ). (codes "@" ++ (decimal from ++ (codes " dead " ++ (decimal (from + n - from) ++ (t ++ codes "\n"))))) ++ X) (dead_words_are image from n some inside)
        ∙ (ap (λ (k : ℕ). (codes "@" ++ (decimal from ++ (codes " dead " ++ (decimal k ++ (dead_part run ++ codes "\n"))))) ++ X) count
        ∙ dead_shape (codes "@") (decimal from) (codes " dead") (codes " ") (decimal (length run)) (dead_part run) (codes "\n") X))

    dead_one_line : ended_lines (dead_line from run) ≡ 0
    dead_one_line =
        let few : length run < 2 ^ 64 = omega (arith, run_length image n from inside, inside, few_words) in
        omega (
          arith,
          lines_append (64 ∷ decimal from) (32 ∷ (codes "dead" ++ (number_text (length run) ++ dead_part run))),
          lines_cons 64 (decimal from),
          decimal_lines from (omega (arith, inside, few_words)),
          lines_append (codes " dead") (number_text (length run) ++ dead_part run),
          lines_append (number_text (length run)) (dead_part run),
          number_lines (length run) few,
          dead_part_lines run (fits_between from n),
        )

    dead_words : take (from + n) image.words ≡ take from image.words ++ run
    dead_words = take-add from n image.words

  -- the lines from an address on are the dead run up to the next object, and those from there on
  pub lines_split : (from : ℕ) (todo : List ℕ) → lines_from image from todo ≡ dead_text image from (next_live image todo) ++ lines_from image (next_live image todo) todo
  lines_split from [] =
      sym (append-nil (dead_text image from (heap_words image)))
      ∙ ap (λ (t : List ℕ). dead_text image from (heap_words image) ++ t) (sym (no_dead image (heap_words image) (heap_words image) (omega arith)))
  lines_split from (a ∷ live) =
      ap (λ (t : List ℕ). dead_text image from a ++ (t ++ (object_text image a ++ lines_from image (end_of image a) live))) (sym (no_dead image a a (omega arith)))

  pub next_inside : (from : ℕ) (todo : List ℕ) → LiesAhead image todo from → next_live image todo ≤ heap_words image
  next_inside from [] ahead = omega arith
  next_inside from (a ∷ live) ahead = omega (arith, ahead.1.inside)

  pub next_later : (from : ℕ) (todo : List ℕ) → LiesAhead image todo from → from ≤ next_live image todo
  next_later from [] ahead = ahead
  next_later from (a ∷ live) ahead = ahead.0

  next_ahead : (from : ℕ) (todo : List ℕ) → LiesAhead image todo from → LiesAhead image todo (next_live image todo)
  next_ahead from [] ahead = omega arith
  next_ahead from (a ∷ live) ahead = (omega arith, ahead.1, ahead.2)

  -- a line that begins with a dead run
  pub dead_line_next : (here : ℕ) (todo line rest : List ℕ) → LiesAhead image todo here → here < next_live image todo → ended_lines line ≡ 0
      → line ++ (10 ∷ rest) ≡ lines_from image here todo → IsDeadLine image here todo line rest
  dead_line_next here todo line rest ahead begins one is =
      let next : ℕ = next_live image todo in
      let inside : next ≤ heap_words image = next_inside here todo ahead in
      let n : ℕ = next - here in
      let at : next ≡ here + n = omega (arith, begins) in
      let some : 0 < n = omega (arith, begins) in
      let within : here + n ≤ heap_words image = omega (arith, at, inside) in
      let X : List ℕ = lines_from image next todo in
      let text : line ++ (10 ∷ rest) ≡ dead_line here (run here n some within) ++ (10 ∷ X) =
      is ∙ (lines_split here todo ∙ (ap (λ (k : ℕ). dead_text image here k ++ X) at ∙ dead_text_is here n some within X)) in
      let both = line_unique line (dead_line here (run here n some within)) rest X one (dead_one_line here n some within) text in
      record {
        ws = run here n some within;
        begins = begins;
        line_is = both.0;
        fits = fits_between here n;
        count = omega (arith, run_length image n here within, at);
        inside = inside;
        words = ap (λ (k : ℕ). take k image.words) at ∙ dead_words here n some within;
        ahead = next_ahead here todo ahead;
        rest_is = both.1;
      }

  -- the next line of the heap is that of a dead run or of an object
  pub heap_line : (here : ℕ) (todo line rest : List ℕ) → LiesAhead image todo here → here < heap_words image
      → ((a : ℕ) (more : List ℕ) → todo ≡ a ∷ more → (f : ℕ) → f < references_at image a → is_null_or_live image (reference_at image a f) ≡ true) → ended_lines line ≡ 0
      → line ++ (10 ∷ rest) ≡ lines_from image here todo → IsDeadLine image here todo line rest ⊎ IsObjectLine image here todo line rest
  heap_line here [] line rest ahead left points one is = inl (dead_line_next here [] line rest ahead left one is)
  heap_line here (a ∷ live) line rest ahead left points one is = elim (cases_lt here a) [
    | inl dead ↦ inl (dead_line_next here (a ∷ live) line rest ahead dead one is)
    | inr none ↦
        let at : a ≡ here = omega (arith, ahead.0, none) in
        inr (
        subst (λ (k : ℕ). IsObjectLine image here (k ∷ live) line rest) (sym at)
        (object_line_next here live line rest (omega arith, subst (λ (k : ℕ). HasSoundHeader image k) at ahead.1, subst (λ (k : ℕ). LiesAhead image live (end_of image k)) at ahead.2)
        (points here live (ap (λ (k : ℕ). k ∷ live) at)) one (is ∙ ap (λ (k : ℕ). lines_from image here (k ∷ live)) at))
        )
  ]

  -- the references of the next object ahead are null or lead to live objects
  pub points_ahead : (done todo : List ℕ) → done ++ todo ≡ image.live → (a : ℕ) (more : List ℕ) → todo ≡ a ∷ more
      → (f : ℕ) → f < references_at image a → is_null_or_live image (reference_at image a f) ≡ true
  points_ahead done todo whole a more is =
      let live : done ++ (a ∷ more) ≡ image.live = ap (λ (t : List ℕ). done ++ t) (sym is) ∙ whole in
      let at : get_or image.live (length done) 0 ≡ a = ap (λ (xs : List ℕ). get_or xs (length done) 0) (sym live) ∙ get_or_at done a more 0 (length done) refl in
      let inside : length done < length image.live = omega (arith, ap (λ (xs : List ℕ). length xs) live, length-append done (a ∷ more)) in
      subst (λ (k : ℕ). (f : ℕ) → f < references_at image k → is_null_or_live image (reference_at image k f) ≡ true) at (valid.live_list.references (length done) 0 inside)
