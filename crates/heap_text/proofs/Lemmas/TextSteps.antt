-- Texts of runs of words, one word at a time, and counts of lines.
use Rattle.std.proofs.Common.{◌≡◌, ◌∙◌, ◌+◌, ◌-◌, ◌<◌, ◌≤◌, ◌==◌, ◌&&◌, ℕ, Bool, true, List, [], ◌∷◌, ◌++◌, zero, suc, refl, sym, ap, take, drop, get_or, length, slice_index, append_assoc, append-nil, length-append, take-take, arith, subst, Option, None, Some, IfSome, if◌then◌else◌}
use Rattle.std.specs.Prelude.{flat_map}
use Rattle.std.specs.List.{list_all, range_with_len}
use Rattle.std.proofs.lemmas.Grind.{flat_map-append}
use Rattle.std.proofs.lemmas.List.Concat.{flat_map-cons}
use Rattle.std.proofs.lemmas.List.Sums.{count_by_more_yes, sum_by-append, sum_by-take-drop, sum_by-take-le}
use Rattle.object_heap.specs.HeapImage.{HeapImage, end_of}
use Rattle.std.proofs.lemmas.List.{append_cancel_left, drop_more}
use Rattle.heap_text.specs.Text.{addresses_between, dead_text, front_text, lines_from, number_line, object_text, roots_line, text_of}
use Rattle.std.specs.Io.KnownBytes.{Consumes, IsAtEnd}
use Rattle.std.proofs.KnownBytes.{Consumes-nil, Consumes-trans}
use Rattle.heap_text.specs.TextLines.{ended_lines, IsAbout, IsLineOf, IsOfLine, IsOfNoLine, IsWithin, EndsInLine}
use Rattle.heap_text.specs.declared.error.TextError.{TextError}
use Rattle.heap_text.specs.declared.error.TextError.TheVariants.{Memory, Line}
use Rattle.heap_text.specs.declared.error.AssembleError.{AssembleError}
use Rattle.heap_text.specs.declared.error.AssembleError.TheVariants.{Device, Text}

-- the first address, and the others
pub addresses_between-cons : (i to : ℕ) → i < to → addresses_between i to ≡ i ∷ addresses_between (i + 1) to
addresses_between-cons i to less =
    let e : to - i ≡ suc (to - (i + 1)) = omega arith in
    ap (λ n. range_with_len i n) e

-- one word more is written, and the whole stays
pub append_word : (f : ℕ → List ℕ) (told new whole : List ℕ) (i to : ℕ) → i < to → told ++ flat_map f (addresses_between i to) ≡ whole
    → new ≡ told ++ f i → new ++ flat_map f (addresses_between (i + 1) to) ≡ whole
append_word f told new whole i to less all is =
    let rest = flat_map f (addresses_between (i + 1) to) in
    ap (λ t. t ++ rest) is
    ∙ (append_assoc told (f i) rest
    ∙ (ap (λ xs. told ++ xs) (sym (flat_map-cons f i (addresses_between (i + 1) to)))
    ∙ (ap (λ xs. told ++ flat_map f xs) (sym (addresses_between-cons i to less)) ∙ all)))

range_parts : (a m n k : ℕ) → k ≡ m + n → range_with_len a k ≡ range_with_len a m ++ range_with_len (a + m) n
range_parts a zero n k is =
    let e : k ≡ n = omega (arith, is) in
    let at : a ≡ a + 0 = omega arith in
    ap (λ j. range_with_len a j) e ∙ ap (λ j. range_with_len j n) at
range_parts a (suc m) n k is =
    let e : k ≡ suc (m + n) = omega (arith, is) in
    let at : a + 1 + m ≡ a + suc m = omega arith in
    ap (λ j. range_with_len a j) e
    ∙ ap (λ (xs : List ℕ). a ∷ xs) (range_parts (a + 1) m n (m + n) refl ∙ ap (λ j. range_with_len (a + 1) m ++ range_with_len j n) at)

-- a row of words more is written, and the whole stays
pub append_row : (f : ℕ → List ℕ) (told new whole : List ℕ) (i k to : ℕ) → k ≤ to - i → told ++ flat_map f (addresses_between i to) ≡ whole
    → new ≡ told ++ flat_map f (addresses_between i (i + k)) → new ++ flat_map f (addresses_between (i + k) to) ≡ whole
append_row f told new whole i k to within all is =
    let row : List ℕ = range_with_len i k in
    let rest : List ℕ = addresses_between (i + k) to in
    let e : i + k - i ≡ k = omega arith in
    let count : to - i ≡ k + (to - (i + k)) = omega (arith, within) in
    let parts : addresses_between i to ≡ row ++ rest = range_parts i k (to - (i + k)) (to - i) count in
    ap (λ (t : List ℕ). t ++ flat_map f rest) (is ∙ ap (λ n. told ++ flat_map f (range_with_len i n)) e)
    ∙ (append_assoc told (flat_map f row) (flat_map f rest)
    ∙ (ap (λ (t : List ℕ). told ++ t) (sym (ap (flat_map f) parts ∙ flat_map-append f row rest)) ∙ all))

-- a word more is written before the others
pub prepend_word : (f : ℕ → List ℕ) (new others : List ℕ) (i j to : ℕ) → i < to → j ≡ i + 1 → others ≡ flat_map f (addresses_between j to) → new ≡ f i ++ others
    → new ≡ flat_map f (addresses_between i to)
prepend_word f new others i j to less next rest is =
    is ∙ (ap (λ (t : List ℕ). f i ++ t) (rest ∙ ap (λ k. flat_map f (addresses_between k to)) next)
    ∙ (sym (flat_map-cons f i (addresses_between (i + 1) to)) ∙ ap (flat_map f) (sym (addresses_between-cons i to less))))

-- a predicate that holds of the first address depends on the others
pub all_but_first : (p : ℕ → Bool) (i to : ℕ) → i < to → p i ≡ true
    → list_all p (addresses_between i to) ≡ list_all p (addresses_between (i + 1) to)
all_but_first p i to less holds =
    ap (list_all p) (addresses_between-cons i to less) ∙ ap (λ b. b && list_all p (addresses_between (i + 1) to)) holds

-- the bytes after a newline have a line less
pub after_newline : (i n : ℕ) (bytes : List ℕ) → i < length bytes → slice_index bytes i ≡ 10
    → ended_lines (take n (drop (i + 1) bytes)) + 1 ≤ ended_lines bytes
after_newline i n bytes inside is =
    let more = count_by_more_yes (λ b. b == 10) bytes i 0 inside (ap (λ b. b == 10) is) in
    let parts = sum_by-take-drop (λ b. if b == 10 then 1 else 0) bytes (i + 1) in
    let front = sum_by-take-le (λ b. if b == 10 then 1 else 0) (drop (i + 1) bytes) n in
    omega (arith, more, parts, front)

-- four texts that are appended one after the other
pub append_four : (t0 t1 t2 t3 t4 a b c d : List ℕ) → t1 ≡ t0 ++ a → t2 ≡ t1 ++ b → t3 ≡ t2 ++ c → t4 ≡ t3 ++ d
    → t4 ≡ t0 ++ (a ++ (b ++ (c ++ d)))
append_four t0 t1 t2 t3 t4 a b c d e1 e2 e3 e4 =
    e4 ∙ (ap (λ t. t ++ d) (e3 ∙ ap (λ t. t ++ c) (e2 ∙ ap (λ t. t ++ b) e1)) ∙ simp append_assoc)

-- the line of a number is that of an equal one
pub same_line : (name told new : List ℕ) (n m : ℕ) → new ≡ told ++ number_line name n → n ≡ m → new ≡ told ++ number_line name m
same_line name told new n m is same = is ∙ ap (λ k. told ++ number_line name k) same

-- more bytes are seen
pub ends_further : (bytes : List ℕ) (from to line begin : ℕ) → EndsInLine bytes from line begin → from ≤ to → to ≤ length bytes → EndsInLine bytes to line begin
ends_further bytes from to line begin s low within =
    let less = sum_by-take-le (λ b. if b == 10 then 1 else 0) (take to bytes) from in
    let same : ended_lines (take from (take to bytes)) ≡ ended_lines (take from bytes) = ap ended_lines (take-take from to bytes low) in
    record {
      within = within;
      begun = omega (arith, s.begun, low);
      some = s.some;
      few = omega (arith, s.few, low);
      counted = omega (arith, less, same, s.counted);
    }

-- a newline more is seen
pub ends_after_newline : (bytes : List ℕ) (place line begin : ℕ) → EndsInLine bytes place line begin → place < length bytes → slice_index bytes place ≡ 10
    → EndsInLine bytes (place + 1) (line + 1) (place + 1)
ends_after_newline bytes place line begin s inside is =
    let more = count_by_more_yes (λ b. b == 10) bytes place 0 inside (ap (λ b. b == 10) is) in
    record {
      within = omega arith;
      begun = omega arith;
      some = omega arith;
      few = omega (arith, s.few);
      counted = omega (arith, more, s.counted);
    }

take_front : (bytes came : List ℕ) → take (length bytes) (bytes ++ came) ≡ take (length bytes) bytes
take_front [] came = refl
take_front (b ∷ bytes) came = ap (λ (xs : List ℕ). b ∷ xs) (take_front bytes came)

-- the text grows by more bytes
pub ends_before_more : (bytes came : List ℕ) (line begin : ℕ) → EndsInLine bytes (length bytes) line begin → EndsInLine (bytes ++ came) (length bytes) line begin
ends_before_more bytes came line begin s =
    record {
      within = omega (arith, length-append bytes came);
      begun = s.begun;
      some = s.some;
      few = s.few;
      counted = subst (λ (xs : List ℕ). line ≤ ended_lines xs + 1) (sym (take_front bytes came)) s.counted;
    }

pub ends_before_piece : (old new came : List ℕ) (seen line begin : ℕ) → new ≡ old ++ came → seen ≡ length old → EndsInLine old seen line begin → EndsInLine new seen line begin
ends_before_piece old new came seen line begin is at s =
    subst (λ (xs : List ℕ). EndsInLine xs seen line begin) (sym is)
    (subst (λ (n : ℕ). EndsInLine (old ++ came) n line begin) (sym at) (ends_before_more old came line begin (subst (λ (n : ℕ). EndsInLine old n line begin) at s)))

pub line_of_end : (bytes : List ℕ) (seen line begin : ℕ) → EndsInLine bytes seen line begin → IsLineOf bytes line
line_of_end bytes seen line begin s = (s.some, omega (arith, s.counted, sum_by-take-le (λ b. if b == 10 then 1 else 0) bytes seen))

-- an error that names the line in which a text ends is within the text
pub at_line : (bytes : List ℕ) (seen line begin : ℕ) (error : TextError) → EndsInLine bytes seen line begin → IsOfLine line error → IsWithin bytes error
at_line bytes seen line begin Memory s is = tt
at_line bytes seen line begin (Line other expected) s is = subst (IsLineOf bytes) (sym is) (line_of_end bytes seen line begin s)

-- an error within the first bytes of a device is within all of them
pub about_all : (old new : Option (List ℕ)) (bytes : List ℕ) (error : TextError) → Consumes old new bytes → IsWithin bytes error → IfSome old (λ all. IsAbout all (Text error))
about_all None new bytes error c w = tt
about_all (Some all) None bytes error c w = absurd c
about_all (Some all) (Some rest) bytes Memory c w = tt
about_all (Some all) (Some rest) bytes (Line line expected) c w =
    let more = sum_by-append (λ b. if b == 10 then 1 else 0) bytes rest in
    (w.0, subst (λ (xs : List ℕ). line ≤ ended_lines xs + 1) (sym c) (omega (arith, more, w.1)))

pub about_none : (old : Option (List ℕ)) (error : AssembleError) → IsOfNoLine error → IfSome old (λ all. IsAbout all error)
about_none None error h = tt
about_none (Some all) Device h = tt
about_none (Some all) (Text Memory) h = tt
about_none (Some all) (Text (Line line expected)) h = absurd h

-- a device at its end has given all of its bytes
pub all_given : (old new : Option (List ℕ)) (bytes : List ℕ) → Consumes old new bytes → IsAtEnd new → IfSome old (λ all. all ≡ bytes)
all_given None new bytes c e = tt
all_given (Some all) None bytes c e = absurd c
all_given (Some all) (Some rest) bytes c e = c ∙ (ap (λ (xs : List ℕ). bytes ++ xs) e ∙ append-nil bytes)

pub none_given : (device : Option (List ℕ)) (bytes : List ℕ) → bytes ≡ [] → Consumes device device bytes
none_given device bytes none = subst (Consumes device device) (sym none) (Consumes-nil device)

-- a device gives one piece more
pub more_given : (first old new : Option (List ℕ)) (before after came : List ℕ) → Consumes first old before → Consumes old new came → after ≡ before ++ came
    → Consumes first new after
more_given first old new before after came c d is = subst (Consumes first new) (sym is) (Consumes-trans first old new before came c d)

-- the lines up to the end of the next object, and those after it
pub next_lines : (image : HeapImage) (from i next : ℕ) (live cleared dead lines : List ℕ) → i < length live → cleared ≡ []
    → dead ≡ cleared ++ dead_text image from (get_or live i 0) → lines ≡ dead ++ object_text image (get_or live i 0) → next ≡ end_of image (get_or live i 0)
    → lines_from image from (drop i live) ≡ lines ++ lines_from image next (drop (i + 1) live)
next_lines image from i next live cleared dead lines inside none dead_is lines_is next_is =
    let place : ℕ = get_or live i 0 in
    let D : List ℕ = dead_text image from place in
    let O : List ℕ = object_text image place in
    let X : List ℕ = lines_from image (end_of image place) (drop (i + 1) live) in
    let both : lines ≡ D ++ O = lines_is ∙ ap (λ (t : List ℕ). t ++ O) (dead_is ∙ ap (λ (t : List ℕ). t ++ D) none) in
    ap (λ (xs : List ℕ). lines_from image from xs) (drop_more live i 0 inside)
    ∙ (sym (append_assoc D O X) ∙ (ap (λ (t : List ℕ). t ++ X) (sym both) ∙ ap (λ (n : ℕ). lines ++ lines_from image n (drop (i + 1) live)) (sym next_is)))

-- the lines before the words, and those of the words
pub first_lines : (image : HeapImage) (none front both lines : List ℕ) → none ≡ [] → front ≡ none ++ front_text image → both ≡ front ++ roots_line image → lines ≡ both
    → text_of image ≡ lines ++ lines_from image 0 image.live
first_lines image none front both lines none_is front_is both_is lines_is =
    let F : List ℕ = front_text image in
    let R : List ℕ = roots_line image in
    let X : List ℕ = lines_from image 0 image.live in
    let whole : lines ≡ F ++ R = lines_is ∙ (both_is ∙ ap (λ (t : List ℕ). t ++ R) (front_is ∙ ap (λ (t : List ℕ). t ++ F) none_is)) in
    sym (append_assoc F R X) ∙ ap (λ (t : List ℕ). t ++ X) (sym whole)

-- what follows these lines in the rest of a text
pub rest_follows : (lines rest after more : List ℕ) → rest ≡ lines ++ after → rest ≡ lines ++ more → after ≡ more
rest_follows lines rest after more is is' = append_cancel_left lines after more (sym is ∙ is')
