-- What a parser expects, one line after the other.
use Rattle.std.proofs.Common.{◌≡◌, ℕ, suc, ◌+◌, ◌-◌, ◌*◌, ◌^◌, ◌<◌, ◌≤◌, ◌⊎◌, inl, inr, true, false, List, [], ◌∷◌, ◌++◌, codes, decimal, take, length, refl, sym, ap, ◌∙◌, subst, arith, append_assoc, append-nil, length-append, Option, None, Some, IfSome, is_some}
use Rattle.std.specs.Prelude.{flat_map}
use Rattle.std.specs.List.{AllByRecursion}
use Rattle.std.proofs.lemmas.Bool.{cases_Bool, cases_lt, false≢true}
use Rattle.std.proofs.lemmas.List.{take_all}
use Rattle.std.proofs.lemmas.List.Elements.{recursion_from_All}
use Rattle.object_heap.specs.Header.{object_header}
use Rattle.object_heap.specs.Version.{has_roots}
use Rattle.object_heap.specs.HeapImage.{HeapImage, IsValid, AreRoots, heap_words, end_of, size_at, references_at, roots_or, roots_of, version_of}
use Rattle.heap_text.specs.Text.{number_line, reference_text, roots_text, object_text, dead_text, lines_from, text_of}
use Rattle.heap_text.specs.TextLines.{ended_lines}
use Rattle.heap_text.specs.Tokens.{IsToken, IsAfterToken}
use Rattle.heap_text.specs.Words.{HasParsed}
use Rattle.heap_text.specs.Parsing.{LiesAhead, next_live, HasNothing, HasHead, HasContents, IsEmpty, IsAtVersion, IsAtRegionLog, IsAtWords, IsAtAllowance, IsAtRoots, IsInHeap, ExpectsAt, after_version, after_region_log, after_words, after_allowance}
use Rattle.heap_text.specs.declared.line_parser.LineParser.{LineParser}
use Rattle.heap_text.specs.declared.line_parser.next_line.NextLine.{NextLine}
use Rattle.heap_text.specs.declared.line_parser.next_line.NextLine.TheVariants.{Version, RegionLog, Words, Allowance, Roots, Heap}
use Rattle.heap_text.proofs.Lemmas.LineSteps.{lines_append, line_unique, number_line_front, number_line_is, references_lines}
use Rattle.heap_text.proofs.Lemmas.HeapLines.{IsObjectLine, IsDeadLine, dead_line, dead_text_is, few_words, fits_between, lines_split, next_inside, object_line, object_text_is, others_of, points_ahead, refs_low, refs_of, run, run_length, size_is}
use Rattle.heap_text.proofs.Lemmas.LineBytes.{HasLine, IsPart, dead_line_part, front_line_part, object_line_part, roots_line_part}
use Rattle.heap_text.specs.TextBytes.{longest}
use Rattle.heap_text.proofs.Lemmas.OneText.{four, version_few, line_of_roots, ahead_of, no_dead}
use Rattle.heap_text.proofs.Lemmas.WordTexts.{reference_is}

pub text_begins : (image : HeapImage) → text_of image ≡ number_line (codes "heap version") (version_of image) ++ after_version image
text_begins image =
    four (number_line (codes "heap version") (version_of image)) (number_line (codes "region-log") image.region_log) (number_line (codes "words") (heap_words image))
    (number_line (codes "allowance") image.allowance) (after_allowance image)

pub version_line : (image : HeapImage) (line rest : List ℕ) → ended_lines line ≡ 0 → line ++ (10 ∷ rest) ≡ text_of image
    → (line ≡ codes "heap version " ++ decimal (version_of image)) × (rest ≡ after_version image)
version_line image line rest one is =
    number_line_is (codes "heap version") line rest (after_version image) (version_of image) (version_few image) refl one (is ∙ text_begins image)

pub region_log_line : (image : HeapImage) (line rest : List ℕ) → IsValid image → ended_lines line ≡ 0 → line ++ (10 ∷ rest) ≡ after_version image
    → (line ≡ codes "region-log " ++ decimal image.region_log) × (rest ≡ after_region_log image)
region_log_line image line rest valid one is =
    number_line_is (codes "region-log") line rest (after_region_log image) image.region_log (omega (arith, valid.limits.region_log_high)) refl one is

pub words_line : (image : HeapImage) (line rest : List ℕ) → IsValid image → ended_lines line ≡ 0 → line ++ (10 ∷ rest) ≡ after_region_log image
    → (line ≡ codes "words " ++ decimal (heap_words image)) × (rest ≡ after_words image)
words_line image line rest valid one is =
    number_line_is (codes "words") line rest (after_words image) (heap_words image) (omega (arith, valid.limits.few_words)) refl one is

pub allowance_line : (image : HeapImage) (line rest : List ℕ) → IsValid image → ended_lines line ≡ 0 → line ++ (10 ∷ rest) ≡ after_words image
    → (line ≡ codes "allowance " ++ decimal image.allowance) × (rest ≡ after_allowance image)
allowance_line image line rest valid one is =
    number_line_is (codes "allowance") line rest (after_allowance image) image.allowance valid.allowance_fits refl one is

-- with roots, the line of the roots
rooted_line : (roots : Option (List ℕ)) → is_some roots ≡ true → line_of_roots roots ≡ roots_text (roots_or [] roots)
rooted_line None e = cc
rooted_line (Some roots) e = refl

plain_line : (roots : Option (List ℕ)) → is_some roots ≡ false → line_of_roots roots ≡ []
plain_line None e = refl
plain_line (Some roots) e = cc

plain_roots : (roots : Option (List ℕ)) → is_some roots ≡ false → roots_or [] roots ≡ []
plain_roots None e = refl
plain_roots (Some roots) e = cc

pub roots_low : (image : HeapImage) → IsValid image → AllByRecursion (λ w. w ≤ heap_words image) (roots_of image)
roots_low image valid = go image.roots valid.rooted
  where
    go : (roots : Option (List ℕ)) → IfSome roots (AreRoots image) → AllByRecursion (λ w. w ≤ heap_words image) (roots_or [] roots)
    go None r = tt
    go (Some roots) r = recursion_from_All (λ w. w ≤ heap_words image) roots r.inside

pub roots_few : (image : HeapImage) → IsValid image → length (roots_of image) ≤ heap_words image
roots_few image valid = go image.roots valid.rooted
  where
    go : (roots : Option (List ℕ)) → IfSome roots (AreRoots image) → length (roots_or [] roots) ≤ heap_words image
    go None r = omega arith
    go (Some roots) r = r.few

pub roots_after : (ws : List ℕ) → IsAfterToken (flat_map reference_text ws)
roots_after [] = tt
roots_after (w ∷ ws) = rw (reference_is w) refl

pub roots_token : IsToken (codes "roots")
roots_token = (omega arith, (omega arith, (omega arith, (omega arith, (omega arith, tt)))))

roots_shape : (a b c X : List ℕ) → (a ++ (b ++ c)) ++ X ≡ (a ++ b) ++ (c ++ X)
roots_shape a b c X = simp append_assoc

pub roots_line_is : (image : HeapImage) (line rest : List ℕ) → IsValid image → is_some image.roots ≡ true → ended_lines line ≡ 0 → line ++ (10 ∷ rest) ≡ after_allowance image
    → (line ≡ codes "roots" ++ flat_map reference_text (roots_of image)) × (rest ≡ lines_from image 0 image.live)
roots_line_is image line rest valid rooted one is =
    let refs : List ℕ = flat_map reference_text (roots_of image) in
    let X : List ℕ = lines_from image 0 image.live in
    line_unique line (codes "roots" ++ refs) rest X one
    (omega (arith, lines_append (codes "roots") refs, references_lines (heap_words image) (roots_of image) valid.limits.few_words (roots_low image valid)))
    (is ∙ (ap (λ (t : List ℕ). t ++ X) (rooted_line image.roots rooted) ∙ roots_shape (codes "roots") refs (codes "\n") X))

-- the words begin
abbrev pub heap_begins : (image : HeapImage) (parser : LineParser) (text : List ℕ) → IsValid image → IsEmpty parser.heap.words parser.heap.live.items [] parser.follows_dead_run
    → HasHead image parser.heap.version parser.heap.region_log parser.heap.allowance → parser.len ≡ heap_words image
    → parser.heap.roots.items ≡ roots_of image → text ≡ lines_from image 0 image.live → IsInHeap image parser text
heap_begins image parser text valid empty head len roots is =
    record {
      todo = image.live;
      live = ap (λ (t : List ℕ). t ++ image.live) empty.live;
      words = empty.words ∙ sym (ap (λ (k : ℕ). take k image.words) empty.len);
      ahead = subst (LiesAhead image image.live) (sym empty.len) (ahead_of image valid);
      follows = λ e. absurd (false≢true (sym empty.follows ∙ e));
      head = head;
      len = len;
      roots = roots;
      rest = is ∙ ap (λ (k : ℕ). lines_from image k image.live) (sym empty.len);
    }

-- without roots the words begin after the allowance
pub plain_begins : (image : HeapImage) (parser : LineParser) (text : List ℕ) → IsValid image → HasNothing parser
    → HasHead image parser.heap.version parser.heap.region_log parser.heap.allowance → parser.len ≡ heap_words image
    → is_some image.roots ≡ false → text ≡ after_allowance image → IsInHeap image parser text
plain_begins image parser text valid empty head len plain is =
    heap_begins image parser text valid (record { words = empty.words; len = empty.len; live = empty.live; roots = refl; follows = empty.follows }) head len
    (empty.roots ∙ sym (plain_roots image.roots plain))
    (is ∙ ap (λ (t : List ℕ). t ++ lines_from image 0 image.live) (plain_line image.roots plain))

-- what comes after the allowance
pub front_ends : (image : HeapImage) (parser : LineParser) (next : NextLine) (text : List ℕ) → IsValid image → HasNothing parser
    → HasHead image parser.heap.version parser.heap.region_log parser.heap.allowance → parser.len ≡ heap_words image
    → (has_roots parser.heap.version ≡ true → next ≡ Roots) → (has_roots parser.heap.version ≡ false → next ≡ Heap) → text ≡ after_allowance image → ExpectsAt next image parser text
front_ends image parser next text valid empty head len rooted plain is = elim (cases_Bool (is_some image.roots)) [
  | inl some ↦
      subst (λ (n : NextLine). ExpectsAt n image parser text) (sym (rooted (ap has_roots head.version ∙ (sym valid.versioned ∙ some))))
      (record { empty = empty; head = head; len = len; rooted = some; rest = is })
  | inr none ↦
      subst (λ (n : NextLine). ExpectsAt n image parser text) (sym (plain (ap has_roots head.version ∙ (sym valid.versioned ∙ none))))
      (plain_begins image parser text valid empty head len none is)
]

-- an object was parsed
pub object_parsed : (image : HeapImage) (old new : LineParser) (text line rest : List ℕ) (p : IsInHeap image old text) (l : IsObjectLine image old.heap.words.len p.todo line rest)
    → HasParsed old.heap new.heap (object_header (1 + (length l.refs + length l.others)) (length l.refs) ∷ (l.refs ++ l.others)) (old.heap.words.len ∷ [])
    → new.len ≡ old.len → new.follows_dead_run ≡ false → IsInHeap image new rest
object_parsed image old new text line rest p l q len follows =
    let here : ℕ = old.heap.words.len in
    let ws : List ℕ = object_header (1 + (length l.refs + length l.others)) (length l.refs) ∷ (l.refs ++ l.others) in
    let more : length ws ≡ 1 + (length l.refs + length l.others) = omega (arith, ap suc (length-append l.refs l.others)) in
    let at : new.heap.words.len ≡ here + (1 + (length l.refs + length l.others)) = omega (arith, q.words.len, more) in
    let end : new.heap.words.len ≡ end_of image here = at ∙ sym l.end in
    record {
      todo = l.live;
      live = ap (λ (t : List ℕ). t ++ l.live) q.live
          ∙ (append_assoc old.heap.live.items (here ∷ []) l.live ∙ (ap (λ (t : List ℕ). old.heap.live.items ++ t) (sym l.todo_is) ∙ p.live));
      words = q.words.words ∙ (ap (λ (t : List ℕ). t ++ ws) p.words ∙ (sym l.words ∙ ap (λ (k : ℕ). take k image.words) (sym at)));
      ahead = subst (LiesAhead image l.live) (sym end) l.ahead;
      follows = λ e. absurd (false≢true (sym follows ∙ e));
      head = record { version = q.head.version ∙ p.head.version; region_log = q.head.region_log ∙ p.head.region_log; allowance = q.head.allowance ∙ p.head.allowance };
      len = len ∙ p.len;
      roots = q.head.roots ∙ p.roots;
      rest = l.rest_is ∙ ap (λ (k : ℕ). lines_from image k l.live) (sym end);
    }

-- a dead run was parsed
pub dead_parsed : (image : HeapImage) (old new : LineParser) (text line rest : List ℕ) (p : IsInHeap image old text) (l : IsDeadLine image old.heap.words.len p.todo line rest)
    → HasParsed old.heap new.heap l.ws [] → new.len ≡ old.len → IsInHeap image new rest
dead_parsed image old new text line rest p l q len =
    let here : ℕ = old.heap.words.len in
    let at : new.heap.words.len ≡ next_live image p.todo = omega (arith, q.words.len, l.count) in
    record {
      todo = p.todo;
      live = ap (λ (t : List ℕ). t ++ p.todo) (q.live ∙ append-nil old.heap.live.items) ∙ p.live;
      words = q.words.words ∙ (ap (λ (t : List ℕ). t ++ l.ws) p.words ∙ (sym l.words ∙ ap (λ (k : ℕ). take k image.words) (sym at)));
      ahead = subst (LiesAhead image p.todo) (sym at) l.ahead;
      follows = λ e. at;
      head = record { version = q.head.version ∙ p.head.version; region_log = q.head.region_log ∙ p.head.region_log; allowance = q.head.allowance ∙ p.head.allowance };
      len = len ∙ p.len;
      roots = q.head.roots ∙ p.roots;
      rest = l.rest_is ∙ ap (λ (k : ℕ). lines_from image k p.todo) (sym at);
    }

-- a text that is left begins with a line
module _ (image : HeapImage) (valid : IsValid image) where
  number_begins : (name X text : List ℕ) (n most : ℕ) → IsPart (name ++ codes " ") 20 → n < 2 ^ 64 → text ≡ number_line name n ++ X → HasLine text 64
  number_begins name X text n most p few is =
      record {
        line = (name ++ codes " ") ++ decimal n;
        rest = X;
        is = is ∙ number_line_front name (codes " ") (decimal n) (codes "\n") X;
        part = front_line_part (name ++ codes " ") n p few;
      }

  -- the lines from an address on: none at the end of the heap
  pub lines_begin : (done todo : List ℕ) (here : ℕ) → done ++ todo ≡ image.live → LiesAhead image todo here
      → ((todo ≡ []) × (here ≡ heap_words image)) ⊎ HasLine (lines_from image here todo) (64 + 21 * heap_words image)
  lines_begin done todo here whole ahead = elim (cases_lt here (next_live image todo)) [
    | inl some ↦
        let n : ℕ = next_live image todo - here in
        let at : next_live image todo ≡ here + n = omega (arith, some) in
        let some' : 0 < n = omega (arith, some) in
        let within : here + n ≤ heap_words image = omega (arith, at, next_inside image valid here todo ahead) in
        let ws : List ℕ = run image valid here n some' within in
        let X : List ℕ = lines_from image (next_live image todo) todo in
        inr (record {
          line = dead_line here ws;
          rest = X;
          is = lines_split image valid here todo ∙ (ap (λ (k : ℕ). dead_text image here k ++ X) at ∙ dead_text_is image valid here n some' within X);
          part = dead_line_part (heap_words image) here ws (few_words image valid) (fits_between image valid here n)
              (omega (arith, run_length image n here within, within)) (omega (arith, run_length image n here within, some'));
        })
    | inr none ↦ after todo whole ahead none
  ]
    where
      after : (todo : List ℕ) → done ++ todo ≡ image.live → LiesAhead image todo here → next_live image todo ≤ here
          → ((todo ≡ []) × (here ≡ heap_words image)) ⊎ HasLine (lines_from image here todo) (64 + 21 * heap_words image)
      after [] whole ahead none = inl (refl, omega (arith, none, ahead))
      after (a ∷ live) whole ahead none =
          let at : a ≡ here = omega (arith, none, ahead.0) in
          let points = points_ahead image valid done (a ∷ live) whole a live refl in
          let refs : List ℕ = refs_of image valid a ahead.1 points in
          let others : List ℕ = others_of image valid a ahead.1 points in
          let X : List ℕ = lines_from image (end_of image a) live in
          inr (record {
            line = object_line a refs others;
            rest = X;
            is = ap (λ (t : List ℕ). t ++ (object_text image a ++ X)) (no_dead image here a (omega (arith, at))) ∙ object_text_is image valid a ahead.1 points X;
            part = object_line_part (heap_words image) a refs others (few_words image valid) (refs_low image valid a ahead.1 points)
                (fits_between image valid (a + 1 + references_at image a) (size_at image a - 1 - references_at image a))
                (omega (arith, size_is image valid a ahead.1 points, ahead.1.inside));
          })

  module _ (parser : LineParser) (text : List ℕ) where
    heap_begins_line : IsInHeap image parser text → (text ≡ []) ⊎ HasLine text (64 + 21 * parser.len)
    heap_begins_line p = elim (lines_begin parser.heap.live.items p.todo parser.heap.words.len p.live p.ahead) [
      | inl none ↦
          inl (p.rest ∙ (ap (λ (t : List ℕ). lines_from image parser.heap.words.len t) none.0 ∙ (ap (λ (k : ℕ). lines_from image k []) none.1 ∙ no_dead image (heap_words image) (heap_words image) (omega arith))))
      | inr some ↦
          inr (subst (λ (n : ℕ). HasLine text (64 + 21 * n)) (sym p.len) (subst (λ (t : List ℕ). HasLine t (64 + 21 * heap_words image)) (sym p.rest) some))
    ]

    roots_begin_line : IsAtRoots image parser text → HasLine text (64 + 21 * parser.len)
    roots_begin_line p =
        let X : List ℕ = lines_from image 0 image.live in
        subst (λ (n : ℕ). HasLine text (64 + 21 * n)) (sym p.len) (record {
          line = codes "roots" ++ flat_map reference_text (roots_of image);
          rest = X;
          is = p.rest ∙ (ap (λ (t : List ℕ). t ++ X) (rooted_line image.roots p.rooted) ∙ roots_shape (codes "roots") (flat_map reference_text (roots_of image)) (codes "\n") X);
          part = roots_line_part (heap_words image) (roots_of image) valid.limits.few_words (roots_low image valid) (roots_few image valid);
        })

    version_begins : IsAtVersion image parser text → HasLine text 64
    version_begins p =
        number_begins (codes "heap version") (after_version image) text (version_of image) 64 (record { short = omega arith; plain = refl }) (version_few image) (p.rest ∙ text_begins image)

    region_log_begins : IsAtRegionLog image parser text → HasLine text 64
    region_log_begins p =
        number_begins (codes "region-log") (after_region_log image) text image.region_log 64 (record { short = omega arith; plain = refl }) (omega (arith, valid.limits.region_log_high)) p.rest

    words_begin : IsAtWords image parser text → HasLine text 64
    words_begin p =
        number_begins (codes "words") (after_words image) text (heap_words image) 64 (record { short = omega arith; plain = refl }) (omega (arith, valid.limits.few_words)) p.rest

    allowance_begins : IsAtAllowance image parser text → HasLine text 64
    allowance_begins p =
        number_begins (codes "allowance") (after_allowance image) text image.allowance 64 (record { short = omega arith; plain = refl }) valid.allowance_fits p.rest

    pub line_ahead : (next : NextLine) → ExpectsAt next image parser text → (text ≡ []) ⊎ HasLine text (longest next parser.len)
    line_ahead Version p = inr (version_begins p)
    line_ahead RegionLog p = inr (region_log_begins p)
    line_ahead Words p = inr (words_begin p)
    line_ahead Allowance p = inr (allowance_begins p)
    line_ahead Roots p = inr (roots_begin_line p)
    line_ahead Heap p = heap_begins_line p

no_line : (most : ℕ) → HasLine [] most → ⊥
no_line most h =
    let lengths : 0 ≡ length (h.line ++ (10 ∷ h.rest)) = ap (λ (xs : List ℕ). length xs) h.is in
    let no : ⊥ = omega (arith, lengths, length-append h.line (10 ∷ h.rest)) in no

-- the text ends only after the words
module _ (image : HeapImage) (valid : IsValid image) (parser : LineParser) where
  pub at_version_more : IsAtVersion image parser [] → ⊥
  at_version_more p = no_line 64 (version_begins image valid parser [] p)

  pub at_region_log_more : IsAtRegionLog image parser [] → ⊥
  at_region_log_more p = no_line 64 (region_log_begins image valid parser [] p)

  pub at_words_more : IsAtWords image parser [] → ⊥
  at_words_more p = no_line 64 (words_begin image valid parser [] p)

  pub at_allowance_more : IsAtAllowance image parser [] → ⊥
  at_allowance_more p = no_line 64 (allowance_begins image valid parser [] p)

  pub at_roots_more : IsAtRoots image parser [] → ⊥
  at_roots_more p = no_line (64 + 21 * parser.len) (roots_begin_line image valid parser [] p)

  pub heap_end : (p : IsInHeap image parser []) → (p.todo ≡ []) × (parser.heap.words.len ≡ heap_words image)
  heap_end p = elim (lines_begin image valid parser.heap.live.items p.todo parser.heap.words.len p.live p.ahead) [
    | inl none ↦ none
    | inr some ↦ absurd (no_line (64 + 21 * heap_words image) (subst (λ (t : List ℕ). HasLine t (64 + 21 * heap_words image)) (sym p.rest) some))
  ]

  pub contents : IsInHeap image parser [] → HasContents image parser.heap
  contents p =
      let end = heap_end p in
      record {
        head = p.head;
        words = p.words ∙ take_all parser.heap.words.len image.words (omega (arith, end.1));
        len = end.1;
        live = sym (append-nil parser.heap.live.items) ∙ (ap (λ (t : List ℕ). parser.heap.live.items ++ t) (sym end.0) ∙ p.live);
        roots = p.roots;
      }
