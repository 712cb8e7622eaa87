-- One token more of a line's numbers or references.
use Rattle.std.proofs.Common.{◌≡◌, ◌⊎◌, inl, inr, ℕ, zero, suc, ◌+◌, ◌^◌, ◌<◌, ◌≤◌, Bool, true, false, ◌&&◌, List, [], ◌∷◌, ◌++◌, Option, None, Some, Result, Ok, Err, codes, decimal, length, get_or, replicate, refl, ap, sym, ◌∙◌, subst, arith, append_assoc, append-nil, length-append}
use Rattle.std.specs.Prelude.{◌==◌, flat_map, not, OnOk}
use Rattle.std.specs.List.{AllByRecursion, list_all}
use Rattle.heap_text.specs.Text.{number_text, reference_text}
use Rattle.heap_text.specs.Tokens.{IsToken, IsAfterToken, reference_word}
use Rattle.std.proofs.lemmas.Bool.{cases_Bool, eq-eqb, eqb-true, and_parts}
use Rattle.heap_text.specs.Words.{words_of, HasPushed, all_equal, dead_part, references_part, data_part, has_some, Accepts}
use Rattle.heap_text.specs.declared.line_parser.line_error.LineError.{LineError}
use Rattle.heap_text.specs.declared.line_parser.line_error.LineError.TheVariants.{Memory, Expected}
use Rattle.heap_text.specs.declared.word_list.WordList.{WordList}
use Rattle.heap_text.proofs.Lemmas.TokenSteps.{decimal_is_token, same_bytes}
use lib.Pointwise.{pointwise}
use lib.Dec.{eqb}
use Rattle.heap_text.proofs.Lemmas.WordTexts.{some_reference, reference_is, reference_is_word}

pub numbers_after : (ws : List ℕ) → IsAfterToken (flat_map number_text ws)
numbers_after [] = tt
numbers_after (w ∷ ws) = refl

pub numbers_front : (w : ℕ) (ws : List ℕ) → flat_map number_text (w ∷ ws) ≡ 32 ∷ (decimal w ++ flat_map number_text ws)
numbers_front w ws = append_assoc (codes " ") (decimal w) (flat_map number_text ws)

pub data_after : (ws : List ℕ) → IsAfterToken (data_part ws)
data_after [] = tt
data_after (w ∷ ws) = refl

pub references_after : (ws others : List ℕ) → IsAfterToken (flat_map reference_text ws ++ data_part others)
references_after [] others = data_after others
references_after (w ∷ ws) others = rw (reference_is w) refl

pub references_front : (w : ℕ) (ws X : List ℕ) → flat_map reference_text (w ∷ ws) ++ X ≡ 32 ∷ (reference_word w ++ (flat_map reference_text ws ++ X))
references_front w ws X = append_assoc (reference_text w) (flat_map reference_text ws) X ∙ ap (λ (t : List ℕ). t ++ (flat_map reference_text ws ++ X)) (reference_is w)

pub pushed_none : (list : WordList) → HasPushed list list []
pushed_none list = record { words = sym (append-nil (words_of list)); len = omega arith }

pub pushed_more : (old now new : WordList) (xs ys : List ℕ) → HasPushed old now xs → HasPushed now new ys → HasPushed old new (xs ++ ys)
pushed_more old now new xs ys p q =
    record {
      words = q.words ∙ (ap (λ (t : List ℕ). t ++ ys) p.words ∙ append_assoc (words_of old) xs ys);
      len = omega (arith, p.len, q.len, length-append xs ys);
    }

-- these numbers were pushed, and the others are left
pub record IsParsing (few : ℕ → Type 0) (old now : WordList) (ws : List ℕ) : Type 0 where
  pub done : List ℕ
  pub left : List ℕ
  pub whole : ws ≡ done ++ left
  pub fits : AllByRecursion few left
  pub pushed : HasPushed old now done

-- the next number
module _ (few : ℕ → Type 0) (old now : WordList) (ws : List ℕ) (p : IsParsing few old now ws) where
  pub room_left : (w : ℕ) (more : List ℕ) → p.left ≡ w ∷ more → (len : ℕ) → old.len + length ws ≤ len → now.len < len
  room_left w more is len room =
      let all : length ws ≡ length p.done + length p.left = ap (λ (xs : List ℕ). length xs) p.whole ∙ length-append p.done p.left in
      let some : length p.left ≡ suc (length more) = ap (λ (xs : List ℕ). length xs) is in
      omega (arith, all, some, room, p.pushed.len)

  abbrev pub parsing_more : (w : ℕ) (more : List ℕ) → p.left ≡ w ∷ more → (new : WordList) → HasPushed now new (w ∷ []) → IsParsing few old new ws
  parsing_more w more is new q =
      record {
        done = p.done ++ (w ∷ []);
        left = more;
        whole = p.whole ∙ (ap (λ (t : List ℕ). p.done ++ t) is ∙ sym (append_assoc p.done (w ∷ []) more));
        fits = (subst (AllByRecursion few) is p.fits).1;
        pushed = pushed_more old now new p.done (w ∷ []) p.pushed q;
      }

-- The numbers of a line: the first one, whether those so far are equal to it, and what is left of the line.
pub record AreNumbers (old now : WordList) (rest : List ℕ) (first : ℕ) (equal : Bool) (ws : List ℕ) : Type 0 where
  pub parsing : IsParsing (λ w. w < 2 ^ 64) old now ws
  pub remains : rest ≡ flat_map number_text parsing.left
  pub same : equal ≡ list_all (λ w. w == first) parsing.done
  pub begins : get_or ws 0 0 ≡ first

-- what a call of next_number, of next_token or of parse_number says
abbrev pub GivesNumber : List ℕ → Option ℕ → List ℕ → Type 0
GivesNumber rest found new = (n : ℕ) (after : List ℕ) → n < 2 ^ 64 → IsAfterToken after → rest ≡ number_text n ++ after → (found ≡ Some n) × (new ≡ after)

abbrev pub GivesToken : List ℕ → Option (List ℕ) → List ℕ → Type 0
GivesToken rest found new = (token after : List ℕ) → IsToken token → IsAfterToken after → rest ≡ 32 ∷ (token ++ after) → (found ≡ Some token) × (new ≡ after)

pub some_same : {A : Type 0} (x y : A) → Some x ≡ Some y → x ≡ y
some_same x y e = cc

pub none_some : {A : Type 0} (y : A) → ◌≡◌ {A = Option A} None (Some y) → ⊥
none_some y e = cc

pub numbers_begin : (old new : WordList) (entry rest : List ℕ) (first len : ℕ) (ws : List ℕ) → AllByRecursion (λ w. w < 2 ^ 64) ws → 0 < length ws
    → entry ≡ flat_map number_text ws → old.len + length ws ≤ len → GivesNumber entry (Some first) rest → (old.len < len → HasPushed old new (first ∷ []))
    → AreNumbers old new rest first true ws
numbers_begin old new entry rest first len [] fits some is room gives push = absurd (omega arith)
numbers_begin old new entry rest first len (w ∷ more) fits some is room gives push =
    let both = gives w (flat_map number_text more) fits.0 (numbers_after more) is in
    let same : first ≡ w = some_same first w both.0 in
    record {
      parsing = record {
        done = first ∷ [];
        left = more;
        whole = ap (λ (x : ℕ). x ∷ more) (sym same);
        fits = fits.1;
        pushed = push (omega (arith, room));
      };
      remains = both.1;
      same = sym (ap (λ b. b && true) (eq-eqb first first refl));
      begins = sym same;
    }

pub numbers_missing : (entry rest : List ℕ) (found : Option ℕ) (ws : List ℕ) → AllByRecursion (λ w. w < 2 ^ 64) ws → 0 < length ws → entry ≡ flat_map number_text ws
    → found ≡ None → GivesNumber entry found rest → ⊥
numbers_missing entry rest found [] fits some is missing gives = absurd (omega arith)
numbers_missing entry rest found (w ∷ more) fits some is missing gives =
    none_some w (sym missing ∙ (gives w (flat_map number_text more) fits.0 (numbers_after more) is).0)

-- the next token is the next number
pub record IsNextNumber (left new : List ℕ) (found : Option ℕ) : Type 0 where
  pub word : ℕ
  pub more : List ℕ
  pub left_is : left ≡ word ∷ more
  pub rest_is : new ≡ flat_map number_text more
  pub found_is : found ≡ Some word

pub number_next : (left rest new : List ℕ) (found : Option ℕ) → AllByRecursion (λ w. w < 2 ^ 64) left → rest ≡ flat_map number_text left
    → (rest ≡ [] → ⊥) → GivesNumber rest found new → IsNextNumber left new found
number_next [] rest new found fits is none gives = absurd (none is)
number_next (w ∷ more) rest new found fits is none gives =
    let both = gives w (flat_map number_text more) fits.0 (numbers_after more) is in
    record { word = w; more = more; left_is = refl; rest_is = both.1; found_is = both.0 }

-- at the end of the line no number is left
pub number_last : (left rest : List ℕ) → rest ≡ flat_map number_text left → rest ≡ [] → left ≡ []
number_last [] rest is none = refl
number_last (w ∷ more) rest is none =
    let empty = ap (λ (xs : List ℕ). length xs) (sym none ∙ (is ∙ numbers_front w more)) in
    absurd (omega (arith, empty))

and_true : (b : Bool) → b ≡ (b && true)
and_true true = refl
and_true false = refl

and_assoc : (a b c : Bool) → ((a && b) && c) ≡ (a && (b && c))
and_assoc true b c = refl
and_assoc false b c = refl

same_more : (first w : ℕ) (xs : List ℕ) → (list_all (λ x. x == first) xs && (w == first)) ≡ list_all (λ x. x == first) (xs ++ (w ∷ []))
same_more first w [] = and_true (w == first)
same_more first w (x ∷ xs) =
    and_assoc (x == first) (list_all (λ y. y == first) xs) (w == first) ∙ ap (λ b. (x == first) && b) (same_more first w xs)

pub numbers_step : (old now new : WordList) (rest rest' : List ℕ) (first word len : ℕ) (equal equal' : Bool) (ws : List ℕ)
    → AreNumbers old now rest first equal ws → (rest ≡ [] → ⊥) → GivesNumber rest (Some word) rest'
    → old.len + length ws ≤ len → (now.len < len → HasPushed now new (word ∷ [])) → equal' ≡ (equal && (word == first)) → AreNumbers old new rest' first equal' ws
numbers_step old now new rest rest' first word len equal equal' ws a none gives room push is =
    let p = a.parsing in
    let next = number_next p.left rest rest' (Some word) p.fits a.remains none gives in
    let same : next.word ≡ word = sym (some_same word next.word next.found_is) in
    let left : p.left ≡ word ∷ next.more = next.left_is ∙ ap (λ (x : ℕ). x ∷ next.more) same in
    record {
      parsing = parsing_more (λ w. w < 2 ^ 64) old now ws p word next.more left new (push (room_left (λ w. w < 2 ^ 64) old now ws p word next.more left len room));
      remains = next.rest_is;
      same = is ∙ (ap (λ b. b && (word == first)) a.same ∙ same_more first word p.done);
      begins = a.begins;
    }

pub numbers_wrong : (old now : WordList) (rest rest' : List ℕ) (first : ℕ) (equal : Bool) (ws : List ℕ) (found : Option ℕ)
    → AreNumbers old now rest first equal ws → (rest ≡ [] → ⊥) → found ≡ None → GivesNumber rest found rest' → ⊥
numbers_wrong old now rest rest' first equal ws found a none missing gives =
    let next = number_next a.parsing.left rest rest' found a.parsing.fits a.remains none gives in
    none_some next.word (sym missing ∙ next.found_is)

-- all that was to be pushed was
pub parsing_end : (few : ℕ → Type 0) (old now : WordList) (ws : List ℕ) (p : IsParsing few old now ws) → p.left ≡ [] → p.done ≡ ws
parsing_end few old now ws p none = sym (p.whole ∙ (ap (λ (t : List ℕ). p.done ++ t) none ∙ append-nil p.done))

pub numbers_end : (old now : WordList) (rest : List ℕ) (first : ℕ) (equal : Bool) (ws : List ℕ)
    → AreNumbers old now rest first equal ws → rest ≡ [] → (equal ≡ all_equal ws) × HasPushed old now ws
numbers_end old now rest first equal ws a end =
    let none : a.parsing.left ≡ [] = number_last a.parsing.left rest a.remains end in
    let whole : a.parsing.done ≡ ws = parsing_end (λ w. w < 2 ^ 64) old now ws a.parsing none in
    (a.same ∙ (ap (λ (xs : List ℕ). list_all (λ w. w == first) xs) whole ∙ ap (λ (x : ℕ). list_all (λ w. w == x) ws) (sym a.begins)), subst (HasPushed old now) whole a.parsing.pushed)

-- The references of a line, and what is left of it.
pub record AreReferences (len : ℕ) (old now : WordList) (rest refs others : List ℕ) : Type 0 where
  pub parsing : IsParsing (λ w. w ≤ len) old now refs
  pub remains : rest ≡ flat_map reference_text parsing.left ++ data_part others

abbrev pub GivesReference : ℕ → List ℕ → Option ℕ → List ℕ → Type 0
GivesReference len rest found new = (w : ℕ) (after : List ℕ) → w ≤ len → IsAfterToken after → rest ≡ reference_text w ++ after → (found ≡ Some w) × (new ≡ after)

abbrev pub ParsesReference : ℕ → List ℕ → Option ℕ → Type 0
ParsesReference len token found = (w : ℕ) → w ≤ len → token ≡ reference_word w → found ≡ Some w

pub references_begin : (old new : WordList) (entry rest : List ℕ) (first len : ℕ) (refs others : List ℕ) → AllByRecursion (λ w. w ≤ len) refs → 0 < length refs
    → entry ≡ flat_map reference_text refs ++ data_part others → old.len + length refs ≤ len → GivesReference len entry (Some first) rest
    → (old.len < len → HasPushed old new (first ∷ [])) → AreReferences len old new rest refs others
references_begin old new entry rest first len [] others fits some is room gives push = absurd (omega arith)
references_begin old new entry rest first len (w ∷ more) others fits some is room gives push =
    let both = gives w (flat_map reference_text more ++ data_part others) fits.0 (references_after more others)
    (is ∙ append_assoc (reference_text w) (flat_map reference_text more) (data_part others)) in
    let same : first ≡ w = some_same first w both.0 in
    record {
      parsing = record {
        done = first ∷ [];
        left = more;
        whole = ap (λ (x : ℕ). x ∷ more) (sym same);
        fits = fits.1;
        pushed = push (omega (arith, room));
      };
      remains = both.1;
    }

pub references_missing : (len : ℕ) (entry rest : List ℕ) (found : Option ℕ) (refs others : List ℕ) → AllByRecursion (λ w. w ≤ len) refs → 0 < length refs
    → entry ≡ flat_map reference_text refs ++ data_part others → found ≡ None → GivesReference len entry found rest → ⊥
references_missing len entry rest found [] others fits some is missing gives = absurd (omega arith)
references_missing len entry rest found (w ∷ more) others fits some is missing gives =
    none_some w (sym missing ∙ (gives w (flat_map reference_text more ++ data_part others) fits.0 (references_after more others)
    (is ∙ append_assoc (reference_text w) (flat_map reference_text more) (data_part others))).0)

-- the next token is the next reference
pub record IsNextReference (len : ℕ) (left others token new : List ℕ) : Type 0 where
  pub word : ℕ
  pub more : List ℕ
  pub left_is : left ≡ word ∷ more
  pub token_is : token ≡ reference_word word
  pub rest_is : new ≡ flat_map reference_text more ++ data_part others
  pub fits : word ≤ len

-- the next token is `data`, and no references are left
pub record IsNextData (left others token new : List ℕ) : Type 0 where
  pub left_is : left ≡ []
  pub token_is : token ≡ codes "data"
  pub some : has_some others ≡ true
  pub rest_is : new ≡ flat_map number_text others

pub reference_next : (len : ℕ) (left others rest token new : List ℕ) → len ≤ 68719476736 → AllByRecursion (λ w. w ≤ len) left
    → rest ≡ flat_map reference_text left ++ data_part others → (rest ≡ [] → ⊥) → GivesToken rest (Some token) new
    → IsNextReference len left others token new ⊎ IsNextData left others token new
reference_next len [] [] rest token new few fits is none some = absurd (none is)
reference_next len [] (d ∷ ds) rest token new few fits is none some =
    let both = some (codes "data") (flat_map number_text (d ∷ ds)) (omega arith, (omega arith, (omega arith, (omega arith, tt)))) (numbers_after (d ∷ ds)) is in
    inr (record { left_is = refl; token_is = some_same token (codes "data") both.0; some = refl; rest_is = both.1 })
reference_next len (w ∷ more) others rest token new few fits is none some =
    let both = some (reference_word w) (flat_map reference_text more ++ data_part others) (reference_is_word w (omega (arith, few, fits.0))) (references_after more others)
    (is ∙ references_front w more (data_part others)) in
    inl (record { word = w; more = more; left_is = refl; token_is = some_same token (reference_word w) both.0; rest_is = both.1; fits = fits.0 })

pub references_step : (len : ℕ) (old now new : WordList) (rest rest' token : List ℕ) (word : ℕ) (refs others : List ℕ) → len ≤ 68719476736
    → AreReferences len old now rest refs others → (rest ≡ [] → ⊥) → GivesToken rest (Some token) rest' → ParsesReference len token (Some word)
    → (token ≡ codes "data" → ⊥) → old.len + length refs ≤ len → (now.len < len → HasPushed now new (word ∷ [])) → AreReferences len old new rest' refs others
references_step len old now new rest rest' token word refs others few a none some parses no_data room push =
    let p = a.parsing in
    elim (reference_next len p.left others rest token rest' few p.fits a.remains none some) [
      | inl next ↦
          let same : next.word ≡ word = sym (some_same word next.word (parses next.word next.fits next.token_is)) in
          let left : p.left ≡ word ∷ next.more = next.left_is ∙ ap (λ (x : ℕ). x ∷ next.more) same in
          record {
            parsing = parsing_more (λ w. w ≤ len) old now refs p word next.more left new (push (room_left (λ w. w ≤ len) old now refs p word next.more left len room));
            remains = next.rest_is;
          }
      | inr next ↦ absurd (no_data next.token_is)
    ]

pub references_data : (len : ℕ) (old now : WordList) (rest rest' token : List ℕ) (refs others : List ℕ) (found : Option ℕ) → len ≤ 68719476736
    → AreReferences len old now rest refs others → (rest ≡ [] → ⊥) → GivesToken rest (Some token) rest' → found ≡ None → ParsesReference len token found
    → HasPushed old now refs × IsNextData [] others token rest'
references_data len old now rest rest' token refs others found few a none some missing parses =
    let p = a.parsing in
    elim (reference_next len p.left others rest token rest' few p.fits a.remains none some) [
      | inl next ↦ absurd (none_some next.word (sym missing ∙ parses next.word next.fits next.token_is))
      | inr next ↦ (
        subst (HasPushed old now) (parsing_end (λ w. w ≤ len) old now refs p next.left_is) p.pushed,
        record { left_is = refl; token_is = next.token_is; some = next.some; rest_is = next.rest_is },
      )
    ]

reference_last : (len : ℕ) (left others rest new : List ℕ) (found : Option (List ℕ)) → len ≤ 68719476736 → AllByRecursion (λ w. w ≤ len) left
    → rest ≡ flat_map reference_text left ++ data_part others → found ≡ None → GivesToken rest found new → (left ≡ []) × (others ≡ [])
reference_last len [] [] rest new found few fits is missing some = (refl, refl)
reference_last len [] (d ∷ ds) rest new found few fits is missing some =
    absurd (none_some (codes "data") (sym missing ∙ (some (codes "data") (flat_map number_text (d ∷ ds)) (omega arith, (omega arith, (omega arith, (omega arith, tt)))) (numbers_after (d ∷ ds)) is).0))
reference_last len (w ∷ more) others rest new found few fits is missing some =
    absurd (none_some (reference_word w) (sym missing ∙ (some (reference_word w) (flat_map reference_text more ++ data_part others) (reference_is_word w (omega (arith, few, fits.0))) (references_after more others)
    (is ∙ references_front w more (data_part others))).0))

pub references_end : (len : ℕ) (old now : WordList) (rest rest' : List ℕ) (refs others : List ℕ) (found : Option (List ℕ)) → len ≤ 68719476736
    → AreReferences len old now rest refs others → found ≡ None → GivesToken rest found rest' → (rest ≡ [] → rest' ≡ [])
    → (false ≡ has_some others) × HasPushed old now refs × (rest' ≡ flat_map number_text others)
references_end len old now rest rest' refs others found few a missing some stays =
    let p = a.parsing in
    let last = reference_last len p.left others rest rest' found few p.fits a.remains missing some in
    let empty : rest ≡ [] = a.remains ∙ (ap (λ (t : List ℕ). flat_map reference_text t ++ data_part others) last.0 ∙ ap data_part last.1) in (
      sym (ap has_some last.1),
      subst (HasPushed old now) (parsing_end (λ w. w ≤ len) old now refs p last.0) p.pushed,
      stays empty ∙ sym (ap (λ (t : List ℕ). flat_map number_text t) last.1),
    )

pub some_none : {A : Type 0} (x : A) → ◌≡◌ {A = Option A} (Some x) None → ⊥
some_none x e = cc

-- an error of which one thing holds is that of memory, of which anything does
pub accepts_error : {T V : Type 0} (error : LineError) (P : T → Type 0) (Q : V → Type 0) → Accepts (Err error) P → Accepts (Err error) Q
accepts_error Memory P Q a = tt
accepts_error (Expected _) P Q a = absurd a

pub some_or_none : (ws : List ℕ) → has_some ws ≡ true → 0 < length ws
some_or_none [] e = cc
some_or_none (w ∷ ws) e = omega arith

pub none_if_not : (ws : List ℕ) → has_some ws ≡ false → ws ≡ []
none_if_not [] e = refl
none_if_not (w ∷ ws) e = cc

-- the names of the parts of a line differ from each other and from references
pub refs_not_data : codes "refs" ≡ codes "data" → ⊥
refs_not_data e =
    let first : 114 ≡ 100 = ap (λ (xs : List ℕ). get_or xs 0 0) e in
    omega (arith, first)

pub reference_not_data : (w : ℕ) → reference_word w ≡ codes "data" → ⊥
reference_not_data zero e =
    let first : 110 ≡ 100 = ap (λ (xs : List ℕ). get_or xs 0 0) e in
    omega (arith, first)
reference_not_data (suc n) e =
    let first : 64 ≡ 100 = ap (λ (xs : List ℕ). get_or xs 0 0) (sym (some_reference n) ∙ e) in
    omega (arith, first)

-- the fields of an object begin with references
pub record BeginsReferences (refs others name rest : List ℕ) : Type 0 where
  pub some : 0 < length refs
  pub name_is : name ≡ codes "refs"
  pub rest_is : rest ≡ flat_map reference_text refs ++ data_part others

-- the fields of an object have no references
pub record BeginsData (refs others name rest : List ℕ) : Type 0 where
  pub none : refs ≡ []
  pub some : 0 < length others
  pub name_is : name ≡ codes "data"
  pub rest_is : rest ≡ flat_map number_text others

four_letters : (a b c d : ℕ) → 48 ≤ a → 48 ≤ b → 48 ≤ c → 48 ≤ d → IsToken (a ∷ (b ∷ (c ∷ (d ∷ []))))
four_letters a b c d p q r s = (p, (q, (r, (s, tt))))

refs_token : IsToken (codes "refs")
refs_token = four_letters 114 101 102 115 (omega arith) (omega arith) (omega arith) (omega arith)

data_token : IsToken (codes "data")
data_token = four_letters 100 97 116 97 (omega arith) (omega arith) (omega arith) (omega arith)

fields_front : (w : ℕ) (refs others : List ℕ) → references_part (w ∷ refs) ++ data_part others ≡ 32 ∷ (codes "refs" ++ (flat_map reference_text (w ∷ refs) ++ data_part others))
fields_front w refs others = append_assoc (codes " refs") (flat_map reference_text (w ∷ refs)) (data_part others)

pub fields_next : (refs others entry name rest : List ℕ) → entry ≡ references_part refs ++ data_part others → (entry ≡ [] → ⊥) → GivesToken entry (Some name) rest
    → BeginsReferences refs others name rest ⊎ BeginsData refs others name rest
fields_next [] [] entry name rest is none some = absurd (none is)
fields_next [] (d ∷ ds) entry name rest is none some =
    let both = some (codes "data") (flat_map number_text (d ∷ ds)) data_token (numbers_after (d ∷ ds)) is in
    inr (record { none = refl; some = omega arith; name_is = some_same name (codes "data") both.0; rest_is = both.1 })
fields_next (w ∷ refs) others entry name rest is none some =
    let both = some (codes "refs") (flat_map reference_text (w ∷ refs) ++ data_part others) refs_token (references_after (w ∷ refs) others) (is ∙ fields_front w refs others) in
    inl (record { some = omega arith; name_is = some_same name (codes "refs") both.0; rest_is = both.1 })

pub fields_none : (refs others entry rest : List ℕ) (found : Option (List ℕ)) → entry ≡ references_part refs ++ data_part others → found ≡ None → GivesToken entry found rest
    → refs ++ others ≡ []
fields_none [] [] entry rest found is missing some = refl
fields_none [] (d ∷ ds) entry rest found is missing some =
    absurd (none_some (codes "data") (sym missing ∙ (some (codes "data") (flat_map number_text (d ∷ ds)) data_token (numbers_after (d ∷ ds)) is).0))
fields_none (w ∷ refs) others entry rest found is missing some =
    absurd (none_some (codes "refs") (sym missing ∙ (some (codes "refs") (flat_map reference_text (w ∷ refs) ++ data_part others) refs_token (references_after (w ∷ refs) others) (is ∙ fields_front w refs others)).0))

-- The references so far are counted.
pub record IsCounting (len : ℕ) (rest refs others : List ℕ) (count : ℕ) : Type 0 where
  pub left : List ℕ
  pub fits : AllByRecursion (λ w. w ≤ len) left
  pub remains : rest ≡ flat_map reference_text left ++ data_part others
  pub counted : count + length left ≡ length refs

pub counting_step : (len : ℕ) (rest rest' token refs others : List ℕ) (count : ℕ) → len ≤ 68719476736 → IsCounting len rest refs others count
    → (rest ≡ [] → ⊥) → GivesToken rest (Some token) rest' → (token ≡ codes "data" → ⊥) → IsCounting len rest' refs others (count + 1)
counting_step len rest rest' token refs others count few i none some no_data =
    elim (reference_next len i.left others rest token rest' few i.fits i.remains none some) [
      | inl next ↦
          let shorter : length i.left ≡ suc (length next.more) = ap (λ (xs : List ℕ). length xs) next.left_is in
          record {
            left = next.more;
            fits = (subst (AllByRecursion (λ w. w ≤ len)) next.left_is i.fits).1;
            remains = next.rest_is;
            counted = omega (arith, shorter, i.counted);
          }
      | inr next ↦ absurd (no_data next.token_is)
    ]

pub counting_data : (len : ℕ) (rest rest' token refs others : List ℕ) (count : ℕ) → len ≤ 68719476736 → IsCounting len rest refs others count
    → (rest ≡ [] → ⊥) → GivesToken rest (Some token) rest' → token ≡ codes "data" → count ≡ length refs
counting_data len rest rest' token refs others count few i none some is_data =
    elim (reference_next len i.left others rest token rest' few i.fits i.remains none some) [
      | inl next ↦ absurd (reference_not_data next.word (sym next.token_is ∙ is_data))
      | inr next ↦
          let empty : length i.left ≡ 0 = ap (λ (xs : List ℕ). length xs) next.left_is in
          omega (arith, empty, i.counted)
    ]

pub counting_end : (len : ℕ) (rest rest' refs others : List ℕ) (count : ℕ) (found : Option (List ℕ)) → len ≤ 68719476736 → IsCounting len rest refs others count
    → found ≡ None → GivesToken rest found rest' → count ≡ length refs
counting_end len rest rest' refs others count found few i missing some =
    let last = reference_last len i.left others rest rest' found few i.fits i.remains missing some in
    let empty : length i.left ≡ 0 = ap (λ (xs : List ℕ). length xs) last.0 in
    omega (arith, empty, i.counted)

-- a token that is compared with a name
pub same_from : (a b : List ℕ) → pointwise eqb a b ≡ true → a ≡ b
same_from [] [] e = refl
same_from [] (y ∷ b) e = cc
same_from (x ∷ a) [] e = cc
same_from (x ∷ a) (y ∷ b) e =
    let both = and_parts (x == y) (pointwise eqb a b) e in
    let first : x ≡ y = eqb-true x y both.0 in
    let others : a ≡ b = same_from a b both.1 in
    cc

pub named : (token bytes name : List ℕ) → true ≡ pointwise eqb token bytes → bytes ≡ name → token ≡ name
named token bytes name e is = same_from token bytes (sym e) ∙ is

pub not_named : (token bytes name : List ℕ) → false ≡ pointwise eqb token bytes → bytes ≡ name → token ≡ name → ⊥
not_named token bytes name e is same =
    let no : false ≡ true = e ∙ (ap (λ (xs : List ℕ). pointwise eqb xs bytes) (same ∙ sym is) ∙ same_bytes bytes) in
    cc

pub true_not_false : true ≡ false → ⊥
true_not_false e = cc

pub fields_after : (refs others : List ℕ) → IsAfterToken (references_part refs ++ data_part others)
fields_after [] others = data_after others
fields_after (w ∷ refs) others = refl

pub pushed_word : (old new : WordList) (x w : ℕ) → words_of new ≡ words_of old ++ (x ∷ []) → new.len ≡ old.len + 1 → x ≡ w → HasPushed old new (w ∷ [])
pushed_word old new x w words len is = record { words = words ∙ ap (λ (y : ℕ). words_of old ++ (y ∷ [])) is; len = len }

-- the words of a dead run
pub all_replicate : (w : ℕ) (ws : List ℕ) → list_all (λ x. x == w) ws ≡ true → ws ≡ replicate (length ws) w
all_replicate w [] e = refl
all_replicate w (x ∷ ws) e =
    let both = and_parts (x == w) (list_all (λ y. y == w) ws) e in
    let first : x ≡ w = eqb-true x w both.0 in
    let others : ws ≡ replicate (length ws) w = all_replicate w ws both.1 in
    ap (λ (y : ℕ). y ∷ ws) first ∙ ap (λ (t : List ℕ). w ∷ t) others

pub record IsEqualRun (ws name rest : List ℕ) : Type 0 where
  pub name_is : name ≡ codes "of"
  pub rest_is : rest ≡ number_text (get_or ws 0 0)
  pub whole : ws ≡ replicate (length ws) (get_or ws 0 0)

pub record IsUnequalRun (ws name rest : List ℕ) : Type 0 where
  pub name_is : name ≡ codes "words"
  pub rest_is : rest ≡ flat_map number_text ws
  pub unequal : all_equal ws ≡ false

of_token : IsToken (codes "of")
of_token = (omega arith, (omega arith, tt))

words_token : IsToken (codes "words")
words_token = (omega arith, (omega arith, (omega arith, (omega arith, (omega arith, tt)))))

pub equal_part : (ws : List ℕ) → all_equal ws ≡ true → dead_part ws ≡ codes " of" ++ number_text (get_or ws 0 0)
equal_part ws equal = rw equal refl

pub unequal_part : (ws : List ℕ) → all_equal ws ≡ false → dead_part ws ≡ codes " words" ++ flat_map number_text ws
unequal_part ws other = rw other refl

pub dead_after : (ws : List ℕ) → IsAfterToken (dead_part ws)
dead_after ws = elim (cases_Bool (all_equal ws)) [
  | inl equal ↦ subst IsAfterToken (sym (equal_part ws equal)) refl
  | inr other ↦ subst IsAfterToken (sym (unequal_part ws other)) refl
]

pub dead_part_next : (ws entry name rest : List ℕ) → entry ≡ dead_part ws → GivesToken entry (Some name) rest → IsEqualRun ws name rest ⊎ IsUnequalRun ws name rest
dead_part_next ws entry name rest is some = elim (cases_Bool (all_equal ws)) [
  | inl equal ↦
      let both = some (codes "of") (number_text (get_or ws 0 0)) of_token refl (is ∙ equal_part ws equal) in
      inl (record { name_is = some_same name (codes "of") both.0; rest_is = both.1; whole = all_replicate (get_or ws 0 0) ws equal })
  | inr other ↦
      let both = some (codes "words") (flat_map number_text ws) words_token (numbers_after ws) (is ∙ unequal_part ws other) in
      inr (record { name_is = some_same name (codes "words") both.0; rest_is = both.1; unequal = other })
]

pub dead_part_none : (ws entry rest : List ℕ) (found : Option (List ℕ)) → entry ≡ dead_part ws → found ≡ None → GivesToken entry found rest → ⊥
dead_part_none ws entry rest found is missing some = elim (cases_Bool (all_equal ws)) [
  | inl equal ↦ none_some (codes "of") (sym missing ∙ (some (codes "of") (number_text (get_or ws 0 0)) of_token refl (is ∙ equal_part ws equal)).0)
  | inr other ↦ none_some (codes "words") (sym missing ∙ (some (codes "words") (flat_map number_text ws) words_token (numbers_after ws) (is ∙ unequal_part ws other)).0)
]

pub of_not_words : codes "of" ≡ codes "words" → ⊥
of_not_words e =
    let first : 111 ≡ 119 = ap (λ (xs : List ℕ). get_or xs 0 0) e in
    omega (arith, first)

-- the first word of a dead run
pub first_fits : (ws : List ℕ) → AllByRecursion (λ w. w < 2 ^ 64) ws → get_or ws 0 0 < 2 ^ 64
first_fits [] fits = omega arith
first_fits (w ∷ ws) fits = fits.0

-- these roots were pushed, and the others are left
pub record AreRootsLeft (len : ℕ) (now rest roots : List ℕ) : Type 0 where
  pub left : List ℕ
  pub fits : AllByRecursion (λ w. w ≤ len) left
  pub remains : rest ≡ flat_map reference_text left ++ data_part []
  pub whole : roots ≡ now ++ left

pub roots_begin : (len : ℕ) (now rest roots : List ℕ) → AllByRecursion (λ w. w ≤ len) roots → now ≡ [] → rest ≡ flat_map reference_text roots → AreRootsLeft len now rest roots
roots_begin len now rest roots fits empty is =
    record { left = roots; fits = fits; remains = is ∙ sym (append-nil (flat_map reference_text roots)); whole = ap (λ (t : List ℕ). t ++ roots) (sym empty) }

pub roots_step : (len : ℕ) (now new rest rest' token roots : List ℕ) (root : ℕ) → len ≤ 68719476736 → AreRootsLeft len now rest roots → (rest ≡ [] → ⊥)
    → GivesToken rest (Some token) rest' → ParsesReference len token (Some root) → length roots ≤ len → (length now ≤ len → new ≡ now ++ (root ∷ [])) → AreRootsLeft len new rest' roots
roots_step len now new rest rest' token roots root few p none some parses room push =
    elim (reference_next len p.left [] rest token rest' few p.fits p.remains none some) [
      | inl next ↦
          let same : next.word ≡ root = sym (some_same root next.word (parses next.word next.fits next.token_is)) in
          let left : p.left ≡ root ∷ next.more = next.left_is ∙ ap (λ (x : ℕ). x ∷ next.more) same in
          let inside : length now ≤ len = omega (arith, room, ap (λ (xs : List ℕ). length xs) p.whole, length-append now p.left) in
          record {
            left = next.more;
            fits = (subst (AllByRecursion (λ w. w ≤ len)) left p.fits).1;
            remains = next.rest_is;
            whole = p.whole ∙ (ap (λ (t : List ℕ). now ++ t) left ∙ (sym (append_assoc now (root ∷ []) next.more) ∙ ap (λ (t : List ℕ). t ++ next.more) (sym (push inside))));
          }
      | inr next ↦ let no : false ≡ true = next.some in absurd (true_not_false (sym no))
    ]

pub roots_wrong : (len : ℕ) (now rest rest' token roots : List ℕ) (found : Option ℕ) → len ≤ 68719476736 → AreRootsLeft len now rest roots → (rest ≡ [] → ⊥)
    → GivesToken rest (Some token) rest' → found ≡ None → ParsesReference len token found → ⊥
roots_wrong len now rest rest' token roots found few p none some missing parses =
    elim (reference_next len p.left [] rest token rest' few p.fits p.remains none some) [
      | inl next ↦ none_some next.word (sym missing ∙ parses next.word next.fits next.token_is)
      | inr next ↦ let no : false ≡ true = next.some in true_not_false (sym no)
    ]

pub roots_end : (len : ℕ) (now rest rest' roots : List ℕ) (found : Option (List ℕ)) → len ≤ 68719476736 → AreRootsLeft len now rest roots → found ≡ None
    → GivesToken rest found rest' → now ≡ roots
roots_end len now rest rest' roots found few p missing some =
    let last = reference_last len p.left [] rest rest' found few p.fits p.remains missing some in
    sym (p.whole ∙ (ap (λ (t : List ℕ). now ++ t) last.0 ∙ append-nil now))

pub accepts_map : {T : Type 0} (result : Result T LineError) (P Q : T → Type 0) → ((x : T) → P x → Q x) → Accepts result P → Accepts result Q
accepts_map (Ok x) P Q f a = f x a
accepts_map (Err Memory) P Q f a = tt
accepts_map (Err (Expected _)) P Q f a = absurd a

-- with what else holds of a line that is accepted
pub accepts_with : {T : Type 0} (result : Result T LineError) (P F Q : Type 0) → (P → F → Q) → Accepts result (λ _. P) → OnOk result F → Accepts result (λ _. Q)
accepts_with (Ok x) P F Q f a b = f a b
accepts_with (Err Memory) P F Q f a b = tt
accepts_with (Err (Expected _)) P F Q f a b = absurd a

pub other_name : (token bytes name : List ℕ) → true ≡ not (pointwise eqb token bytes) → bytes ≡ name → token ≡ name → ⊥
other_name token bytes name e is same =
    let equal : pointwise eqb token bytes ≡ true = ap (λ (xs : List ℕ). pointwise eqb xs bytes) (same ∙ sym is) ∙ same_bytes bytes in
    let no : true ≡ false = e ∙ ap not equal in
    cc

-- the first token of a line of the heap, and those after it
abbrev pub SplitsLine : List ℕ → List ℕ → List ℕ → Type 0
SplitsLine line place rest = (token after : List ℕ) → IsToken token → IsAfterToken after → line ≡ token ++ after → (place ≡ token) × (rest ≡ after)

pub place_of : (here : ℕ) (line kind after place rest : List ℕ) → here < 2 ^ 64 → line ≡ (64 ∷ decimal here) ++ (32 ∷ (kind ++ after)) → SplitsLine line place rest
    → (place ≡ 64 ∷ decimal here) × (rest ≡ 32 ∷ (kind ++ after))
place_of here line kind after place rest few is split = split (64 ∷ decimal here) (32 ∷ (kind ++ after)) (omega arith, decimal_is_token here few) refl is

pub object_token : IsToken (codes "object")
object_token = (omega arith, (omega arith, (omega arith, (omega arith, (omega arith, (omega arith, tt))))))

pub dead_token : IsToken (codes "dead")
dead_token = four_letters 100 101 97 100 (omega arith) (omega arith) (omega arith) (omega arith)

pub object_not_dead : codes "object" ≡ codes "dead" → ⊥
object_not_dead e =
    let first : 111 ≡ 100 = ap (λ (xs : List ℕ). get_or xs 0 0) e in
    omega (arith, first)
