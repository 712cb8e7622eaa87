-- The text of a valid image, from a device.
use Rattle.std.proofs.Common.{◌≡◌, ◌∙◌, ◌⊎◌, inl, inr, ◌≤◌, ℕ, List, [], ◌++◌, Option, None, Some, Result, Ok, Err, refl, sym, ap, length, append-nil}
use Rattle.std.specs.Io.KnownBytes.{Consumes, IsAtEnd}
use Rattle.object_heap.specs.HeapImage.{HeapImage}
use Rattle.heap_text.specs.Parsing.{AcceptsFrom, AcceptsText, IsWaiting}
use Rattle.heap_text.specs.TextLines.{IsOfNoLine}
use Rattle.heap_text.specs.declared.error.AssembleError.{AssembleError}
use Rattle.heap_text.specs.declared.error.AssembleError.TheVariants.{Device, Text}
use Rattle.heap_text.specs.declared.error.TextError.{TextError}
use Rattle.heap_text.specs.declared.error.TextError.TheVariants.{Memory, Line}
use Rattle.heap_text.specs.declared.text_parser.TextParser.{TextParser}
use Rattle.heap_text.proofs.Lemmas.WaitSteps.{waits_for_piece}

-- a device with known bytes has known bytes left
pub record HasLeft (old : List ℕ) (new : Option (List ℕ)) (came : List ℕ) : Type 0 where
  pub rest : List ℕ
  pub new_is : new ≡ Some rest
  pub whole : old ≡ came ++ rest

pub has_left : (old : Option (List ℕ)) (all : List ℕ) (new : Option (List ℕ)) (came : List ℕ) → old ≡ Some all → Consumes old new came → HasLeft all new came
has_left None all new came e c = let no : ⊥ = cc in absurd no
has_left (Some xs) all None came e c = absurd c
has_left (Some xs) all (Some rest) came e c = record { rest = rest; new_is = refl; whole = let same : xs ≡ all = cc in sym same ∙ c }

-- the next piece has come
pub record HasNext (image : HeapImage) (parser : TextParser) (after : List ℕ) (seen : ℕ) (new : Option (List ℕ)) : Type 0 where
  pub rest : List ℕ
  pub new_is : new ≡ Some rest
  pub waits : IsWaiting image parser after seen rest

pub next_piece : (image : HeapImage) (parser : TextParser) (all before after came : List ℕ) (seen : ℕ) (first old new : Option (List ℕ)) → first ≡ Some all → Consumes first old before
    → ((left : List ℕ) → old ≡ Some left → IsWaiting image parser before seen left) → Consumes old new came → after ≡ before ++ came
    → seen ≤ length before → parser.begin ≤ length before → HasNext image parser after seen new
next_piece image parser all before after came seen first old new known given waits moved is low low' =
    let one = has_left first all old before known given in
    let two = has_left old one.rest new came one.new_is moved in
    record {
      rest = two.rest;
      new_is = two.new_is;
      waits = waits_for_piece image parser before after came one.rest two.rest seen (waits one.rest one.new_is) is two.whole low low';
    }

pub no_line_accepted : {T : Type 0} (error : AssembleError) (P : T → Type 0) → IsOfNoLine error → AcceptsFrom (Err error) P
no_line_accepted Device P h = tt
no_line_accepted (Text Memory) P h = tt
no_line_accepted (Text (Line line expected)) P h = absurd h

pub text_from : {T V : Type 0} (error : TextError) (P : V → Type 0) (Q : T → Type 0) → AcceptsText (Err error) P → AcceptsFrom (Err (Text error)) Q
text_from Memory P Q a = tt
text_from (Line line expected) P Q a = absurd a

pub from_accepted : {T V : Type 0} (image : T) (error : AssembleError) (P : V → Type 0) → AcceptsFrom (Err error) P
    → (◌≡◌ {A = Result T AssembleError} (Err error) (Ok image)) ⊎ ((◌≡◌ {A = Result T AssembleError} (Err error) (Err (Text Memory))) ⊎ (◌≡◌ {A = Result T AssembleError} (Err error) (Err Device)))
from_accepted image Device P a = inr (inr refl)
from_accepted image (Text Memory) P a = inr (inl refl)
from_accepted image (Text (Line line expected)) P a = absurd a

pub at_end_of : (rest : Option (List ℕ)) (left : List ℕ) → rest ≡ Some left → IsAtEnd rest → left ≡ []
at_end_of None left e a = let no : ⊥ = cc in absurd no
at_end_of (Some xs) left e a = let same : xs ≡ left = cc in sym same ∙ a

-- a device at its end has given all of its bytes
pub given_whole : (first new : Option (List ℕ)) (all bytes : List ℕ) → first ≡ Some all → Consumes first new bytes → IsAtEnd new → bytes ≡ all
given_whole first new all bytes known given end =
    let left = has_left first all new bytes known given in
    sym (left.whole ∙ (ap (λ (t : List ℕ). bytes ++ t) (at_end_of new left.rest left.new_is end) ∙ append-nil bytes))
