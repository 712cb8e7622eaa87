-- What is taken of a device over several calls.
use Rattle.std.proofs.Common.{◌≡◌, ℕ, ◌+◌, List, ◌++◌, length, inl, inr, refl, sym, ◌∙◌, ap, subst, Bool, Option, Result, Ok, Err}
use Rattle.std.specs.Prelude.{◌||◌, IfErr}
use Rattle.std.specs.Io.KnownBytes.{Consumes}
use Rattle.image_streams.specs.Body.{IsOfBody}
use Rattle.image_streams.specs.Device.{is_io}
use Rattle.image_streams.specs.Incoming.{expected, known_rest}
use Rattle.image_streams.specs.Numbers.{numbers}
use Rattle.image_streams.specs.Reading.{Draws, IsOfDevice}
use Rattle.image_streams.specs.declared.numbers.incoming.Incoming.{Incoming}
use Rattle.image_streams.specs.declared.fault.Fault.{Fault}
use Rattle.image_streams.specs.declared.fault.Fault.TheVariants.{TruncatedHeader, Magic, RegionLog, Length, TruncatedBody, LiveOrder, Header, Overlap, Reference, Trailing, Memory, Io, Root, Workers, Schedule, Overwritten, Gate}
use Rattle.image_streams.proofs.Lemmas.Known.{consumes_more, same_error}
use Rattle.image_streams.proofs.Lemmas.Reading.{still_short}

-- some bytes were taken
abbrev pub IsDrawn : Option (List ℕ) → Option (List ℕ) → Type 0
IsDrawn before after = (came : List ℕ) × Consumes before after came

pub drawn_more : (a b c : Option (List ℕ)) → IsDrawn a b → IsDrawn b c → IsDrawn a c
drawn_more a b c one two = (one.0 ++ two.0, consumes_more a b c one.0 two.0 one.1 two.1)

-- whether a fault is the device's, whatever would have been answered in its place
same_io : (A B : Type 0) (x : Fault) → is_io {A = A} (Err x) ≡ is_io {A = B} (Err x)
same_io A B TruncatedHeader = refl
same_io A B Magic = refl
same_io A B RegionLog = refl
same_io A B Length = refl
same_io A B TruncatedBody = refl
same_io A B (LiveOrder _) = refl
same_io A B (Header _) = refl
same_io A B (Overlap _) = refl
same_io A B (Reference _ _) = refl
same_io A B Trailing = refl
same_io A B Memory = refl
same_io A B Workers = refl
same_io A B Io = refl
same_io A B (Schedule _) = refl
same_io A B (Overwritten _) = refl
same_io A B Gate = refl
same_io A B (Root _) = refl

-- a call that failed after others had read these words
pub draws_after : {S A B : Type 0} (IsInner IsOuter : Fault → Type 0) (left : S → Option (List ℕ)) (has_failed : S → Bool) (first next : Incoming) (a b c : S) (words : List ℕ) (x : Fault)
    → Consumes (known_rest first (left a)) (known_rest next (left b)) (numbers words) → expected next + length words ≡ expected first → IsDrawn (left a) (left b) → has_failed b ≡ has_failed a
    → (IsInner x → IsOuter x) → Draws {A = A} IsInner left has_failed next b c (Err x) → Draws {A = B} IsOuter left has_failed first a c (Err x)
draws_after {A = A} {B = B} IsInner IsOuter left has_failed first next a b c words x read fewer lost same allowed drawn = record {
  truncated = λ e. let t = drawn.truncated (same_error x TruncatedBody e) in
      (t.0, still_short (known_rest first (left a)) (known_rest next (left b)) words (expected first) (expected next) read fewer t.1);
  fault = allowed drawn.fault;
  lost = drawn_more (left a) (left b) (left c) lost drawn.lost;
  failed = drawn.failed ∙ ap (λ f. is_io {A = A} (Err x) || f) same ∙ ap (λ f. f || has_failed a) (same_io A B x);
}

-- the fault of the first call is that of the whole
pub draws_as : {S A B : Type 0} (IsAllowed : Fault → Type 0) (left : S → Option (List ℕ)) (has_failed : S → Bool) (first : Incoming) (a b : S) (x : Fault)
    → Draws {A = A} IsAllowed left has_failed first a b (Err x) → Draws {A = B} IsAllowed left has_failed first a b (Err x)
draws_as {A = A} {B = B} IsAllowed left has_failed first a b x drawn = record {
  truncated = λ e. drawn.truncated (same_error x TruncatedBody e);
  fault = drawn.fault;
  lost = drawn.lost;
  failed = drawn.failed ∙ ap (λ f. f || has_failed a) (same_io A B x);
}

-- a fault of the device is one of a body
pub of_body : (x : Fault) → IsOfDevice x → IsOfBody x
of_body x (inl e) = inr (inr e)
of_body x (inr e) = inr (inl e)

-- memory ran out after some bytes were taken
pub draws_no_memory : {S A : Type 0} (left : S → Option (List ℕ)) (has_failed : S → Bool) (first : Incoming) (a b : S) (x : Fault) → x ≡ Memory → IsDrawn (left a) (left b) → has_failed b ≡ has_failed a
    → Draws {A = A} IsOfBody left has_failed first a b (Err x)
draws_no_memory {A = A} left has_failed first a b x e lost same = record {
  truncated = λ t. let no : ⊥ = cc in absurd no;
  fault = inl e;
  lost = lost;
  failed = subst (λ y. has_failed b ≡ (is_io {A = A} (Err y) || has_failed a)) (sym e) same;
}

-- a call that did not fail
pub draws_well : {S A : Type 0} (IsAllowed : Fault → Type 0) (left : S → Option (List ℕ)) (has_failed : S → Bool) (first : Incoming) (a b : S) (value : A) → IsDrawn (left a) (left b) → has_failed b ≡ has_failed a
    → Draws {A = A} IsAllowed left has_failed first a b (Ok value)
draws_well IsAllowed left has_failed first a b value lost same = record {
  truncated = λ e. let no : ⊥ = cc in absurd no;
  fault = tt;
  lost = lost;
  failed = same;
}

-- a call after which only memory can have run out
pub draws_or_memory : {S A : Type 0} (left : S → Option (List ℕ)) (has_failed : S → Bool) (first : Incoming) (a b : S) (result : Result A Fault) → IfErr result (λ x. x ≡ Memory) → IsDrawn (left a) (left b) → has_failed b ≡ has_failed a
    → Draws IsOfBody left has_failed first a b result
draws_or_memory left has_failed first a b (Ok value) e lost same = draws_well IsOfBody left has_failed first a b value lost same
draws_or_memory left has_failed first a b (Err x) e lost same = draws_no_memory left has_failed first a b x e lost same
