-- The known bytes of a device, over several calls.
use Rattle.std.proofs.Common.{◌≡◌, ℕ, List, [], ◌++◌, refl, sym, ◌∙◌, ap, append_assoc, Bool, true, false, Option, Some, None, Result, Err}
use Rattle.image_streams.specs.declared.fault.Fault.{Fault}
use Rattle.std.proofs.lemmas.Bool.{false≢true}
use Rattle.std.proofs.lemmas.List.{append-nil}
use Rattle.std.specs.Io.KnownBytes.{Consumes, Keeps, Appends, prepend_known}

pub consumes_none : (known : Option (List ℕ)) → Consumes known known []
consumes_none None = tt
consumes_none (Some xs) = refl

pub consumes_kept : (old new : Option (List ℕ)) → Keeps old new → Consumes old new []
consumes_kept None new h = tt
consumes_kept (Some xs) None h = h
consumes_kept (Some xs) (Some ys) h = sym h

pub consumes_more : (a b c : Option (List ℕ)) (xs ys : List ℕ) → Consumes a b xs → Consumes b c ys → Consumes a c (xs ++ ys)
consumes_more None b c xs ys h k = tt
consumes_more (Some as') None c xs ys h k = absurd h
consumes_more (Some as') (Some bs) None xs ys h k = absurd k
consumes_more (Some as') (Some bs) (Some cs) xs ys h k = h ∙ ap (λ l. xs ++ l) k ∙ sym (append_assoc xs ys cs)

pub appends_none : (known : Option (List ℕ)) → Appends known known []
appends_none None = tt
appends_none (Some xs) = sym (append-nil xs)

pub appends_kept : (old new : Option (List ℕ)) → Keeps old new → Appends old new []
appends_kept None new h = tt
appends_kept (Some xs) None h = h
appends_kept (Some xs) (Some ys) h = h ∙ sym (append-nil xs)

pub appends_more : (a b c : Option (List ℕ)) (xs ys : List ℕ) → Appends a b xs → Appends b c ys → Appends a c (xs ++ ys)
appends_more None b c xs ys h k = tt
appends_more (Some as') None c xs ys h k = absurd h
appends_more (Some as') (Some bs) None xs ys h k = absurd k
appends_more (Some as') (Some bs) (Some cs) xs ys h k = k ∙ ap (λ l. l ++ ys) h ∙ append_assoc as' xs ys

-- what would make a good answer a bad one did not hold
pub refuted : (b : Bool) → (b ≡ true → false ≡ true) → b ≡ false
refuted true h = absurd (false≢true (h refl))
refuted false h = refl

-- what was held is read
pub consumes_held : (before left : Option (List ℕ)) (read held taken kept : List ℕ) → held ≡ taken ++ kept → Consumes before (prepend_known held left) read → Consumes before (prepend_known kept left) (read ++ taken)
consumes_held None left read held taken kept e h = tt
consumes_held (Some xs) None read held taken kept e h = absurd h
consumes_held (Some xs) (Some ys) read held taken kept e h = h ∙ ap (λ l. read ++ (l ++ ys)) e ∙ ap (λ l. read ++ l) (append_assoc taken kept ys) ∙ sym (append_assoc read taken (kept ++ ys))

-- a fault is the same, whatever would have been answered in its place
pub same_error : {A B : Type 0} (x y : Fault) → ◌≡◌ {A = Result A Fault} (Err x) (Err y) → ◌≡◌ {A = Result B Fault} (Err x) (Err y)
same_error x y e = let f : x ≡ y = cc in ap Err f
