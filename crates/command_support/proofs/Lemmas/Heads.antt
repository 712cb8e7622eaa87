-- What is read of a file in place of the bytes of its head.
use Rattle.std.proofs.Common.{◌≡◌, ◌∙◌, ℕ, ◌+◌, ◌<◌, ◌≤◌, Bool, true, false, List, [], ◌∷◌, ◌++◌, length, get_or, min, Option, Some, None, refl, sym, ap, ap₂, arith, inl, inr, zero, suc}
use Rattle.std.specs.Prelude.{◌&&◌, if◌then◌else◌, nat_le, nat_lt, unwrap_or, option_map}
use Rattle.std.specs.Io.KnownBytes.{Consumes, IsAtEnd, Keeps}
use Rattle.std.proofs.lemmas.Bool.{and_right, cases_lt, le-ltb}
use Rattle.std.proofs.lemmas.List.{ext_get_or}
use Rattle.heap_image.specs.ImageText.{front}
use Rattle.object_heap.specs.declared.version.Version.{Version}
use Rattle.command_line.specs.declared.shape.Shape.{Shape}
use Rattle.command_support.specs.Heads.{byte_at, byte_read, bytes_read}

-- a shape has no byte past the head
pub byte_at-past : (shape : Shape) (position : ℕ) → 32 ≤ position → byte_at shape position ≡ None
byte_at-past shape position past =
    let no_log = and_right (nat_le 8 position) (nat_lt position 12) (le-ltb position 12 (omega arith)) in
    let no_allowance = and_right (nat_le 24 position) (nat_lt position 32) (le-ltb position 32 past) in
    rw no_log (rw no_allowance refl)

-- what is past the head is read as it is
pub bytes_read-past : (shape : Shape) (at : ℕ) (bytes : List ℕ) → 32 ≤ at → bytes_read shape at bytes ≡ bytes
bytes_read-past shape at [] past = refl
bytes_read-past shape at (byte ∷ bytes) past =
    ap₂ (λ x xs. x ∷ xs) (ap (λ o. unwrap_or o byte) (byte_at-past shape at past)) (bytes_read-past shape (at + 1) bytes (omega arith))

neither : {A : Type 0} (b d : Bool) (none : A) → (if b then none else (if d then none else none)) ≡ none
neither true d none = refl
neither false true none = refl
neither false false none = refl

-- a shape that changes nothing has no byte
pub byte_at-unchanged : (shape : Shape) (position : ℕ) → shape.region_log ≡ None → shape.allowance ≡ None → byte_at shape position ≡ None
byte_at-unchanged shape position log allowance =
    rw log (rw allowance (neither (nat_le 8 position && nat_lt position 12) (nat_le 24 position && nat_lt position 32) None))

pub bytes_read-unchanged : (shape : Shape) → shape.region_log ≡ None → shape.allowance ≡ None → (at : ℕ) (bytes : List ℕ) → bytes_read shape at bytes ≡ bytes
bytes_read-unchanged shape log allowance at [] = refl
bytes_read-unchanged shape log allowance at (byte ∷ bytes) =
    ap₂ (λ x xs. x ∷ xs) (ap (λ o. unwrap_or o byte) (byte_at-unchanged shape at log allowance)) (bytes_read-unchanged shape log allowance (at + 1) bytes)

-- what is read of two parts
pub bytes_read-append : (shape : Shape) (at : ℕ) (xs ys : List ℕ) → bytes_read shape at (xs ++ ys) ≡ bytes_read shape at xs ++ bytes_read shape (at + length xs) ys
bytes_read-append shape at [] ys = let here : at ≡ at + 0 = omega arith in ap (λ n. bytes_read shape n ys) here
bytes_read-append shape at (x ∷ xs) ys =
    let next : at + 1 + length xs ≡ at + suc (length xs) = omega arith in
    ap (λ zs. byte_read shape at x ∷ zs) (bytes_read-append shape (at + 1) xs ys ∙ ap (λ n. bytes_read shape (at + 1) xs ++ bytes_read shape n ys) next)

pub length-bytes_read : (shape : Shape) (at : ℕ) (bytes : List ℕ) → length (bytes_read shape at bytes) ≡ length bytes
length-bytes_read shape at [] = refl
length-bytes_read shape at (byte ∷ bytes) = ap suc (length-bytes_read shape (at + 1) bytes)

pub get_or-bytes_read : (shape : Shape) (at : ℕ) (bytes : List ℕ) (k : ℕ) → k < length bytes → get_or (bytes_read shape at bytes) k 0 ≡ byte_read shape (at + k) (get_or bytes k 0)
get_or-bytes_read shape at [] k inside = absurd (omega arith)
get_or-bytes_read shape at (byte ∷ bytes) zero inside = let here : at ≡ at + 0 = omega arith in ap (λ n. byte_read shape n byte) here
get_or-bytes_read shape at (byte ∷ bytes) (suc k) inside =
    let next : at + 1 + k ≡ at + suc k = omega arith in
    get_or-bytes_read shape (at + 1) bytes k (omega arith) ∙ ap (λ n. byte_read shape n (get_or bytes k 0)) next

-- the bytes of a piece are read so, if the first ones are and the others are past the head
pub whole-read : (shape : Shape) (at many : ℕ) (old new : List ℕ) → length new ≡ length old
    → ((k : ℕ) → k < many → get_or new k 0 ≡ byte_read shape (at + k) (get_or old k 0))
    → ((k : ℕ) → many ≤ k → get_or new k 0 ≡ get_or old k 0)
    → ((k : ℕ) → many ≤ k → k < length old → 32 ≤ at + k) → new ≡ bytes_read shape at old
whole-read shape at many old new long done rest past = ext_get_or 0 new (bytes_read shape at old) (long ∙ sym (length-bytes_read shape at old)) (λ k inside. elim (cases_lt k many) [
  | inl first ↦ done k first ∙ sym (get_or-bytes_read shape at old k (omega (arith, long)))
  | inr other ↦ rest k other ∙ sym (get_or-bytes_read shape at old k (omega (arith, long)) ∙ ap (λ o. unwrap_or o (get_or old k 0)) (byte_at-past shape (at + k) (past k other (omega (arith, long)))))
])

-- the head that is read has the values of the shape
head-read : (new_log new_allowance : Option ℕ) (version : Version) (log count words allowance : ℕ)
    → bytes_read (record { region_log = new_log; allowance = new_allowance }) 0 (front version log count words allowance)
    ≡ front version (unwrap_or new_log log) count words (unwrap_or new_allowance allowance)
head-read None None version log count words allowance = refl
head-read None (Some m) version log count words allowance = refl
head-read (Some k) None version log count words allowance = refl
head-read (Some k) (Some m) version log count words allowance = refl

pub image-read : (shape : Shape) (version : Version) (log count words allowance : ℕ) (body : List ℕ)
    → bytes_read shape 0 (front version log count words allowance ++ body)
    ≡ front version (unwrap_or shape.region_log log) count words (unwrap_or shape.allowance allowance) ++ body
image-read shape version log count words allowance body =
    let text : List ℕ = front version log count words allowance in
    let long : length text ≡ 32 = refl in
    bytes_read-append shape 0 text body
    ∙ ap₂ (λ xs ys. xs ++ ys) (head-read shape.region_log shape.allowance version log count words allowance) (bytes_read-past shape (0 + length text) body (omega (arith, long)))

-- positions count as far as the head goes
bytes_read-count : (shape : Shape) (at count now : ℕ) (bytes : List ℕ) → now ≡ min (min at 32 + count) 32 → bytes_read shape (at + count) bytes ≡ bytes_read shape now bytes
bytes_read-count shape at count now bytes is = elim (cases_lt (at + count) 32) [
  | inl inside ↦ let same : at + count ≡ now = omega (arith, is) in ap (λ n. bytes_read shape n bytes) same
  | inr past ↦ bytes_read-past shape (at + count) bytes past ∙ sym (bytes_read-past shape now bytes (omega (arith, is)))
]

-- what is left to read after a piece
pub read-more : (shape : Shape) (at now : ℕ) (old new : Option (List ℕ)) (came : List ℕ) → Consumes old new came → now ≡ min (min at 32 + length came) 32
    → Consumes (option_map (bytes_read shape at) old) (option_map (bytes_read shape now) new) (bytes_read shape at came)
read-more shape at now None new came took is = tt
read-more shape at now (Some xs) None came took is = absurd took
read-more shape at now (Some xs) (Some ys) came took is =
    ap (bytes_read shape at) took ∙ bytes_read-append shape at came ys ∙ ap (λ zs. bytes_read shape at came ++ zs) (bytes_read-count shape at (length came) now ys is)

pub read-end : (shape : Shape) (at : ℕ) (known : Option (List ℕ)) → IsAtEnd known → IsAtEnd (option_map (bytes_read shape at) known)
read-end shape at None end = tt
read-end shape at (Some xs) end = ap (bytes_read shape at) end

pub read-nothing : (shape : Shape) (at : ℕ) (old new : Option (List ℕ)) → Keeps old new → Keeps (option_map (bytes_read shape at) old) (option_map (bytes_read shape at) new)
read-nothing shape at None new same = tt
read-nothing shape at (Some xs) None same = absurd same
read-nothing shape at (Some xs) (Some ys) same = ap (bytes_read shape at) same
