-- What reading the numbers of a body says, of the buffer and of the device. The device is seen by the bytes that it has left.
use Rattle.std.specs.Prelude.{◌≡◌, ℕ, ◌+◌, ◌*◌, ◌^◌, ◌<◌, ◌≤◌, ◌⊎◌, ◌||◌, Bool, All, Option, List, [], Result, Err, IfErr, IfSome, length}
use Rattle.std.specs.List.{concat}
use Rattle.std.specs.Io.KnownBytes.{Consumes, IsAtEnd}
use Rattle.image_streams.specs.Body.{IsBody, body_words}
use Rattle.image_streams.specs.Device.{is_io}
use Rattle.image_streams.specs.Incoming.{IsInRange, expected, known_rest}
use Rattle.image_streams.specs.Numbers.{numbers}
use Rattle.image_streams.specs.declared.body.Body.{Body}
use Rattle.image_streams.specs.declared.body_size.BodySize.{BodySize}
use Rattle.image_streams.specs.declared.numbers.incoming.Incoming.{Incoming}
use Rattle.image_streams.specs.declared.fault.Fault.{Fault}
use Rattle.image_streams.specs.declared.fault.Fault.TheVariants.{TruncatedBody, Io}

-- too few bytes came, or the device failed
abbrev pub IsOfDevice : Fault → Type 0
IsOfDevice fault = (fault ≡ TruncatedBody) ⊎ (fault ≡ Io)

-- the buffer is in range, and no fewer than this number of numbers are still to be read
pub record IsDue (i : Incoming) (count : ℕ) : Type 0 where
  pub in_range : IsInRange i
  pub enough : count ≤ expected i

-- the buffer is in range, and the numbers that it still expects are these fewer, whose bytes were read
pub record Reads {S : Type 0} (left : S → Option (List ℕ)) (old new : Incoming) (before after : S) (words : List ℕ) : Type 0 where
  pub in_range : IsInRange new
  pub fewer : expected new + length words ≡ expected old
  pub bytes : Consumes (known_rest old (left before)) (known_rest new (left after)) (numbers words)

-- the same of the numbers of a body
pub record ReadsBody {S : Type 0} (left : S → Option (List ℕ)) (size : BodySize) (old new : Incoming) (before after : S) (body : Body) : Type 0 where
  pub in_range : IsInRange new
  pub fewer : expected new + body_words size ≡ expected old
  pub is : IsBody size (known_rest old (left before)) (known_rest new (left after)) body

-- The buffer holds a number, if one is expected, and none was read. If it was empty and some were due, a byte came.
pub record TopsUp {S : Type 0} (left : S → Option (List ℕ)) (old new : Incoming) (before after : S) : Type 0 where
  pub none : Reads left old new before after []
  pub some : 0 < expected old → new.start < new.end
  pub came : old.start ≡ old.end → 0 < old.due → IfSome (left before) (λ rest. 0 < length rest)

-- Whatever the result: what was taken of the device, whether it failed, and which faults there may be. If one is that too few
-- bytes came, the device is at its end, and these known bytes were fewer than wanted.
pub record Takes {S A : Type 0} (IsAllowed : Fault → Type 0) (left : S → Option (List ℕ)) (has_failed : S → Bool) (rest : Option (List ℕ)) (wanted : ℕ) (old new : S) (result : Result A Fault) : Type 0 where
  pub truncated : result ≡ Err TruncatedBody → IsAtEnd (left new) × IfSome rest (λ bytes. length bytes < wanted)
  pub fault : IfErr result IsAllowed
  pub lost : (came : List ℕ) × Consumes (left old) (left new) came
  pub failed : has_failed new ≡ (is_io result || has_failed old)

-- the same where all numbers are wanted that are still to be read
abbrev pub Draws : {S A : Type 0} → (Fault → Type 0) → (S → Option (List ℕ)) → (S → Bool) → Incoming → S → S → Result A Fault → Type 0
Draws IsAllowed left has_failed incoming old new result = Takes IsAllowed left has_failed (known_rest incoming (left old)) (8 * expected incoming) old new result

-- this number of regions of one size
pub record AreRegions (size count : ℕ) (regions : List (List ℕ)) : Type 0 where
  pub whole : All (λ block. length block ≡ size) regions
  pub counted : length regions ≡ count
  pub fit : All (λ w. w < 2 ^ 64) (concat regions)
  pub words : length (concat regions) ≡ count * size
