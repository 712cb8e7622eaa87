-- The body of an image: what follows its front.
use Rattle.std.specs.Prelude.{◌≡◌, ℕ, ◌+◌, ◌*◌, ◌^◌, ◌<◌, ◌≤◌, ◌++◌, ◌⊎◌, All, Option, List, length}
use Rattle.std.specs.List.{concat}
use Rattle.std.specs.Io.KnownBytes.{Consumes}
use Rattle.image_streams.specs.Numbers.{numbers}
use Rattle.image_streams.specs.declared.body.Body.{Body}
use Rattle.image_streams.specs.declared.body_size.BodySize.{BodySize}
use Rattle.image_streams.specs.declared.fault.Fault.{Fault}
use Rattle.image_streams.specs.declared.fault.Fault.TheVariants.{TruncatedBody, Memory, Io}

-- the number of words of the regions and the numbers after them
abbrev pub body_words : BodySize → ℕ
body_words size = size.regions * 2 ^ size.region_log + size.numbers

-- the regions are not too large, and the number of words fits in 64 bits
pub record HasFewWords (size : BodySize) : Type 0 where
  pub log : size.region_log ≤ 20
  pub fits : body_words size < 2 ^ 64

-- a body of this size, whose words are the known bytes that were left before and aren't left after
pub record IsBody (size : BodySize) (before after : Option (List ℕ)) (body : Body) : Type 0 where
  pub regions : All (λ block. length block ≡ 2 ^ size.region_log) body.regions.items
  pub count : length body.regions.items ≡ size.regions
  pub fit : All (λ w. w < 2 ^ 64) (concat body.regions.items)
  pub tail : length body.tail.items ≡ size.numbers
  pub tail_fit : All (λ n. n < 2 ^ 64) body.tail.items
  pub bytes : Consumes before after (numbers (concat body.regions.items) ++ numbers body.tail.items)

-- a fault in reading a body: memory ran out, the device failed, or too few bytes came
abbrev pub IsOfBody : Fault → Type 0
IsOfBody fault = (fault ≡ Memory) ⊎ ((fault ≡ Io) ⊎ (fault ≡ TruncatedBody))
