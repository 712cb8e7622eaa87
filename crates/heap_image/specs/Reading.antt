-- An image that was read, and its body before the check.
use Rattle.std.specs.Prelude.{◌≡◌, ℕ, ◌+◌, ◌<◌, ◌^◌, ◌++◌, List, All, Option, None, length, IfSome}
use Rattle.std.specs.List.{concat}
use Rattle.std.specs.Io.KnownBytes.{Consumes, IsAtEnd}
use Rattle.object_heap.specs.HeapImage.{HeapImage, AreBlocks, IsValid, IsWithinLimits, heap_words}
use Rattle.object_heap.specs.Layout.{Own}
use Rattle.object_heap.specs.Version.{Allows}
use Rattle.object_heap.specs.declared.version.Version.{Version}
use Rattle.object_heap.specs.declared.version.Version.TheVariants.{One}
use Rattle.heap_image.specs.ImageText.{text}
use Rattle.image_streams.specs.Body.{IsOfBody}
use Rattle.image_streams.specs.Incoming.{FallsShort}
use Rattle.image_streams.specs.Numbers.{numbers}
use Rattle.image_streams.specs.declared.body.Body.{Body}
use Rattle.image_streams.specs.declared.fault.Fault.{Fault}
use Rattle.image_streams.specs.declared.fault.Fault.TheVariants.{TruncatedBody, Memory}
use Rattle.heap_image.specs.declared.io.front.Front.{Front}

-- all of an input was read, and it is the text of this image
pub record IsRead (image : HeapImage) (before after : Option (List ℕ)) : Type 0 where
  pub valid : IsValid image
  pub text : Consumes before after (Rattle.heap_image.specs.ImageText.text image)
  pub end : IsAtEnd after

-- this version allows the sizes, and each number fits its bytes
pub record HasFittingNumbers (version : Version) (image : HeapImage) : Type 0 where
  pub own : image.layout ≡ Own
  pub limits : IsWithinLimits image.region_log (heap_words image) (length image.live)
  pub allowed : Allows version image.region_log (heap_words image)
  pub counted : length image.live < 2 ^ 32
  pub allowance : image.allowance < 2 ^ 64
  pub words : All (λ w. w < 2 ^ 64) image.words
  pub live : All (λ a. a < 2 ^ 64) image.live
  pub plain : image.roots ≡ None
  pub listed : image.version ≡ One

-- the body behind this front, of which no byte is left
pub record IsBodyOf (front : Front) (before after : Option (List ℕ)) (body : Body) : Type 0 where
  pub bytes : Consumes before after (numbers (concat body.regions.items) ++ numbers body.tail.items)
  pub regions : AreBlocks front.region_log body.regions.items
  pub fit : All (λ w. w < 2 ^ 64) (concat body.regions.items)
  pub words : length (concat body.regions.items) ≡ front.words
  pub tail : length body.tail.items ≡ front.count
  pub tail_fit : All (λ a. a < 2 ^ 64) body.tail.items

-- No body comes behind this front. The input has ended, or memory ran out after its first byte, or the device failed.
pub record IsBodyRefusal (front : Front) (before after : Option (List ℕ)) (fault : Fault) : Type 0 where
  pub kind : IsOfBody fault
  pub truncated : fault ≡ TruncatedBody → FallsShort before after (front.words + front.count)
  pub memory : fault ≡ Memory → IfSome before (λ rest. 0 < length rest)
