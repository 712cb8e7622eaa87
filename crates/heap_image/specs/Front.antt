-- The front of an image, as it was read.
use Rattle.std.specs.Prelude.{◌≡◌, ℕ, ◌<◌, ◌≤◌, ◌^◌, List}
use Rattle.object_heap.specs.HeapImage.{IsWithinLimits}
use Rattle.object_heap.specs.Version.{Allows, max_region_log}
use Rattle.object_heap.specs.declared.version.Version.{Version}
use Rattle.heap_image.specs.ImageText.{front, encoded_version, encoded_region_log, encoded_count, encoded_words}
use Rattle.heap_image.specs.declared.io.front.Front.{Front}

abbrev pub bytes_of : Front → List ℕ
bytes_of f = front f.version f.region_log f.count f.words f.allowance

-- this version allows these numbers
pub record FitsFront (version : Version) (log words count : ℕ) : Type 0 where
  pub limits : IsWithinLimits log words count
  pub allowed : Allows version log words
  pub counted : count < 2 ^ 32

-- the version allows the other fields, and the allowance fits its bytes
pub record Fits (f : Front) : Type 0 where
  pub sizes : FitsFront f.version f.region_log f.words f.count
  pub allowance : f.allowance < 2 ^ 64

-- the fields are those that these bytes encode, and fit them
pub record IsOfBytes (bytes : List ℕ) (f : Front) : Type 0 where
  pub all : bytes ≡ bytes_of f
  pub version : f.version ≡ encoded_version bytes
  pub region_log : f.region_log ≡ encoded_region_log bytes
  pub count : f.count ≡ encoded_count bytes
  pub words : f.words ≡ encoded_words bytes
  pub counted : f.count < 2 ^ 32
  pub allowance : f.allowance < 2 ^ 64

-- the version allows regions of this size
pub record HasAllowedRegions (f : Front) : Type 0 where
  pub low : 3 ≤ f.region_log
  pub high : f.region_log ≤ 20
  pub allowed : f.region_log ≤ max_region_log f.version
