-- The heap that is requested.
use Rattle.std.specs.Prelude.{◌≡◌, ℕ, ◌*◌, ◌/◌}
use Rattle.object_heap.specs.HeapImage.{HeapImage, IsValid, heap_words, live_words}
use Rattle.heap_maker.specs.declared.wanted.Wanted.{Wanted}

-- the number of words of live objects: the requested percentage, rounded down
abbrev pub live_words_wanted : Wanted → ℕ
live_words_wanted wanted = wanted.words * wanted.live_percent / 100

-- a valid image of the requested version and sizes, with the requested number of words of live objects
pub record IsAsWanted (wanted : Wanted) (image : HeapImage) : Type 0 where
  pub valid : IsValid image
  pub version : image.version ≡ wanted.version
  pub region_log : image.region_log ≡ wanted.region_log
  pub words : heap_words image ≡ wanted.words
  pub allowance : image.allowance ≡ wanted.allowance
  pub live : live_words image 0 (heap_words image) ≡ live_words_wanted wanted
