-- What a comparison tells.
use Rattle.std.specs.Prelude.{◌≡◌, ◌⊎◌, ℕ, List, Some}
use Rattle.image_streams.specs.declared.fault.Fault.{Fault}
use Rattle.image_streams.specs.declared.fault.Fault.TheVariants.{Memory}
use Rattle.object_heap.specs.HeapImage.{HeapImage, IsValid}
use Rattle.heap_image.specs.ImageText.{text, first_fault}
use Rattle.summary.specs.Compaction.{compact}
use Rattle.verification.specs.Verdict.{IsVerdict}
use Rattle.verification.specs.declared.verdict.Verdict.{Verdict}
use Rattle.verification.specs.declared.verdict.Verdict.TheVariants.{Same, Shape, Word, Live, Root}
use Rattle.pcompact_c.specs.declared.verdict.PcompactVerdict.{PcompactVerdict}

-- the number of what differs
abbrev pub difference_of : Verdict → ℕ
difference_of Same = 0
difference_of Shape = 1
difference_of (Word _) = 2
difference_of (Live _) = 3
difference_of (Root _) = 4

-- the address or index that differs
abbrev pub difference_place : Verdict → ℕ
difference_place Same = 0
difference_place Shape = 0
difference_place (Word address) = address
difference_place (Live index) = index
difference_place (Root index) = index

-- the struct is this verdict
pub record IsVerdictOf (verdict : Verdict) (c : PcompactVerdict) : Type 0 where
  pub none : c.fault.number ≡ 0
  pub image : c.image ≡ 0
  pub difference : c.difference ≡ difference_of verdict
  pub place : c.place ≡ difference_place verdict

-- the bytes are the texts of images, and this is the verdict on the second beside the compaction of the first
abbrev pub AreCompared : List ℕ → List ℕ → Verdict → Type 0
AreCompared before after verdict = (image found : HeapImage) × IsValid image × IsValid found
    × (before ≡ text image) × (after ≡ text found) × IsVerdict (compact image) found verdict

-- memory ran out, or it is the first fault of these bytes
abbrev pub IsWhyUnread : List ℕ → Fault → Type 0
IsWhyUnread bytes fault = (fault ≡ Memory) ⊎ (first_fault bytes ≡ Some fault)

-- one of the images, the first or the second, isn't read or compared for this reason
abbrev pub IsWhyUncompared : List ℕ → List ℕ → ℕ → Fault → Type 0
IsWhyUncompared before after image fault = ((image ≡ 1) × IsWhyUnread before fault) ⊎ ((image ≡ 2) × IsWhyUnread after fault)
