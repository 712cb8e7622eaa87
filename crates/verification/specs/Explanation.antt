-- What is said of the words of a heap that differ from those of a compaction.
use Rattle.std.specs.Prelude.{◌≡◌, ℕ, ◌+◌, ◌-◌, ◌<◌, ◌≤◌, ◌≢◌, ◌⊎◌, Bool, if◌then◌else◌, List, All, Contains, Option, Some, None, MatchOption, length, map, min, slice_index}
use Rattle.object_heap.specs.HeapImage.{HeapImage, heap_words, word_at, size_at, references_at}
use Rattle.summary.specs.LiveObjects.{object_count, object_at}
use Rattle.summary.specs.NewAddresses.{new_address, new_end_of, new_top}
use Rattle.summary.specs.Compaction.{redirected, compact}
use Rattle.verification.specs.Difference.{AreAlike, IsLeastDifference}
use Rattle.verification.specs.Verdict.{root_count, root_at}
use Rattle.verification.specs.Tally.{IsTally}
use Rattle.verification.specs.declared.difference_tally.Tally.{Tally}
use Rattle.verification.specs.declared.verdict_explanation.Moved.{Moved}
use Rattle.verification.specs.declared.verdict_explanation.Part.{Part}
use Rattle.verification.specs.declared.verdict_explanation.Part.TheVariants.{Header, Field, Data, Filler, Free}
use Rattle.verification.specs.declared.verdict_explanation.Origin.{Origin}
use Rattle.verification.specs.declared.verdict_explanation.Origin.TheVariants.{Before, Neighbour}
use Rattle.verification.specs.declared.difference_tally.OtherWord.{OtherWord}
use Rattle.verification.specs.declared.verdict_explanation.Lead.{Lead}
use Rattle.verification.specs.declared.verdict_explanation.Lead.TheVariants.{Null, Outside, Unchanged, To}
use Rattle.verification.specs.declared.verdict_explanation.ExplainedWord.{ExplainedWord}
use Rattle.verification.specs.declared.verdict_explanation.OtherLive.{OtherLive}
use Rattle.verification.specs.declared.verdict_explanation.OtherRoot.{OtherRoot}
use Rattle.verification.specs.declared.verdict_explanation.Explanation.{Explanation}

-- the addresses to compare: all, or those below the new top
abbrev pub limit_of : Bool → HeapImage → ℕ
limit_of below_top image = if below_top then new_top image else heap_words image

-- how many words below an address differ from the compaction's, the first ten, and the last
abbrev pub IsTallyOf : HeapImage → HeapImage → ℕ → Tally → Type 0
IsTallyOf before after limit tally = IsTally (word_at (compact before)) (word_at after) limit tally.count tally.first.items tally.last

-- what the word at an index of an object is, by the number of its references
abbrev pub IsPartAt : Moved → ℕ → ℕ → Part → Type 0
IsPartAt object index references (Header moved) = (moved ≡ object) × (index ≡ 0)
IsPartAt object index references (Field moved f) = (moved ≡ object) × (f < references) × (index ≡ 1 + f)
IsPartAt object index references (Data moved d) = (moved ≡ object) × (index ≡ 1 + references + d)
IsPartAt object index references Filler = ⊥
IsPartAt object index references Free = ⊥

module _ (before : HeapImage) where
  -- a live object and its new address
  pub record IsMoved (moved : Moved) : Type 0 where
    pub live : Contains before.live moved.old
    pub goes : moved.new ≡ new_address before moved.old

  -- none of the first n live objects has a word at the new address p
  abbrev pub IsOfNone : ℕ → ℕ → Type 0
  IsOfNone n p = (i : ℕ) → i < n → new_address before (object_at before i) ≤ p → p < new_end_of before (object_at before i) → ⊥

  -- what the word at p is in the compaction
  abbrev pub IsPart : ℕ → Part → Type 0
  IsPart p (Header moved) = IsMoved moved × (p ≡ moved.new)
  IsPart p (Field moved f) = IsMoved moved × (f < references_at before moved.old) × (p ≡ moved.new + 1 + f)
  IsPart p (Data moved d) = IsMoved moved × (p ≡ moved.new + 1 + references_at before moved.old + d) × (p < moved.new + size_at before moved.old)
  IsPart p Filler = (p < new_top before) × IsOfNone (object_count before) p
  IsPart p Free = (new_top before ≤ p) × IsOfNone (object_count before) p

  -- where a reference leads that was found; `was` is the one from before the collection
  abbrev pub IsLead : ℕ → ℕ → Lead → Type 0
  IsLead was w Null = w ≡ 0
  IsLead was w Outside = heap_words before < w
  IsLead was w Unchanged = (0 < w) × (w ≤ heap_words before) × (w ≡ was)
  IsLead was w (To part) = (0 < w) × (w ≤ heap_words before) × (w ≢ was) × IsPart (w - 1) part

  -- a reference is found to lead somewhere, and nothing else is
  abbrev pub IsLeadOf : Part → ℕ → Option Lead → Type 0
  IsLeadOf (Field moved f) w (Some lead) = IsLead (word_at before (moved.old + 1 + f)) w lead
  IsLeadOf (Field moved f) w None = ⊥
  IsLeadOf (Header moved) w lead = lead ≡ None
  IsLeadOf (Data moved d) w lead = lead ≡ None
  IsLeadOf Filler w lead = lead ≡ None
  IsLeadOf Free w lead = lead ≡ None

  -- The live object at b touches this one in the compaction, and has this word at this index there.
  pub record IsNeighbour (moved : Moved) (index w b : ℕ) : Type 0 where
    pub touches : (new_end_of before b ≡ moved.new) ⊎ (new_address before b ≡ moved.new + size_at before moved.old)
    pub inside : index < size_at before b
    pub word : word_at (compact before) (new_address before b + index) ≡ w

  -- a neighbour of the object of a part has this word at the same index
  abbrev pub IsInNeighbour : Part → ℕ → ℕ → Type 0
  IsInNeighbour (Header moved) w b = IsNeighbour moved 0 w b
  IsInNeighbour (Field moved f) w b = IsNeighbour moved (1 + f) w b
  IsInNeighbour (Data moved d) w b = IsNeighbour moved (1 + references_at before moved.old + d) w b
  IsInNeighbour Filler w b = ⊥
  IsInNeighbour Free w b = ⊥

  -- where a word that was found stands, too; 0 stands in too many places
  abbrev pub IsOrigin : OtherWord → Part → Option Origin → Type 0
  IsOrigin word part (Some Before) = (0 < word.found) × (word_at before word.address ≡ word.found)
  IsOrigin word part (Some (Neighbour other)) = (0 < word.found) × (word_at before word.address ≢ word.found) × IsMoved other × IsInNeighbour part word.found other.old
  IsOrigin word part None = 0 < word.found
      → (word_at before word.address ≢ word.found) × ((i : ℕ) → i < object_count before → IsInNeighbour part word.found (object_at before i) → ⊥)

  pub record IsExplained (explained : ExplainedWord) : Type 0 where
    pub part : IsPart explained.word.address explained.part
    pub lead : IsLeadOf explained.part explained.word.found explained.lead
    pub origin : IsOrigin explained.word explained.part explained.origin

-- of as many addresses as both lists have, this is the first that isn't the compaction's
pub record IsOtherLive (before : HeapImage) (addresses : List ℕ) (other : OtherLive) : Type 0 where
  pub least : IsLeastDifference (λ i. new_address before (object_at before i)) (slice_index addresses) (min (object_count before) (length addresses)) other.index
  pub expected : other.expected ≡ new_address before (object_at before other.index)
  pub found : other.found ≡ slice_index addresses other.index

-- of as many roots as there are, this is the first that isn't the compaction's
pub record IsOtherRoot (before : HeapImage) (roots : List ℕ) (other : OtherRoot) : Type 0 where
  pub as_many : length roots ≡ root_count before
  pub least : IsLeastDifference (λ i. redirected before (root_at before i)) (slice_index roots) (root_count before) other.index
  pub expected : other.expected ≡ redirected before (root_at before other.index)
  pub found : other.found ≡ slice_index roots other.index
  pub lead : IsLead before (root_at before other.index) other.found other.lead

-- The count is that of all words below the limit that differ from the compaction's. The words listed are the first ten
-- of them, in ascending order, each with both words, and with what the compaction has there; and the last is that of all.
pub record IsExplanation (before after : HeapImage) (addresses roots : List ℕ) (limit : ℕ) (explanation : Explanation) : Type 0 where
  pub tally : IsTally (word_at (compact before)) (word_at after) limit explanation.count (map (λ (e : ExplainedWord). e.word) explanation.first.items) explanation.last
  pub words : All (IsExplained before) explanation.first.items
  pub live : MatchOption explanation.live
      (AreAlike (λ i. new_address before (object_at before i)) (slice_index addresses) (min (object_count before) (length addresses)))
      (IsOtherLive before addresses)
  pub root : MatchOption explanation.root
      (length roots ≡ root_count before → AreAlike (λ i. redirected before (root_at before i)) (slice_index roots) (root_count before))
      (IsOtherRoot before roots)
