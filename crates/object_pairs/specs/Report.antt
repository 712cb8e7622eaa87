-- The report of a comparison.
use Rattle.std.specs.Prelude.{◌≡◌, ℕ, Bool, true, false, List, ◌++◌}
use Rattle.object_pairs.specs.Comparison.{IsComparison, verdict_of}
use Rattle.object_pairs.specs.Json.{comparison_object}
use Rattle.object_pairs.specs.Pairing.{IsPairing}
use Rattle.object_pairs.specs.Text.{comparison_text}
use Rattle.object_pairs.specs.declared.comparison.Comparison.{Comparison}
use Rattle.object_pairs.specs.declared.comparison.Verdict.{Verdict}
use Rattle.object_pairs.specs.declared.graph.Graph.{Graph}
use Rattle.object_pairs.specs.declared.pairing.Pairing.{Pairing}

-- as an object; or as lines, behind which details may stand, of which nothing is said
pub record IsShown (c : Comparison) (json : Bool) (text : List ℕ) : Type 0 where
  pub object : json ≡ true → text ≡ comparison_object c
  pub lines : json ≡ false → (details : List ℕ) × (text ≡ comparison_text c ++ details)

-- the report of a comparison of two graphs, by pairs that are one-to-one and of one class and size, and its verdict
pub record IsReportOf (before after : Graph) (json : Bool) (text : List ℕ) (verdict : Verdict) : Type 0 where
  pub pairing : Pairing
  pub pairs : IsPairing before.objects.items after.objects.items pairing
  pub comparison : Comparison
  pub compared : IsComparison before after pairing.partners.items comparison
  pub shown : IsShown comparison json text
  pub says : verdict ≡ verdict_of comparison
