-- A whole collection of a heap in a host's layout.
use Rattle.std.proofs.Common.{ℕ, List}
use Rattle.std.specs.Prelude.{None}
use Rattle.object_heap.specs.HeapImage.{HeapImage, with_live}
use Rattle.summary.specs.SameGraph.{IsSameGraph}

-- the heap with these objects, to be planned with these regions and this allowance
abbrev pub planned : HeapImage → ℕ → ℕ → List ℕ → HeapImage
planned heap log allowance live = record heap { region_log = log; allowance = allowance; live = live; roots = None }

-- neither regions nor the allowance are part of a graph
pub graph-of_heap : (heap : HeapImage) (log allowance : ℕ) (live words new : List ℕ) → IsSameGraph (planned heap log allowance live) (record (planned heap log allowance live) { words = words; live = new; roots = None })
    → IsSameGraph (with_live heap live) (with_live (record heap { words = words }) new)
graph-of_heap heap log allowance live words new g = record { objects = g.objects; headers = g.headers; null = g.null; references = g.references; others = g.others }
