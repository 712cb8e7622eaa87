-- Where partners differ.
use Rattle.std.specs.Prelude.{ℕ, ◌-◌, Bool, false, not, ◌&&◌, ◌==◌, if◌then◌else◌, List, count_by, length, map, min, slice_index, slice_index_or, sum}
use Rattle.std.specs.List.{range_with_len, zip}
use Rattle.object_pairs.specs.Graph.{references_of}
use Rattle.object_pairs.specs.declared.graph.Graph.{Graph}
use Rattle.object_pairs.specs.declared.graph.Object.{Object}
use Rattle.object_pairs.specs.declared.paired.conflict.Conflict.{Conflict}
use Rattle.object_pairs.specs.declared.paired.conflict.Conflict.TheVariants.{Cleared, Filled, Elsewhere}

-- a sum as a u64 has it: a larger one is the largest
abbrev pub held : ℕ → ℕ
held sum = min sum 18446744073709551615

-- a reference before and the one at its place after, both counted from 1 or 0, are in this conflict
abbrev pub is_in : Conflict → List ℕ → ℕ → ℕ → Bool
is_in Cleared partners r s = not (r == 0) && (s == 0)
is_in Filled partners r s = (r == 0) && not (s == 0)
is_in Elsewhere partners r s = not (r == 0) && (not (s == 0) && not (slice_index partners (r - 1) == s))

-- where no object is
abbrev pub no_object : Object
no_object = record { id = 0; first = 0; data_bytes = 0; checksum = 0; class = 0; references = 0 }

-- the object with this index
abbrev pub object_at : List Object → ℕ → Object
object_at objects i = slice_index_or objects i no_object

-- how many references of the i-th object before are in this conflict with those of its partner
abbrev pub conflicts_at : Conflict → Graph → Graph → List ℕ → ℕ → ℕ
conflicts_at kind before after partners i =
    if slice_index partners i == 0 then 0 else count_by (λ x. is_in kind partners x.0 x.1)
    (zip (references_of before.references.items (object_at before.objects.items i))
    (references_of after.references.items (object_at after.objects.items (slice_index partners i - 1))))

-- how many there are of all objects
abbrev pub conflicts_in : Conflict → Graph → Graph → List ℕ → ℕ
conflicts_in kind before after partners =
    held (sum (map (conflicts_at kind before after partners) (range_with_len 0 (length before.objects.items))))

-- the i-th object before has another checksum than its partner
abbrev pub changed_at : List Object → List Object → List ℕ → ℕ → Bool
changed_at before after partners i =
    if slice_index partners i == 0 then false
    else not ((object_at before i).checksum == (object_at after (slice_index partners i - 1)).checksum)

-- how many objects have
abbrev pub changed_in : List Object → List Object → List ℕ → ℕ
changed_in before after partners =
    held (sum (map (λ i. if changed_at before after partners i then 1 else 0) (range_with_len 0 (length before))))
