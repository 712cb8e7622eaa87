use Rattle.std.proofs.Common.{◌≡◌, ◌+◌, ◌≤◌, ℕ, List, All, vec_len}
use Rattle.std.specs.Prelude.{Option, Some, option_map}
use Rattle.std.specs.Vec.{vec_capacity}
use Rattle.object_heap.specs.HeapImage.{HeapImage}
use Rattle.collector.specs.Sessions.{image_of, held_of}
use Rattle.caller_heap.specs.Parts.{IsPartOf}
use Rattle.caller_heap.specs.declared.part.Origin.{Origin}
use Rattle.caller_heap.proofs.part.with_shares.Given as goal

-- the parts that have a share, and what is left
abbrev pub invariant-loop-part : goal.invariant-loop-part
invariant-loop-part l = record {
  count : vec_len l.parts + vec_len l.whole ≡ vec_len l.fn.parts;
  same : vec_len l.parts ≡ vec_len l.shares;
  room : vec_len l.fn.parts ≤ vec_capacity l.whole;
  parts : (image : HeapImage) (origin : Origin) → All (λ share. image_of share ≡ image) l.fn.shares.items → All (λ part. part.value.origin ≡ origin) l.fn.parts.items
      → All (λ share. image_of share ≡ image) l.shares.items × All (λ part. part.value.origin ≡ origin) l.parts.items × All (λ part. IsPartOf image origin part.value) l.whole.items;
  held : (held : Option (List (List ℕ))) → All (λ share. held_of share ≡ held) l.fn.shares.items
      → All (λ share. held_of share ≡ held) l.shares.items × All (λ part. option_map held_of part.value.share ≡ Some held) l.whole.items;
}

abbrev pub decreases-loop-part : goal.decreases-loop-part
decreases-loop-part l = vec_len l.parts
