use Rattle.std.proofs.Common.{◌≡◌, ◌+◌, ◌≤◌, All, vec_len}
use Rattle.std.specs.Vec.{vec_capacity}
use Rattle.caller_heap.specs.LentChecks.{IsCheckPartOf}
use Rattle.caller_heap.specs.declared.part.Origin.{Origin}
use Rattle.caller_heap.proofs.lent_check.with_checks.Given as goal

-- the parts that have a share, and what is left
abbrev pub invariant-loop-part : goal.invariant-loop-part
invariant-loop-part l = record {
  count : vec_len l.parts + vec_len l.whole ≡ vec_len l.fn.parts;
  room : vec_len l.fn.parts ≤ vec_capacity l.whole;
  parts : (origin : Origin) → All (λ part. part.value.origin ≡ origin) l.fn.parts.items
      → All (λ part. part.value.origin ≡ origin) l.parts.items × All (λ part. IsCheckPartOf l.fn.share origin part.value) l.whole.items;
}

abbrev pub decreases-loop-part : goal.decreases-loop-part
decreases-loop-part l = vec_len l.parts
