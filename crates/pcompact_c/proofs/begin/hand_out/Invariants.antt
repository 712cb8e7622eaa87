use Rattle.std.proofs.Common.{◌≡◌, ◌+◌, ℕ, List, length, take, drop, vec_len}
use Rattle.std.specs.Prelude.{All, Option, Some, option_map}
use Rattle.collector.specs.Sessions.{held_of}
use Rattle.object_heap.specs.HeapImage.{HeapImage}
use Rattle.caller_heap.specs.declared.part.Origin.{Origin}
use Rattle.heap_image.specs.SharedCheck.{UncheckedHeap}
use Rattle.caller_heap.specs.LentChecks.{IsCheckPartOf}
use Rattle.caller_heap.specs.Parts.{IsPartOf}
use Rattle.pcompact_c.specs.Checks.{IsCheckHandleOf}
use Rattle.pcompact_c.specs.Handles.{IsHandleOf}
use Rattle.pcompact_c.specs.Slides.{held_in}
use Rattle.pcompact_c.proofs.begin.hand_out.Given as goal

-- each handle so far has a part in the collection of which all are, and for each other one a part is left
abbrev pub invariant-loop-handle : goal.invariant-loop-handle
invariant-loop-handle l = record {
  long : length l.handles ≡ length l.initial.handles;
  left : vec_len l.parts + l.handle-index ≡ length l.initial.handles;
  rest : drop l.handle-index l.handles ≡ drop l.handle-index l.initial.handles;
  parts : (image : HeapImage) → (origin : Origin) → All (λ part. IsPartOf image origin part.value) l.fn.parts.items
      → All (λ part. IsPartOf image origin part.value) l.parts.items × All (IsHandleOf image origin) (take l.handle-index l.handles);
  held : (held : Option (List (List ℕ))) → All (λ part. option_map held_of part.value.share ≡ Some held) l.fn.parts.items
      → All (λ part. option_map held_of part.value.share ≡ Some held) l.parts.items × All (λ h. held_in h ≡ Some held) (take l.handle-index l.handles);
  checks : (heap : UncheckedHeap) → (origin : Origin) → All (λ part. IsCheckPartOf heap origin part.value) l.fn.parts.items
      → All (λ part. IsCheckPartOf heap origin part.value) l.parts.items × All (IsCheckHandleOf heap origin) (take l.handle-index l.handles);
}
