use Rattle.std.specs.Prelude.{◌≡◌, ℕ, Bool, true, false, List, Option, IfSome, codes}
use Rattle.std.specs.Io.KnownBytes.{Consumes}
use Rattle.object_heap.specs.HeapImage.{HeapImage, IsValid}
use Rattle.heap_image.specs.ImageText.{text}
use Rattle.heap_image.specs.Refusals.{IsReason}
use Rattle.image_streams.specs.declared.fault.Fault.TheVariants.{Memory}
use Rattle.summary.specs.NewAddresses.{new_top}
use Rattle.summary.specs.Compaction.{compact}
use Rattle.verification.specs.Verdict.{IsVerdict, IsVerdictBelow}
use Rattle.verification.specs.declared.verdict.Verdict.{Verdict}
use Rattle.verification.specs.declared.verdict.Verdict.TheVariants.{Shape, Word, Live, Root}
use Rattle.command_support.specs.declared.difference.Difference.{Difference}
use Rattle.collection_commands.specs.declared.verify.Unverified.{Unverified}
use Rattle.command_support.specs.Command.{Command}

-- the verdict on an image beside the compaction of another, where the words from the new top up are compared or not
abbrev pub IsVerdictOn : Bool → HeapImage → HeapImage → Verdict → Type 0
IsVerdictOn true was is verdict = IsVerdictBelow (new_top was) (compact was) is verdict
IsVerdictOn false was is verdict = IsVerdict (compact was) is verdict

-- each device gave the text of a valid image, and this is the verdict on the second beside the compaction of the first
abbrev pub IsVerdictOf : Bool → Option (List ℕ) → Option (List ℕ) → Option (List ℕ) → Option (List ℕ) → Verdict → Type 0
IsVerdictOf ignores_free before before' after after' verdict = (was is : HeapImage) × IsValid was × IsValid is
    × Consumes before before' (text was) × Consumes after after' (text is) × IsVerdictOn ignores_free was is verdict

-- the verdict that names a difference
abbrev pub verdict_of : Difference → Verdict
verdict_of Difference.Shape = Shape
verdict_of (Difference.Word address) = Word address
verdict_of (Difference.Live index) = Live index
verdict_of (Difference.Root index) = Root index

-- The fault is a reason to refuse the first input; or to refuse the second, once the whole first was read as the text of an
-- image; or memory ran out in the comparison.
abbrev pub IsUnverified : Option (List ℕ) → Option (List ℕ) → Option (List ℕ) → Unverified → Type 0
IsUnverified before before' after (Unverified.Before fault) = IfSome before (λ bytes. IsReason bytes fault)
IsUnverified before before' after (Unverified.After fault) = ((image : HeapImage) × IsValid image
    × Consumes before before' (text image)) × IfSome after (λ bytes. IsReason bytes fault)
IsUnverified before before' after (Unverified.Neither fault) = fault ≡ Memory

abbrev pub verify_command : Command
verify_command = record { name = codes "verify"; prints = (λ shown. shown ≡ codes "same\n") }
