-- A fault that passes through keeps its reason.
use Rattle.std.proofs.Common.{◌≡◌, ℕ, List, Option, Some, None, inl, inr, refl, sym, subst}
use Rattle.std.specs.Prelude.{IfSome}
use Rattle.std.specs.Io.KnownBytes.{Consumes}
use Rattle.object_heap.specs.HeapImage.{HeapImage, IsValid}
use Rattle.heap_image.specs.ImageText.{text}
use Rattle.heap_image.specs.Refusals.{IsOfReading, IsReason}
use Rattle.image_streams.specs.declared.fault.Fault.{Fault}
use Rattle.image_streams.specs.declared.fault.Fault.TheVariants.{Memory}
use Rattle.scheduler.specs.Schedule.{ScheduleView}
use Rattle.history.specs.ScheduleText.{schedule_text}
use Rattle.heap_commands.specs.Unreplayed.{IsReplayRefused, IsScheduleUnread, IsUnreplayed}

pub image_refused : (left left' schedule : Option (List ℕ)) (first fault : Fault) → fault ≡ first
    → IsOfReading first → IfSome left (λ bytes. IsReason bytes first) → IsUnreplayed left left' schedule fault
image_refused left left' schedule first fault is kind reason =
    subst (IsUnreplayed left left' schedule) (sym is) (inl (record { kind = kind; reason = reason }))

pub schedule_unread : (left left' schedule : Option (List ℕ)) (image : HeapImage) (first fault : Fault) → fault ≡ first
    → IsValid image → Consumes left left' (text image) → IsScheduleUnread schedule first → IsUnreplayed left left' schedule fault
schedule_unread left left' schedule image first fault is valid read unread =
    subst (IsUnreplayed left left' schedule) (sym is) (inr (record { image = image; valid = valid; read = read; reason = inl unread }))

pub replay_stopped : (left left' schedule : Option (List ℕ)) (image : HeapImage) (v : ScheduleView) (first fault : Fault) → fault ≡ first
    → IsValid image → Consumes left left' (text image) → IfSome schedule (λ bytes. bytes ≡ schedule_text v)
    → IsReplayRefused image v first → IsUnreplayed left left' schedule fault
replay_stopped left left' schedule image v first fault is valid read whole refused =
    subst (IsUnreplayed left left' schedule) (sym is) (inr (record {
      image = image;
      valid = valid;
      read = read;
      reason = inr (record { schedule = v; whole = whole; refused = refused });
    }))

pub memory_is_a_reason : (left : Option (List ℕ)) → IfSome left (λ bytes. IsReason bytes Memory)
memory_is_a_reason None = tt
memory_is_a_reason (Some bytes) = inl refl

pub out_of_memory : (left left' schedule : Option (List ℕ)) (fault : Fault) → fault ≡ Memory → IsUnreplayed left left' schedule fault
out_of_memory left left' schedule fault is =
    image_refused left left' schedule Memory fault is tt (memory_is_a_reason left)
