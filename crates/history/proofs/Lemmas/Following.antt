-- A schedule that is followed line by line.
use Rattle.std.proofs.Common.{◌≡◌, ℕ, suc, ◌+◌, ◌<◌, ◌≤◌, Bool, take_all, None, List, [], ◌∷◌, ◌++◌, length, get_or, take, drop, sym, ap, ◌∙◌, subst, arith}
use Rattle.std.specs.Prelude.{IsTrue, ◌↔◌, unwrap_or}
use Rattle.std.proofs.lemmas.Option.{slice_get-get_or}
use Rattle.scheduler.specs.declared.reply.Reply.{Reply}
use Rattle.std.proofs.Math.Seq.{take-suc, drop-cons}
use Rattle.std.proofs.lemmas.List.{take-append-drop, length-take-le}
use Rattle.object_heap.specs.HeapImage.{HeapImage}
use Rattle.scheduler.specs.MoveTable.{MoveTable}
use Rattle.scheduler.specs.State.{State, AllAreSettled}
use Rattle.scheduler.specs.Scheduler.{state_in}
use Rattle.scheduler.specs.ImageMoves.{image_table}
use Rattle.scheduler.specs.Schedule.{ScheduleView}
use Rattle.scheduler.specs.declared.event.Event.TheVariants.{Claim}
use Rattle.scheduler.specs.History.{entry}
use Rattle.history.specs.WordMachine.{machine_start, machine_of}
use Rattle.history.specs.Replay.{IsCallOfLine, IsReplay, IsRefusedAt, IsChecked}
use Rattle.history.specs.LineCause.{IsExplained}
use Rattle.history.specs.Ledger.{IsLedger, Tells, Leads, RefusesLine, HasCause}
use Rattle.scheduler.specs.declared.entry.Entry.{Entry}
use Rattle.history.specs.declared.machine.ledger.Ledger.{Ledger}
use Rattle.scheduler.specs.declared.schedule.line.Line.{Line}
use Rattle.history.specs.declared.machine.line_cause.LineCause.{LineCause}
use Rattle.history.proofs.Lemmas.Machines.{replay_more, machine_of-push}

-- the first lines are taken, and the machine after them is one of the ledger
pub record IsFollowed (image : HeapImage) (v : ScheduleView) (number : ℕ) (ledger : Ledger) : Type 0 where
  pub kept : IsLedger image v.workers ledger
  pub log : List Entry
  pub taken : IsReplay image v.workers (take number v.lines) log
  pub tells : Tells ledger (machine_of image log)

pub followed_first : (image : HeapImage) (v : ScheduleView) (ledger : Ledger) → IsLedger image v.workers ledger → Tells ledger (machine_start image) → IsFollowed image v 0 ledger
followed_first image v ledger kept tells = record { kept = kept; log = []; taken = record { calls = tt; allowed = tt }; tells = tells }

-- one line more
unfoldable pub followed_more : (image : HeapImage) (v : ScheduleView) (number : ℕ) (old new : Ledger) (line : Line) (e : Entry) → IsFollowed image v number old
    → take (suc number) v.lines ≡ take number v.lines ++ line ∷ [] → IsCallOfLine line e → Leads image v.workers old e new → IsLedger image v.workers new → IsFollowed image v (suc number) new
followed_more image v number old new line e followed more call leads kept =
    let steps = leads (machine_of image followed.log) followed.tells in
    record {
      kept = kept;
      log = followed.log ++ e ∷ [];
      taken = subst (λ (ls : List Line). IsReplay image v.workers ls (followed.log ++ e ∷ [])) (sym more) (replay_more image v.workers (take number v.lines) followed.log line e followed.taken call steps.0);
      tells = subst (Tells new) (sym (machine_of-push image followed.log e)) steps.1;
    }

take_split : (lines : List Line) (number : ℕ) (d : Line) → number < length lines → lines ≡ take number lines ++ get_or lines number d ∷ drop (suc number) lines
take_split lines number d inside = sym (take-append-drop number lines) ∙ ap (λ (ls : List Line). take number lines ++ ls) (drop-cons lines number d inside)

-- the default item, if there is no line
abbrev pub no_line : Line
no_line = record { worker = 0; event = Claim 0; reply = None }

-- an item of the list
pub item_is : (items : List Line) (number : ℕ) (line : Line) → number < length items → line ≡ get_or items number line → line ≡ get_or items number no_line
item_is items number line inside is = is ∙ ap (λ o. unwrap_or o line) (sym (slice_get-get_or items number line inside) ∙ slice_get-get_or items number no_line inside)

-- a line that the ledger refuses is the least one
pub refused_at : (image : HeapImage) (v : ScheduleView) (items : List Line) (number : ℕ) (ledger : Ledger) → items ≡ v.lines → IsFollowed image v number ledger → number < length items
    → RefusesLine image ledger.scheduler.workers ledger (get_or items number no_line) → IsRefusedAt image v (number + 2)
refused_at image v items number ledger same followed inside refuses =
    let inside' : number < length v.lines = subst (λ (ls : List Line). number < length ls) same inside in
    let refuses' : RefusesLine image v.workers ledger (get_or v.lines number no_line) =
    subst (λ (n : ℕ). RefusesLine image n ledger (get_or v.lines number no_line)) followed.kept.workers
    (subst (λ (ls : List Line). RefusesLine image ledger.scheduler.workers ledger (get_or ls number no_line)) same refuses) in
    record {
      before = take number v.lines;
      line = get_or v.lines number no_line;
      after = drop (suc number) v.lines;
      split = take_split v.lines number no_line inside';
      number_is = ap (λ (n : ℕ). n + 2) (sym (length-take-le number v.lines (omega arith)));
      log = followed.log;
      taken = followed.taken;
      refused = refuses' (machine_of image followed.log) followed.tells;
    }

-- and the ledger's cause is the machine's
pub explained_at : (image : HeapImage) (v : ScheduleView) (items : List Line) (number : ℕ) (ledger : Ledger) (cause : LineCause) → items ≡ v.lines → IsFollowed image v number ledger → number < length items
    → RefusesLine image ledger.scheduler.workers ledger (get_or items number no_line) → HasCause image ledger.scheduler.workers ledger (get_or items number no_line) cause
    → IsExplained image v (record { number = number + 2; cause = cause })
unfolding refused_at
explained_at image v items number ledger cause same followed inside refuses has =
    let has' : HasCause image v.workers ledger (get_or v.lines number no_line) cause =
    subst (λ (n : ℕ). HasCause image n ledger (get_or v.lines number no_line) cause) followed.kept.workers
    (subst (λ (ls : List Line). HasCause image ledger.scheduler.workers ledger (get_or ls number no_line) cause) same has) in
    record {
      refused = refused_at image v items number ledger same followed inside refuses;
      cause = has' (machine_of image followed.log) followed.tells;
    }

-- a line that the ledger takes
unfoldable pub followed_by : (image : HeapImage) (v : ScheduleView) (items : List Line) (number : ℕ) (old new : Ledger) (line : Line) (r : Reply) → items ≡ v.lines → IsFollowed image v number old → number < length items
    → line ≡ get_or items number no_line → IsCallOfLine line (entry line.worker line.event r) → Leads image old.scheduler.workers old (entry line.worker line.event r) new → IsLedger image old.scheduler.workers new
    → IsFollowed image v (suc number) new
followed_by image v items number old new line r same followed inside there call leads kept =
    let e : Entry = entry line.worker line.event r in
    let inside' : number < length v.lines = subst (λ (ls : List Line). number < length ls) same inside in
    let more : take (suc number) v.lines ≡ take number v.lines ++ line ∷ [] =
    take-suc v.lines number no_line inside' ∙ (ap (λ (ls : List Line). take number v.lines ++ get_or ls number no_line ∷ []) (sym same) ∙ ap (λ (l : Line). take number v.lines ++ l ∷ []) (sym there)) in
    followed_more image v number old new line e followed more call
    (subst (λ (n : ℕ). Leads image n old e new) followed.kept.workers leads) (subst (λ (n : ℕ). IsLedger image n new) followed.kept.workers kept)

-- all lines are taken
unfoldable pub followed_all : (image : HeapImage) (v : ScheduleView) (items : List Line) (number : ℕ) (ledger : Ledger) (done : Bool) → items ≡ v.lines → IsFollowed image v number ledger → length items ≤ number
    → IsTrue done ↔ AllAreSettled ledger.scheduler.moves (state_in ledger.scheduler) → IsChecked image v done
followed_all image v items number ledger done same followed all tells =
    record {
      log = followed.log;
      taken = subst (λ (ls : List Line). IsReplay image v.workers ls followed.log) (take_all number v.lines (subst (λ (ls : List Line). length ls ≤ number) same all)) followed.taken;
      tells = subst (λ (k : State). IsTrue done ↔ AllAreSettled (image_table image) k) (sym followed.tells.known) (subst (λ (m : MoveTable). IsTrue done ↔ AllAreSettled m (state_in ledger.scheduler)) followed.kept.moves tells);
    }
