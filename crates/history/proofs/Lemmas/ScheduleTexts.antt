-- A schedule's text, line by line.
use Rattle.std.proofs.Common.{◌≡◌, ◌≢◌, ℕ, true, false, List, [], ◌∷◌, ◌++◌, length, get_or, sym, ap, ◌∙◌, subst, append_assoc}
use Rattle.std.specs.Prelude.{IsTrue, flat_map, ◌==◌}
use Rattle.std.proofs.lemmas.Bool.{false≢true}
use Rattle.std.proofs.lemmas.List.{append-nil}
use Rattle.std.proofs.lemmas.List.Elements.{All-push}
use Rattle.std.proofs.lemmas.Grind.{flat_map-append}
use Rattle.scheduler.specs.Schedule.{ScheduleView, IsSchedule, is_line}
use Rattle.history.specs.ReadSchedule.{is_text_line, IsTextSchedule}
use Rattle.history.specs.Verb.{has_numbers}
use Rattle.std.proofs.lemmas.Bool.{and_parts}
use Rattle.history.specs.ScheduleText.{line_text, header_text, schedule_text}
use Rattle.scheduler.specs.declared.schedule.line.Line.{Line}

-- the text of one line more
pub text_more : (workers : ℕ) (lines : List Line) (l : Line) → schedule_text (record { workers = workers; lines = lines ++ l ∷ [] }) ≡ schedule_text (record { workers = workers; lines = lines }) ++ line_text l
text_more workers lines l =
    ap (λ (t : List ℕ). header_text workers ++ t) (flat_map-append line_text lines (l ∷ []) ∙ ap (λ (t : List ℕ). flat_map line_text lines ++ t) (append-nil (line_text l)))
    ∙ sym (append_assoc (header_text workers) (flat_map line_text lines) (line_text l))

-- what holds after one more line is read
pub record IsRead (bytes : List ℕ) (workers : ℕ) (lines : List Line) (rest : List ℕ) : Type 0 where
  pub kept : IsTextSchedule (record { workers = workers; lines = lines })
  pub is : bytes ≡ schedule_text (record { workers = workers; lines = lines }) ++ rest

pub read_more : (bytes : List ℕ) (workers : ℕ) (lines lines' : List Line) (l : Line) (rest after : List ℕ) → lines' ≡ lines ++ l ∷ [] → IsTextSchedule (record { workers = workers; lines = lines })
    → bytes ≡ schedule_text (record { workers = workers; lines = lines }) ++ rest → is_text_line workers l ≡ true → rest ≡ line_text l ++ after → IsRead bytes workers lines' after
read_more bytes workers lines lines' l rest after more kept is formed next =
    let all : IsRead bytes workers (lines ++ l ∷ []) after =
    record {
      kept = record { some = kept.some; few = kept.few; lines = All-push (λ line. IsTrue (is_text_line workers line)) lines l kept.lines formed };
      is = is ∙ (ap (λ (t : List ℕ). schedule_text (record { workers = workers; lines = lines }) ++ t) next
          ∙ (sym (append_assoc (schedule_text (record { workers = workers; lines = lines })) (line_text l) after)
          ∙ ap (λ (t : List ℕ). t ++ after) (sym (text_more workers lines l))));
    } in
    subst (λ (ls : List Line). IsRead bytes workers ls after) (sym more) all

pub not_empty : (rest : List ℕ) → (length rest == 0) ≡ false → rest ≢ []
not_empty rest h e = false≢true (sym h ∙ ap (λ (t : List ℕ). length t == 0) e)

-- lines that a text may have form a schedule
pub text_schedule : (v : ScheduleView) → IsTextSchedule v → IsSchedule v
text_schedule v f =
    record {
      some = f.some;
      few = f.few;
      lines = λ k d l. (and_parts (is_line v.workers (get_or v.lines k d)) (has_numbers (get_or v.lines k d).event) (f.lines k d l)).0;
    }
