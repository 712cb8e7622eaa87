-- Tables of first calls, after one call more.
use Rattle.std.proofs.Common.{◌≡◌, ◌≢◌, ◌∙◌, ◌<◌, ◌+◌, ℕ, List, Option, Some, None, take, length, get_or, inl, inr, ap, sym, subst}
use Rattle.std.specs.Prelude.{slice_index_or}
use Rattle.std.proofs.lemmas.Bool.{cases_eq, eq-eqb, ne_eqb}
use Rattle.scheduler.specs.declared.entry.Entry.{Entry}
use Rattle.schedule_timeline.specs.declared.timeline.call.Call.{Call}
use Rattle.schedule_timeline.specs.declared.timeline.deed.Deed.{Deed}
use Rattle.schedule_timeline.specs.FirstCalls.{AreFirst, earlier_of}
use Rattle.schedule_timeline.specs.Timeline.{call_at, does, first_call, is_region}
use Rattle.schedule_timeline.proofs.Lemmas.Calls.{first_if, first_unless}

module _ (deed : Deed) (regions : ℕ) (log : List Entry) (i : ℕ) (d : Entry) (calls calls' : List (Option Call)) where
  -- a call that does the deed to no region
  pub same : i < length log → AreFirst deed regions (take i log) calls
      → ((r : ℕ) → does deed r (get_or log i d) ≡ is_region r None) → calls' ≡ calls → AreFirst deed regions (take (i + 1) log) calls'
  same inside before none kept = record {
    all = ap length kept ∙ before.all;
    each = λ r few. ap (λ (list : List (Option Call)). slice_index_or list r None) kept ∙ before.each r few
        ∙ sym (first_unless (does deed r) log i d inside (none r));
  }

  -- a call that does it to this region
  pub noted : (region : ℕ) (call : Call) → i < length log → AreFirst deed regions (take i log) calls
      → ((r : ℕ) → does deed r (get_or log i d) ≡ is_region r (Some region)) → call ≡ call_at (i, get_or log i d)
      → length calls' ≡ length calls
      → ((r : ℕ) → r ≢ region → slice_index_or calls' r None ≡ slice_index_or calls r None)
      → (region < length calls → slice_index_or calls' region None ≡ earlier_of (slice_index_or calls region None) call)
      → AreFirst deed regions (take (i + 1) log) calls'
  noted region call inside before tells is long others this = record {
    all = long ∙ before.all;
    each = λ r few. elim (cases_eq r region) [
      | inl e ↦
          let here = subst (λ q. slice_index_or calls' q None ≡ earlier_of (slice_index_or calls q None) call) (sym e)
          (this (subst (λ q. q < length calls) e (subst (λ n. r < n) (sym before.all) few))) in
          here
          ∙ ap (λ (old : Option Call). earlier_of old call) (before.each r few)
          ∙ ap (earlier_of (first_call (does deed r) (take i log))) is
          ∙ sym (first_if (does deed r) log i d inside (tells r ∙ eq-eqb r region e))
      | inr apart ↦ others r apart ∙ before.each r few ∙ sym (first_unless (does deed r) log i d inside (tells r ∙ ne_eqb r region apart))
    ];
  }
