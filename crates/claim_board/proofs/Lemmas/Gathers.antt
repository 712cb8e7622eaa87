-- Passes gathered in one seat.
use Rattle.std.proofs.Common.{◌≡◌, ℕ, List, [], ◌∷◌, ◌++◌, length, arith, refl, sym, ap, ◌∙◌, subst}
use Rattle.atomic_table.specs.Seated.{TableId}
use Rattle.scheduler.specs.declared.entry.Entry.{Entry}
use Rattle.scheduler.specs.History.{BeginsWith, calls_by}
use Rattle.claim_board.specs.declared.pass.Pass.{Pass}
use Rattle.claim_board.specs.declared.rule.view.Hold.{Hold}
use Rattle.claim_board.specs.declared.rule.view.View.{View}
use Rattle.claim_board.specs.Views.{AllFit, IsPassView, worker_of, seen_of, mine_of}
use Rattle.claim_board.specs.Boards.{board_of, held, AllOf, AllBare, AllStand, Covers}

pub all_of_front : (z : TableId) (ps : List Pass) (p : Pass) → AllOf z (ps ++ p ∷ []) → AllOf z ps × (board_of p ≡ z)
all_of_front z [] p all = (tt, all.0)
all_of_front z (q ∷ qs) p all = let r = all_of_front z qs p all.1 in ((all.0, r.0), r.1)

fit_parts : (n : ℕ) (log : List Entry) (xs ys : List Hold) → AllFit n log (xs ++ ys) → AllFit n log xs × AllFit n log ys
fit_parts n log [] ys fits = (tt, fits)
fit_parts n log (x ∷ xs) ys fits = let r = fit_parts n log xs ys fits.1 in ((fits.0, r.0), r.1)

stands : (n : ℕ) (log : List Entry) (v : View) → IsPassView v → AllFit n log v.holds → BeginsWith log (seen_of v) × (calls_by (worker_of v) log ≡ mine_of v)
stands n log v is fits = let f = subst (λ (u : View). AllFit n log u.holds) is fits in (f.0.begins, f.0.calls)

pub bare_front : (ps : List Pass) (p : Pass) → AllBare (ps ++ p ∷ []) → AllBare ps × (held p ≡ [])
bare_front [] p all = (tt, all.0)
bare_front (q ∷ qs) p all = let r = bare_front qs p all.1 in ((all.0, r.0), r.1)

-- the passes of a board without slots hold none
pub all_bare : (z : TableId) (ps : List Pass) → AllOf z ps → z.slots ≡ 0 → AllBare ps
all_bare z [] all none = tt
all_bare z (p ∷ ps) all none = (p.bare (ap (λ y. y.slots) all.0 ∙ none), all_bare z ps all.1 none)

pub covers_one : (n : ℕ) (p : Pass) → IsPassView p.place.me.0 → Covers n p.place.me.0.holds (p ∷ [])
covers_one n p is log fits = (stands n log p.place.me.0 is fits, tt)

pub covers_more : (n : ℕ) (hs hs' : List Hold) (p : Pass) (ps : List Pass) → IsPassView p.place.me.0 → hs' ≡ hs ++ p.place.me.0.holds → Covers n hs ps → Covers n hs' (p ∷ ps)
covers_more n hs hs' p ps is more covers log fits =
    let f = fit_parts n log hs p.place.me.0.holds (subst (AllFit n log) more fits) in
    (stands n log p.place.me.0 is f.1, covers log f.0)

empty_of : (ps : List Pass) → length ps ≡ 0 → ps ≡ []
empty_of [] e = refl
empty_of (p ∷ ps) e = absurd (omega arith)

-- once no pass is left, all were gathered
pub all_stand : (n : ℕ) (log : List Entry) (hs : List Hold) (all left popped : List Pass) → length left ≡ 0 → all ≡ left ++ popped → Covers n hs popped → AllFit n log hs → AllStand log all
all_stand n log hs all left popped none is covers fits = subst (AllStand log) (sym (is ∙ ap (λ l. l ++ popped) (empty_of left none))) (covers log fits)
