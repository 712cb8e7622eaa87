-- A granted region has no pending readers.
use Rattle.std.proofs.Common.{◌≡◌, ℕ, false, List, [], ◌∷◌, ◌++◌, refl, sym, ap, ◌∙◌, eq-eqb, append_assoc}
use Rattle.std.proofs.lemmas.List.{append-nil}
use Rattle.scheduler.specs.declared.event.Event.TheVariants.{Claim}
use Rattle.scheduler.specs.declared.reply.Reply.TheVariants.{Yes}
use Rattle.scheduler.specs.declared.entry.Entry.{Entry}
use Rattle.scheduler.specs.MoveTable.{MoveTable}
use Rattle.scheduler.specs.State.{is_pending}
use Rattle.scheduler.specs.History.{entry, state_of, IsLegal, IsOrderly}
use Rattle.claim_board.specs.Rule.{Extends}
use Rattle.claim_board.specs.Grants.{IsGranted}

-- the law of histories
abbrev pub Orderly : Type 0
Orderly = (m : MoveTable) (workers : ℕ) (log : List Entry) → IsLegal m workers log → IsOrderly m log

-- in any legal history that continues after the grant
read_later : Orderly → (m : MoveTable) (n w r : ℕ) (before later log : List Entry) → IsLegal m n log → log ≡ (before ++ entry w (Claim r) Yes ∷ []) ++ later
    → (d : ℕ) → is_pending m (state_of log) d r ≡ false
read_later law m n w r before later log legal is d =
    let e = entry w (Claim r) Yes in
    let at : log ≡ before ++ e ∷ later = is ∙ append_assoc before (e ∷ []) later in
    ap (λ (l : List Entry). is_pending m (state_of l) d r) at
    ∙ (law m n log legal).stays_read before later [] e r d
    (at ∙ ap (λ (l : List Entry). before ++ e ∷ l) (sym (append-nil later)))
    (eq-eqb r r refl)

pub granted : Orderly → (m : MoveTable) (n w r : ℕ) (seen mine seen' mine' : List Entry) → Extends m n w seen mine (Claim r) Yes seen' mine' → IsGranted m n r seen'
granted law m n w r seen mine seen' mine' x =
    record {
      now = read_later law m n w r x.before [] seen' x.legal (x.seen_is ∙ sym (append-nil (x.before ++ entry w (Claim r) Yes ∷ [])));
      later = λ log legal begins d.
          read_later law m n w r x.before begins.0 log legal (begins.1 ∙ ap (λ (l : List Entry). l ++ begins.0) x.seen_is) d;
    }
