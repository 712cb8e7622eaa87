-- Lists of a board's passes.
use Rattle.std.proofs.Common.{◌≡◌, ℕ, suc, List, [], ◌∷◌, ◌++◌, All}
use Rattle.std.proofs.lemmas.List.Elements.{All-nil, All-cons}
use Rattle.claim_board.specs.declared.pass.Pass.{Pass}
use Rattle.claim_board.specs.Boards.{board_of, held, AllOf, AllBare, ArePassesFrom}

pub all_of_front : (z : _) (ps : List Pass) (p : Pass) → AllOf z (ps ++ p ∷ []) → AllOf z ps × (board_of p ≡ z)
all_of_front z [] p all = (tt, all.0)
all_of_front z (q ∷ qs) p all = let r = all_of_front z qs p all.1 in ((all.0, r.0), r.1)

-- new passes are of their board
pub are_all : (z : _) (k : ℕ) (ps : List Pass) → ArePassesFrom z k ps → AllOf z ps
are_all z k [] are = tt
are_all z k (p ∷ ps) are = (are.0.0, are_all z (suc k) ps are.1)

-- one pass more
pub all_push : (z : _) (ps : List Pass) (p : Pass) → AllOf z ps → board_of p ≡ z → AllOf z (ps ++ p ∷ [])
all_push z [] p all is = (is, tt)
all_push z (q ∷ qs) p all is = (all.0, all_push z qs p all.1 is)

pub all_of_each : (z : _) (ps : List Pass) → AllOf z ps → All (λ p. board_of p ≡ z) ps
all_of_each z [] all = All-nil (λ p. board_of p ≡ z)
all_of_each z (p ∷ ps) all = All-cons (λ q. board_of q ≡ z) p ps all.0 (all_of_each z ps all.1)

pub all_bare_front : (ps : List Pass) (p : Pass) → AllBare (ps ++ p ∷ []) → AllBare ps × (held p ≡ [])
all_bare_front [] p all = (tt, all.0)
all_bare_front (q ∷ qs) p all = let r = all_bare_front qs p all.1 in ((all.0, r.0), r.1)

pub all_bare_push : (ps : List Pass) (p : Pass) → AllBare ps → held p ≡ [] → AllBare (ps ++ p ∷ [])
all_bare_push [] p all is = (is, tt)
all_bare_push (q ∷ qs) p all is = (all.0, all_bare_push qs p all.1 is)
