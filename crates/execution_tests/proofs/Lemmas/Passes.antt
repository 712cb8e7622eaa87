-- Lists of a board's passes.
use Rattle.std.proofs.Common.{◌≡◌, ℕ, suc, List, [], ◌∷◌, ◌++◌}
use Rattle.claim_board.specs.declared.pass.Pass.{Pass}
use Rattle.claim_board.specs.Boards.{board_of, held, AllOf, AllBare, ArePassesFrom}

-- what all passes have, the last has
pub last_of_all : (z : _) (ps : List Pass) (p : Pass) → AllOf z (ps ++ p ∷ []) → board_of p ≡ z
last_of_all z [] p all = all.0
last_of_all z (q ∷ qs) p all = last_of_all z qs p all.1

pub last_is_bare : (ps : List Pass) (p : Pass) → AllBare (ps ++ p ∷ []) → held p ≡ []
last_is_bare [] p all = all.0
last_is_bare (q ∷ qs) p all = last_is_bare qs p all.1

-- new passes are of their board
pub are_all : (z : _) (k : ℕ) (ps : List Pass) → ArePassesFrom z k ps → AllOf z ps
are_all z k [] are = tt
are_all z k (p ∷ ps) are = (are.0.0, are_all z (suc k) ps are.1)
