-- Lists of workers and of passes.
use Rattle.std.proofs.Common.{◌≡◌, ℕ, zero, suc, ◌+◌, ◌<◌, List, [], ◌∷◌, ◌++◌, length, get_or, ap, ◌∙◌, subst, arith}
use Rattle.std.specs.Prelude.{All, map}
use Rattle.std.proofs.lemmas.List.{get_or_append_left, length_push, length-map}
use Rattle.std.proofs.lemmas.List.Elements.{All-head, All-tail}
use Rattle.std.proofs.Math.Seq.{get_or-append_seam}
use Rattle.claim_board.specs.declared.pass.Pass.{Pass}
use Rattle.claim_board.specs.Boards.{board_of, worker, caller, held, AllOf, AllBare, ArePassesFrom, ArePasses}
use Rattle.claim_board.specs.Callers.{Caller}
use Rattle.collector.specs.Rest.{AreFresh}

-- what holds of each element holds of the front and of the last element
pub front_and_last : {X : Type 0} (P : X → Type 0) (all front : List X) (last : X) → all ≡ front ++ last ∷ [] → All P all → All P front × P last
front_and_last P all front last is each =
    let more : length all ≡ length front + 1 = ap length is ∙ length_push front last in (
      (λ k d below. subst P (ap (λ l. get_or l k d) is ∙ get_or_append_left front (last ∷ []) d k below) (each k d (omega (arith, below)))),
      subst P (ap (λ l. get_or l (length front) last) is ∙ get_or-append_seam front last [] last) (each (length front) last (omega arith)),
    )

-- each pass is one of the board's, by recursion
pub all_of : (board : _) (passes : List Pass) → All (λ p. board_of p ≡ board) passes → AllOf board passes
all_of board [] all = tt
all_of board (p ∷ ps) all = (All-head (λ q. board_of q ≡ board) p ps all, all_of board ps (All-tail (λ q. board_of q ≡ board) p ps all))

-- each of the new passes is one of the board's
seated : (board : _) (k : ℕ) (passes : List Pass) → ArePassesFrom board k passes → (i : ℕ) (d : Pass) → i < length passes → board_of (get_or passes i d) ≡ board
seated board k [] all i d inside = absurd (omega arith)
seated board k (p ∷ ps) all zero d inside = all.0.0
seated board k (p ∷ ps) all (suc i) d inside = seated board (suc k) ps all.1 i d (omega arith)

pub all_seated : (board : _) (passes : List Pass) → ArePasses board passes → All (λ p. board_of p ≡ board) passes
all_seated board passes all = seated board 0 passes all

-- the callers of the new passes, of which the first is worker k
fresh_from : (board : _) (k : ℕ) (passes : List Pass) → ArePassesFrom board k passes → (i : ℕ) (c : Caller) → i < length passes
    → ((get_or (map caller passes) i c).worker ≡ k + i) × ((get_or (map caller passes) i c).seen ≡ []) × ((get_or (map caller passes) i c).mine ≡ [])
fresh_from board k [] all i c inside = absurd (omega arith)
fresh_from board k (p ∷ ps) all zero c inside = let number : worker p ≡ k = all.0.1 in (omega (arith, number), all.0.2, all.0.3)
fresh_from board k (p ∷ ps) all (suc i) c inside = let rest = fresh_from board (suc k) ps all.1 i c (omega arith) in (omega (arith, rest.0), rest.1, rest.2)

pub fresh : (board : _) (passes : List Pass) → ArePasses board passes → AreFresh (map caller passes)
fresh board passes all =
    let below : (k : ℕ) → k < length (map caller passes) → k < length passes = λ k inside. omega (arith, inside, length-map passes caller) in
    record {
      numbered = λ k c inside. omega (arith, (fresh_from board 0 passes all k c (below k inside)).0);
      quiet = λ k c inside. let one = fresh_from board 0 passes all k c (below k inside) in (one.1, one.2);
    }

-- each pass holds nothing, by recursion
pub all_bare : (passes : List Pass) → All (λ p. held p ≡ []) passes → AllBare passes
all_bare [] all = tt
all_bare (p ∷ ps) all = (All-head (λ q. held q ≡ []) p ps all, all_bare ps (All-tail (λ q. held q ≡ []) p ps all))

pub each_bare : (passes : List Pass) → AllBare passes → All (λ p. held p ≡ []) passes
each_bare [] all k d inside = absurd (omega arith)
each_bare (p ∷ ps) all zero d inside = all.0
each_bare (p ∷ ps) all (suc i) d inside = each_bare ps all.1 i d (omega arith)
