use Rattle.std.proofs.Common.{◌≡◌, ◌<◌, ◌+◌, ℕ, List, [], Some, length, ap, ◌∙◌, arith}
use Rattle.std.specs.Prelude.{Result, Ok, Err, IfOk, slice_index_or}
use Rattle.scheduler.specs.MoveTable.{region_count}
use Rattle.box_row.specs.Rows.{spot}
use Rattle.claim_board.specs.Holdings.{is_moved, lies_in, words_of}
use Rattle.claim_board.proofs.Lemmas.Sharing.{moved_there}
use Rattle.claim_board.proofs.regions.region_board.RegionBoard.new.Goals as goal
use Rattle.claim_board.proofs.regions.region_board.RegionBoard.new.Goals.{In-Ok}

if_ok : {X E : Type 0} {P Q : X → Type 0} (r : Result X E) → ((x : X) → P x → Q x) → IfOk r P → IfOk r Q
if_ok (Ok x) f p = f x p
if_ok (Err e) f p = tt

-- the words of a region
inside : (g : _) (c : In-Ok g) (r : ℕ) → r < region_count c.in-Ok.parts.moves → r < length g.E.MovedWords.words
inside g c r lt = let z = c.requires.moved in let y = ap region_count c.in-Ok.ensures.moves in omega arith

pub assemble-requires-clause-moved : goal.assemble-requires-clause-moved
assemble-requires-clause-moved g c =
    let words = g.E.MovedWords.words in
    let spots = spot c.in_ok-row.row in
    let at = (goal.at.assemble-requires-clause-moved g c).In-Ok in
    (λ r lt. ap is_moved (moved_there spots 0 words r (inside g at r lt)), λ r lt. (let e : 0 + r ≡ r = omega arith in ap lies_in (moved_there spots 0 words r (inside g at r lt)) ∙ ap (λ k. Some (spots k)) e))

pub returns-clause-moved : goal.returns-clause-moved
returns-clause-moved g c =
    let words = g.E.MovedWords.words in
    let long = c.requires.moved in
    if_ok c.assemble.result (λ made of_all r lt. of_all r ∙ ap words_of (moved_there (spot c.in_ok-row.row) 0 words r (omega arith))) c.assemble.ensures.moved
