use Rattle.std.proofs.Common.{◌≡◌, ℕ, List, [], length, suc, ap, ◌∙◌, arith, sym, subst}
use Rattle.atomic_table.specs.Table.{opening}
use Rattle.scheduler.specs.MoveTable.{region_count}
use Rattle.claim_board.specs.Slots.{slots, kept, all_workers}
use Rattle.claim_board.specs.declared.regions.holding.Holding.{Holding}
use Rattle.claim_board.specs.declared.rule.table_key.TableKey.{TableKey}
use Rattle.claim_board.proofs.Lemmas.Openings.{opens}
use Rattle.claim_board.proofs.board.Board.new.Goals as goal

pub of_words-requires : goal.of_words-requires
of_words-requires g c =
    let e = c.in_ok-words.ensures in
    let k : TableKey Holding = record { moves = c.in_ok-moves.moves; workers = c.args.workers; values = c.of.result; moved = c.foresee.result } in
    let size : length c.in_ok-words.words.items ≡ suc (region_count k.moves) = (let z = e.size in let y = c.in_ok-words.words.ok in omega arith) in
    let none : slots k ≡ 0 = ap (λ v. length v.items) c.of.ensures ∙ ap length c.new-nothing.ensures.items in
    subst (λ (ws : List ℕ). kept k (opening ws [] (all_workers k))) (sym c.as_slice.ensures.value)
    (opens k c.in_ok-words.words.items none e.lawful size e.words e.remaining)
