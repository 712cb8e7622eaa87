use Rattle.std.proofs.Common.{sym, ◌∙◌, arith, rules}
use Rattle.std.proofs.lemmas.Bool.{both_ways}
use Rattle.scheduler.proofs.moves.given_moves.is_move_table.Goals as goal
use Rattle.scheduler.proofs.moves.given_moves.is_move_table.Goals.{then-are_ascending, else-are_ascending}

pub returns-then-all_slide : goal.returns-then-all_slide
returns-then-all_slide c = (
  λ two.
      elim c.if-are_ascending.branch [
        | then-are_ascending w ↦ (
          record {
            some = let e = c.is_empty.ensures in let f = c.if-is_empty.false in search rules;
            few = let few = c.if-fill-gt-MAX_REGIONS.false in omega arith;
            ascending = c.are_ascending.ensures.0 w.if-are_ascending.true;
            slide = w.all_slide.ensures.0 (sym w.value-is ∙ c.if-all_slide.true);
            two = c.have_two_readers_at_most.ensures.0 two;
          },
          c.if-fill-gt-MAX_REGIONS.false,
        )
        | else-are_ascending w ↦ absurd (both_ways c.if-are_ascending.value (w.value-is ∙ w.if-are_ascending.false) c.if-all_slide.true)
      ],
  λ table. c.have_two_readers_at_most.ensures.1 table.0.two,
)
