use Rattle.std.proofs.Common.{◌≡◌, ◌≤◌, ◌-◌, ◌∙◌, ◌++◌, List, ap, ap₂, arith, sym}
use Rattle.std.specs.Prelude.{filter_map, Option}
use Rattle.std.specs.List.{range_with_len}
use Rattle.std.specs.Option.{option_to_list}
use Rattle.object_pairs.specs.Moves.{move_of}
use Rattle.object_pairs.specs.declared.moves.Move.{Move}
use Rattle.object_pairs.proofs.Lemmas.Sums.{kept_more}
use Rattle.object_pairs.proofs.moves.moves_in.Goals as goal

pub loop-index-preserved : goal.loop-index-preserved
loop-index-preserved c =
    let paired = c.args.paired.now in
    let f = move_of paired.before.now.objects.items paired.after.now.objects.items paired.pairing.now.partners.items in
    let le : c.args.first ≤ c.loop-index.index = omega arith in
    record {
      moves = c.in_ok-push_some.ensures
          ∙ ap₂ (λ (xs : List Move) (o : Option Move). xs ++ option_to_list o) c.loop-index.invariant.moves c.move_of.ensures
          ∙ sym (kept_more f c.args.first c.loop-index.index le);
      within = omega arith;
    }

pub returns : goal.returns
returns c =
    let paired = c.args.paired.now in
    let f = move_of paired.before.now.objects.items paired.after.now.objects.items paired.pairing.now.partners.items in
    let all : c.loop-index.index - c.args.first ≡ c.args.end - c.args.first = omega arith in
    c.loop-index.invariant.moves ∙ ap (λ n. filter_map f (range_with_len c.args.first n)) all
