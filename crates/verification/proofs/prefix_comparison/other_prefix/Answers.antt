use Rattle.std.proofs.Common.{◌≡◌, ℕ, Option, sym, ◌∙◌, ap, subst}
use Rattle.std.specs.Prelude.{IfSome, MatchOption}
use Rattle.object_heap.specs.HeapImage.{HeapImage, word_at}
use Rattle.summary.specs.NewAddresses.{prefix_end}
use Rattle.summary.specs.Compaction.{compact}
use Rattle.verification.specs.Difference.{AreAlike, IsGreatestDifference}
use Rattle.verification.specs.Explanation.{limit_of}
use Rattle.verification.specs.OtherPrefix.{IsOtherPrefix, allowing}
use Rattle.verification.specs.declared.verdict_explanation.OtherPrefix.{OtherPrefix}
use Rattle.verification.proofs.prefix_comparison.other_prefix.Goals.{in-None, in-Some}
use Rattle.verification.proofs.prefix_comparison.other_prefix.Goals as goal

pub returns-clause-prefix : goal.returns-clause-prefix
returns-clause-prefix g c =
    let before : HeapImage = c.args.before in
    let after : HeapImage = c.args.after.now in
    let other : HeapImage = c.with_allowance-before.result in
    let is : other ≡ allowing c.allowance_of-allowance.result before = c.with_allowance-before.ensures in
    elim c.match-tally.branch [
      | in-None w ↦
          let alike : AreAlike (word_at (compact other)) (word_at after) c.limit-limit.result = subst
          (λ (last : Option ℕ). MatchOption last (AreAlike (word_at (compact other)) (word_at after) c.limit-limit.result) (IsGreatestDifference (word_at (compact other)) (word_at after) c.limit-limit.result))
          w.in-None.is c.in_ok-tally.ensures.ended in
          subst (λ (prefix : Option OtherPrefix). IfSome prefix (IsOtherPrefix before after c.args.below_top)) (sym w.result-is) (record {
            allowance = c.allowance_of-allowance.result;
            expected = c.in_ok-expected.ensures.end;
            found = c.prefix_end-found.ensures.value ∙ ap prefix_end (c.plan.ensures ∙ c.in_ok-survey.ensures.survey ∙ is);
            differs = c.if-found-expected.false;
            words = subst (λ (m : HeapImage). AreAlike (word_at (compact m)) (word_at after) (limit_of c.args.below_top m)) is
                (subst (AreAlike (word_at (compact other)) (word_at after)) c.limit-limit.ensures.value alike);
          })
      | in-Some w ↦ subst (λ (prefix : Option OtherPrefix). IfSome prefix (IsOtherPrefix before after c.args.below_top)) (sym w.result-is) tt
    ]
