use Rattle.std.proofs.Common.{◌≡◌, ℕ, ◌+◌, ◌<◌, List, [], ◌∷◌, ◌++◌, length, get_or, sym, ◌∙◌, ap, ap₂, subst}
use Rattle.std.specs.Prelude.{All, map, take}
use Rattle.std.proofs.lemmas.List.{map_push, take_more}
use Rattle.std.proofs.lemmas.List.Elements.{All-push}
use Rattle.object_heap.specs.HeapImage.{HeapImage}
use Rattle.verification.specs.Explanation.{IsExplained}
use Rattle.verification.specs.declared.difference_tally.OtherWord.{OtherWord}
use Rattle.verification.specs.declared.verdict_explanation.ExplainedWord.{ExplainedWord}
use Rattle.verification.proofs.comparison_explained.WordComparison.explain_each.Goals as goal

-- one more word is explained
more : (words : List OtherWord) (i : ℕ) (d : OtherWord) (all pushed : List ExplainedWord) (e : ExplainedWord) → i < length words
    → map (λ (x : ExplainedWord). x.word) all ≡ take i words → pushed ≡ all ++ e ∷ [] → e.word ≡ get_or words i d
    → map (λ (x : ExplainedWord). x.word) pushed ≡ take (i + 1) words
more words i d all pushed e l so_far items word =
    ap (map (λ (x : ExplainedWord). x.word)) items
    ∙ map_push (λ (x : ExplainedWord). x.word) all e
    ∙ ap₂ (λ (xs : List OtherWord) (w : OtherWord). xs ++ w ∷ []) so_far word
    ∙ sym (take_more words i d l)

pub loop-word-preserved : goal.loop-word-preserved
loop-word-preserved c =
    let before : HeapImage = c.args.self.now.before.now in
    let all : List ExplainedWord = c.loop-word.all.items in
    record {
      words = more c.args.words.now c.loop-word.word-index _ all c.push.new.self.items c.explained.result c.loop-word-test.true c.loop-word.invariant.words c.in_ok-push.ensures.items c.explained.ensures.word;
      explained = subst (All (IsExplained before)) (sym c.in_ok-push.ensures.items)
          (All-push (IsExplained before) all c.explained.result c.loop-word.invariant.explained c.explained.ensures.explained);
    }
