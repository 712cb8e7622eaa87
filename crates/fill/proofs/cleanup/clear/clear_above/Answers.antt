use Rattle.std.proofs.Common.{◌≡◌, ℕ, ◌+◌, ◌-◌, ◌^◌, ◌<◌, List, [], ◌++◌, length, get_or, take, min, sym, ◌∙◌, ap, arith, length-append}
use Rattle.std.specs.List.{concat}
use Rattle.std.proofs.lemmas.List.{get_or_default, length-map}
use Rattle.fill.specs.MovedHeap.{cleared}
use Rattle.fill.proofs.Lemmas.Cleared.{length-cleared, cleared-append, concat_more, concat_more_set, rest_same, drop_more_set, lengths_set, lengths_same}
use Rattle.fill.proofs.cleanup.clear.clear_above.Goals as goal

pub loop-region-preserved : goal.loop-region-preserved
loop-region-preserved c =
    let top : ℕ = c.args.new_top in
    let i : ℕ = c.loop-region.region-index in
    let old : List (List ℕ) = c.args.regions.now in
    let now : List (List ℕ) = c.loop-region.regions in
    let h = c.loop-region.invariant in
    let b : List ℕ = c.region-item.result in
    let long : length now ≡ length old = sym (length-map now length) ∙ ap length h.long ∙ length-map old length in
    let inside : i < length old = c.loop-region-test.true in
    let here : i < length now = omega arith in
    let is : b ≡ get_or now i [] = c.region-item.is ∙ get_or_default now i b [] here in
    let was : b ≡ get_or old i [] = is ∙ rest_same now old i h.rest in
    let more : concat (take (i + 1) old) ≡ concat (take i old) ++ b = concat_more old i inside ∙ ap (λ (x : List ℕ). concat (take i old) ++ x) (sym was) in
    let new : List ℕ = c.clear_region-kept.new.region in
    let cut : new ≡ cleared (top - length (concat (take i old))) b = c.clear_region-kept.ensures.words ∙ ap (cleared c.loop-region.kept) (sym c.region-item.is) ∙ ap (λ n. cleared n b) h.kept in
    let both = length-append (concat (take i old)) b in
    let whole : length (concat (take (i + 1) old)) ≡ length (concat (take i old) ++ b) = ap length more in
    let kept : c.clear_region-kept.result ≡ min c.loop-region.kept (length b) = c.clear_region-kept.ensures.kept ∙ ap (λ (x : List ℕ). min c.loop-region.kept (length x)) (sym c.region-item.is) in
    record {
      kept = omega (arith, h.kept);
      done = concat_more_set now i new here ∙ ap (λ (x : List ℕ). x ++ new) h.done ∙ ap (λ (x : List ℕ). cleared top (concat (take i old)) ++ x) cut
          ∙ sym (cleared-append top (concat (take i old)) b) ∙ ap (cleared top) (sym more);
      rest = drop_more_set now old i new h.rest;
      long = lengths_set now i new (ap length cut ∙ length-cleared (top - length (concat (take i old))) b ∙ ap length is) ∙ h.long;
    }

pub returns-clause-blocks : goal.returns-clause-blocks
returns-clause-blocks c = λ log whole. lengths_same (2 ^ log) c.loop-region.regions c.args.regions.now c.loop-region.invariant.long whole
