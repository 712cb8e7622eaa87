use Rattle.std.proofs.Common.{◌≡◌, ◌≤◌, length, replicate, take, ℕ, Bool, true, false, List, ◌∙◌, ap, sym, subst}
use Rattle.std.proofs.lemmas.List.{take-replicate}
use Rattle.raw_region.specs.Region.{hides, shown_words}
use Rattle.raw_region.specs.RegionBlock.{is_clear_of}
use Rattle.raw_region.proofs.Lemmas.Seen.{hides-lent, length-shown_words, shown_words-cleared, shown_words-kept}
use Rattle.raw_region.proofs.region.Region.words.Goals as goal

-- The words of a region are as many as its block has.
long : (b : Bool) (ws now : List ℕ) → shown_words b ws ≡ now → length ws ≡ length now
long b ws now is = sym (length-shown_words b ws) ∙ ap length is

nonempty : (b : Bool) (ws now : List ℕ) (n : ℕ) → shown_words b ws ≡ now → length ws ≡ n → 1 ≤ n → 1 ≤ length now
nonempty b ws now n is has some = subst (λ n. 1 ≤ n) (sym has ∙ long b ws now is) some

at_most : (b : Bool) (ws now : List ℕ) (n : ℕ) → shown_words b ws ≡ now → length ws ≡ n → n ≤ 1048576 → length now ≤ 1048576
at_most b ws now n is has most = subst (λ n. n ≤ 1048576) (sym has ∙ long b ws now is) most

-- As many of the zeros are the words of a cleared region.
zeros : (b : Bool) (ws got now : List ℕ) → shown_words b ws ≡ now → hides b ws ≡ true → got ≡ ws → length got ≤ 65536 → take (length got) (replicate {A = ℕ} 65536 0) ≡ now
zeros b ws got now is cleared same most = ap (λ l. take (length l) (replicate {A = ℕ} 65536 0)) same ∙ take-replicate (length ws) 65536 0 (subst (λ l. length l ≤ 65536) same most) ∙ sym (shown_words-cleared b ws cleared) ∙ is

pub returns-then-hides-clause-value : goal.returns-then-hides-clause-value
returns-then-hides-clause-value c =
    let got = c.words-words.result.now in
    zeros (is_clear_of c.self.inside.home) c.self.inside.block.words got c.args.self.now c.self.view_is (hides-lent (is_clear_of c.self.inside.home) c.self.inside.block.words c.is_clear.result got c.hides.result true c.is_clear.ensures c.words-words.ensures.value c.hides.ensures.value c.if-hides.true) c.words-words.ensures.value (c.hides.ensures.few c.if-hides.true)

pub returns-then-hides-clause-nonempty : goal.returns-then-hides-clause-nonempty
returns-then-hides-clause-nonempty c = nonempty (is_clear_of c.self.inside.home) c.self.inside.block.words c.args.self.now c.self.inside.block.len c.self.view_is c.words-words.ensures.length c.self.invariant.some

pub returns-then-hides-clause-at_most : goal.returns-then-hides-clause-at_most
returns-then-hides-clause-at_most c = at_most (is_clear_of c.self.inside.home) c.self.inside.block.words c.args.self.now c.self.inside.block.len c.self.view_is c.words-words.ensures.length c.self.invariant.most

pub returns-else-hides-clause-value : goal.returns-else-hides-clause-value
returns-else-hides-clause-value c =
    let got = c.words-words.result.now in
    c.words-words.ensures.value ∙ sym (shown_words-kept (is_clear_of c.self.inside.home) c.self.inside.block.words (hides-lent (is_clear_of c.self.inside.home) c.self.inside.block.words c.is_clear.result got c.hides.result false c.is_clear.ensures c.words-words.ensures.value c.hides.ensures.value c.if-hides.false)) ∙ c.self.view_is

pub returns-else-hides-clause-nonempty : goal.returns-else-hides-clause-nonempty
returns-else-hides-clause-nonempty c = nonempty (is_clear_of c.self.inside.home) c.self.inside.block.words c.args.self.now c.self.inside.block.len c.self.view_is c.words-words.ensures.length c.self.invariant.some

pub returns-else-hides-clause-at_most : goal.returns-else-hides-clause-at_most
returns-else-hides-clause-at_most c = at_most (is_clear_of c.self.inside.home) c.self.inside.block.words c.args.self.now c.self.inside.block.len c.self.view_is c.words-words.ensures.length c.self.invariant.most
