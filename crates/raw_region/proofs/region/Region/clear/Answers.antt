use Rattle.std.proofs.Common.{◌≡◌, ◌≤◌, length, replicate, ℕ, true, List, ◌∙◌, ap, sym, subst}
use Rattle.std.proofs.lemmas.Bool.{le-leb}
use Rattle.std.proofs.lemmas.List.{length-replicate}
use Rattle.raw_region.specs.Region.{shown_words}
use Rattle.raw_region.specs.RegionBlock.{is_clear_of}
use Rattle.raw_region.proofs.Lemmas.Seen.{is_clear-set, length-shown_words, shown_words-cleared, shown_words-zeros}
use Rattle.raw_region.proofs.region.Region.clear.Goals as goal
use Rattle.raw_region.proofs.region.Region.clear.Goals.{then-is_large, else-is_large}

-- a block that was zeroed
zeroed : (ws new : List ℕ) → new ≡ replicate (length ws) 0 → shown_words true new ≡ replicate (length ws) 0
zeroed ws new e =
    let long : length new ≡ length ws = ap length e ∙ length-replicate (length ws) 0 in
    shown_words-zeros true new (e ∙ ap (λ n. replicate {A = ℕ} n 0) (sym long)) ∙ ap (λ n. replicate {A = ℕ} n 0) long

-- a block whose words are hidden
hidden : (ws new got : List ℕ) → new ≡ ws → got ≡ ws → length got ≤ 65536 → shown_words true new ≡ replicate (length ws) 0
hidden ws new got e same few =
    shown_words-cleared true new (le-leb (length new) 65536 (subst (λ l. length l ≤ 65536) (same ∙ sym e) few)) ∙ ap (λ l. replicate {A = ℕ} (length l) 0) e

pub returns-clause-value : goal.returns-clause-value
returns-clause-value c =
    let ws = c.self.inside.block.words in
    let new = c.if-is_large.self-inside.block.words in
    ap (λ flag. shown_words flag new) (is_clear-set c.set_clear.new.self c.if-is_large.self-inside.home true c.set_clear.ensures)
    ∙ elim c.if-is_large.branch [
      | then-is_large w ↦ zeroed ws new (ap (λ i. i.block.words) w.self-inside-is ∙ w.zero.ensures ∙ ap (λ l. replicate {A = ℕ} (length l) 0) w.words_mut.ensures.value)
      | else-is_large w ↦ hidden ws new c.words.result.now (ap (λ i. i.block.words) w.self-inside-is) c.words.ensures.value w.if-is_large.false
    ] ∙ ap (λ n. replicate {A = ℕ} n 0) (sym (length-shown_words (is_clear_of c.self.inside.home) ws) ∙ ap length c.self.view_is)

pub returns-clause-same_length : goal.returns-clause-same_length
returns-clause-same_length c =
    let ws = c.self.inside.block.words in
    let new = c.if-is_large.self-inside.block.words in
    length-shown_words (is_clear_of c.set_clear.new.self) new
    ∙ elim c.if-is_large.branch [
      | then-is_large w ↦ ap length (ap (λ i. i.block.words) w.self-inside-is ∙ w.zero.ensures ∙ ap (λ l. replicate {A = ℕ} (length l) 0) w.words_mut.ensures.value) ∙ length-replicate (length ws) 0
      | else-is_large w ↦ ap (λ i. length i.block.words) w.self-inside-is
    ]
    ∙ (sym (length-shown_words (is_clear_of c.self.inside.home) ws) ∙ ap length c.self.view_is)
