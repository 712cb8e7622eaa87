-- The words of a region that may have been cleared.
--     length-shown_words      they are as many as its block has
--     shown_words-cleared     where they are hidden, they are zeros
use Rattle.std.proofs.Common.{◌≡◌, length, replicate, ℕ, Bool, true, false, List, cond, refl, sym, ◌∙◌, ap}
use Rattle.std.proofs.lemmas.List.{length-replicate}
use Rattle.raw_region.specs.Region.{hides, shown_words}
use Rattle.raw_region.specs.RegionBlock.{is_clear_of, with_clear}
use Rattle.raw_region.specs.declared.home.Home.{Home}
use Rattle.raw_region.specs.declared.home.Home.TheVariants.{Own, Leased, Host}

pub length-shown_words : (b : Bool) (ws : List ℕ) → length (shown_words b ws) ≡ length ws
unfolding shown_words
length-shown_words b ws = by (hides b ws)
  where
    by : (hidden : Bool) → length (cond hidden (replicate (length ws) 0) ws) ≡ length ws
    by true = length-replicate (length ws) 0
    by false = refl

pub shown_words-cleared : (b : Bool) (ws : List ℕ) → hides b ws ≡ true → shown_words b ws ≡ replicate (length ws) 0
unfolding shown_words
shown_words-cleared b ws is = ap (λ hidden. cond hidden (replicate (length ws) 0) ws) is

pub shown_words-kept : (b : Bool) (ws : List ℕ) → hides b ws ≡ false → shown_words b ws ≡ ws
unfolding shown_words
shown_words-kept b ws is = ap (λ hidden. cond hidden (replicate (length ws) 0) ws) is

-- a block of zeros shows zeros
pub shown_words-zeros : (b : Bool) (ws : List ℕ) → ws ≡ replicate (length ws) 0 → shown_words b ws ≡ replicate (length ws) 0
unfolding shown_words
shown_words-zeros b ws zeros = by (hides b ws)
  where
    by : (hidden : Bool) → cond hidden (replicate (length ws) 0) ws ≡ replicate (length ws) 0
    by true = refl
    by false = zeros

-- whether they are hidden, by the flag and the words that were read
pub hides-lent : (b : Bool) (ws : List ℕ) (clear : Bool) (got : List ℕ) (found value : Bool) → clear ≡ b → got ≡ ws → found ≡ hides clear got → found ≡ value → hides b ws ≡ value
hides-lent b ws clear got found value flag same is e = ap (hides b) (sym same) ∙ (ap (λ c. hides c got) (sym flag) ∙ (sym is ∙ e))

-- a home has the flag that was set
set : (home : Home) (clear : Bool) → is_clear_of (with_clear home clear) ≡ clear
set (Own _) clear = refl
set (Leased _ _) clear = refl
set (Host _) clear = refl

pub is_clear-set : (new old : Home) (clear : Bool) → new ≡ with_clear old clear → is_clear_of new ≡ clear
is_clear-set new old clear is = ap is_clear_of is ∙ set old clear
