use Rattle.std.proofs.Common.{◌≡◌, ◌∙◌, ◌++◌, ℕ, List, append_assoc, ap}
use Rattle.schedule_timeline.proofs.page.write_back.Goals as goal

-- a text with others after it, and one more
and_more : (old text new a b : List ℕ) → text ≡ old ++ a → new ≡ text ++ b → new ≡ old ++ (a ++ b)
and_more old text new a b first then = then ∙ ap (λ (l : List ℕ). l ++ b) first ∙ append_assoc old a b

-- a text with four others after it
four : (old one two three new a b c d : List ℕ) → one ≡ old ++ a → two ≡ one ++ b → three ≡ two ++ c → new ≡ three ++ d
    → (back : List ℕ) × (new ≡ old ++ back)
four old one two three new a b c d first second third fourth =
    (((a ++ b) ++ c) ++ d, and_more old three new ((a ++ b) ++ c) d (and_more old two three (a ++ b) c (and_more old one two a b first second) third) fourth)

pub returns : goal.returns
returns c = four _ _ _ _ _ _ _ _ _ c.in_ok-push_str.ensures.bytes c.in_ok-push_str-2.ensures.bytes c.in_ok-push_str-3.ensures.bytes c.in_ok-push_str-4.ensures.bytes
