-- Texts that grow piece by piece.
use Rattle.std.proofs.Common.{◌≡◌, ℕ, List, ◌++◌, append_assoc, ◌∙◌, ap}

pub join2 : (o a b x y : List ℕ) → x ≡ o ++ a → y ≡ x ++ b → y ≡ o ++ (a ++ b)
join2 o a b x y p q = q ∙ ap (λ t. t ++ b) p ∙ append_assoc o a b

pub join3 : (o a b c x y z : List ℕ) → x ≡ o ++ a → y ≡ x ++ b → z ≡ y ++ c → z ≡ o ++ (a ++ (b ++ c))
join3 o a b c x y z p q r = join2 o a (b ++ c) x z p (join2 x b c y z q r)

pub join4 : (o a b c d x y z w : List ℕ) → x ≡ o ++ a → y ≡ x ++ b → z ≡ y ++ c → w ≡ z ++ d → w ≡ o ++ (a ++ (b ++ (c ++ d)))
join4 o a b c d x y z w p q r s = join2 o a (b ++ (c ++ d)) x w p (join3 x b c d y z w q r s)
