-- Texts that are put together piece by piece.
use Rattle.std.proofs.Common.{◌≡◌, ◌∙◌, ℕ, List, ◌++◌, append_assoc, ap}

pub two : (o a b x y : List ℕ) → x ≡ o ++ a → y ≡ x ++ b → y ≡ o ++ (a ++ b)
two o a b x y p q = q ∙ ap (λ (l : List ℕ). l ++ b) p ∙ append_assoc o a b

pub four : (o a b c d x y z w : List ℕ) → x ≡ o ++ a → y ≡ x ++ b → z ≡ y ++ c → w ≡ z ++ d → w ≡ o ++ (((a ++ b) ++ c) ++ d)
four o a b c d x y z w p q r s = two o ((a ++ b) ++ c) d z w (two o (a ++ b) c y z (two o a b x y p q) r) s
