-- Answers that are pairs.
use Rattle.std.proofs.Common.{◌≡◌, ap, Option, Some, None}

abbrev first_or : {A B : Type 0} → A → Option (A × B) → A
first_or a None = a
first_or a (Some p) = p.0

abbrev second_or : {A B : Type 0} → B → Option (A × B) → B
second_or b None = b
second_or b (Some p) = p.1

pub some_pair : {A B : Type 0} (a a' : A) (b b' : B) → ◌≡◌ {A = Option (A × B)} (Some (a, b)) (Some (a', b')) → (a ≡ a') × (b ≡ b')
some_pair a a' b b' e = (ap (first_or a) e, ap (second_or b) e)
