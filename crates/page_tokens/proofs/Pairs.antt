-- Answers that are pairs or triples.
use Rattle.std.proofs.Common.{◌≡◌, ap, Option, Some, None}

abbrev first_or : {A B : Type 0} → A → Option (A × B) → A
first_or a None = a
first_or a (Some p) = p.0

abbrev second_or : {A B : Type 0} → B → Option (A × B) → B
second_or b None = b
second_or b (Some p) = p.1

pub some_pair : {A B : Type 0} (a a' : A) (b b' : B) → ◌≡◌ {A = Option (A × B)} (Some (a, b)) (Some (a', b')) → (a ≡ a') × (b ≡ b')
some_pair a a' b b' e = (ap (first_or a) e, ap (second_or b) e)

abbrev first_of_three : {A B C : Type 0} → A → Option (A × B × C) → A
first_of_three a None = a
first_of_three a (Some p) = p.0

abbrev second_of_three : {A B C : Type 0} → B → Option (A × B × C) → B
second_of_three b None = b
second_of_three b (Some p) = p.1

abbrev third_of_three : {A B C : Type 0} → C → Option (A × B × C) → C
third_of_three c None = c
third_of_three c (Some p) = p.2

pub some_triple : {A B C : Type 0} (a a' : A) (b b' : B) (c c' : C) → ◌≡◌ {A = Option (A × B × C)} (Some (a, b, c)) (Some (a', b', c')) → (a ≡ a') × (b ≡ b') × (c ≡ c')
some_triple a a' b b' c c' e = (ap (first_of_three a) e, ap (second_of_three b) e, ap (third_of_three c) e)

abbrev the_or : {A : Type 0} → A → Option A → A
the_or a None = a
the_or a (Some b) = b

pub some_one : {A : Type 0} (a a' : A) → ◌≡◌ {A = Option A} (Some a) (Some a') → a ≡ a'
some_one a a' e = ap (the_or a) e
