-- Texts of 16-bit units, and parts of them.
use Rattle.std.proofs.Common.{◌≡◌, ◌∙◌, ℕ, zero, suc, ◌<◌, Bool, true, List, [], ◌∷◌, ◌++◌, take, drop, refl, sym, arith}
use Rattle.std.specs.Char.{to_ascii_lowercase}
use Rattle.std.specs.List.{list_all}
use Rattle.std.proofs.lemmas.Bool.{and_from, and_parts, ltb-true}
use Rattle.std.proofs.lemmas.Bool.Decides.{nat_tests}
use Rattle.std.proofs.lemmas.List.Elements.{All-cons, All-nil}
use Rattle.std.proofs.lemmas.List.Folds.{list_all-append}
use Rattle.js_core.specs.Text.{AllUnits}
use Rattle.js_lexer.specs.Written.{is_unit}
use Rattle.dom_tree.specs.Name.{folded}

abbrev pub are_units : List ℕ → Bool
are_units us = list_all is_unit us

-- by a test
abbrev pub InUnits : List ℕ → Type 0
InUnits us = are_units us ≡ true

pub all_units : (us : List ℕ) → InUnits us → AllUnits us
all_units [] h = All-nil (λ u. u < 65536)
all_units (u ∷ us) h =
    let parts = and_parts (is_unit u) (are_units us) h in
    All-cons (λ x. x < 65536) u us (ltb-true u 65536 parts.0) (all_units us parts.1)

pub dropped_units : (k : ℕ) (us : List ℕ) → InUnits us → InUnits (drop k us)
dropped_units zero us h = h
dropped_units (suc k) [] h = refl
dropped_units (suc k) (u ∷ us) h = dropped_units k us (and_parts (is_unit u) (are_units us) h).1

pub taken_units : (k : ℕ) (us : List ℕ) → InUnits us → InUnits (take k us)
taken_units zero us h = refl
taken_units (suc k) [] h = refl
taken_units (suc k) (u ∷ us) h =
    let parts = and_parts (is_unit u) (are_units us) h in
    and_from (is_unit u) (are_units (take k us)) parts.0 (taken_units k us parts.1)

pub left_units : (us vs : List ℕ) → InUnits (us ++ vs) → InUnits us
left_units us vs h = (and_parts (are_units us) (are_units vs) (sym (list_all-append is_unit us vs) ∙ h)).0

pub right_units : (us vs : List ℕ) → InUnits (us ++ vs) → InUnits vs
right_units us vs h = (and_parts (are_units us) (are_units vs) (sym (list_all-append is_unit us vs) ∙ h)).1

pub joined_units : (us vs : List ℕ) → InUnits us → InUnits vs → InUnits (us ++ vs)
joined_units us vs h k = list_all-append is_unit us vs ∙ and_from (are_units us) (are_units vs) h k

-- ---- names in lower case

lower_unit : (u : ℕ) → is_unit u ≡ true → is_unit (to_ascii_lowercase u) ≡ true
lower_unit u h = grind (arith, nat_tests)

pub folded_units : (us : List ℕ) → InUnits us → InUnits (folded us)
folded_units [] h = refl
folded_units (u ∷ us) h =
    let parts = and_parts (is_unit u) (are_units us) h in
    and_from (is_unit (to_ascii_lowercase u)) (are_units (folded us)) (lower_unit u parts.0) (folded_units us parts.1)
