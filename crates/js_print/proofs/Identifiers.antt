-- The units of identifiers: no white space, line end, `/`, backslash, control character or surrogate is one.
use Rattle.std.proofs.Common.{◌≡◌, ℕ, zero, suc, ◌+◌, ◌<◌, ◌≤◌, Bool, true, false, List, [], ◌∷◌, refl, subst, ⊎_elim, arith}
use Rattle.std.specs.Prelude.{not, ◌&&◌, ◌||◌, ◌==◌, nat_lt, nat_le}
use Rattle.std.specs.Int.{is_in_range}
use Rattle.std.specs.List.{list_all}
use Rattle.std.proofs.lemmas.Bool.{and_parts, cases_lt}
use Rattle.std.proofs.lemmas.Bool.Decides.{nat_tests}
use Rattle.unicode_ident.proofs.Computing.{unicode_ident}
use Rattle.js_core.specs.Characters.{is_white_space, is_line_end}
use Rattle.js_core.specs.LineText.{is_escaped}
use Rattle.js_lexer.specs.Characters.{is_surrogate, is_identifier_start, is_identifier_part}

-- so many numbers from one on
abbrev from : ℕ → ℕ → List ℕ
from zero low = []
from (suc n) low = low ∷ from n (low + 1)

all_from : (p : ℕ → Bool) (n low u : ℕ) → list_all p (from n low) ≡ true → low ≤ u → u < low + n → p u ≡ true
all_from p zero low u h l m = absurd (omega arith)
all_from p (suc n) low u h l m = ⊎_elim (λ b. all_from p n (low + 1) u (and_parts (p low) _ h).1 (omega arith) (omega arith)) here (cases_lt low u)
  where
    here : u ≤ low → p u ≡ true
    here b = let same : low ≡ u = omega arith in subst (λ v. p v ≡ true) same (and_parts (p low) _ h).0

-- what passes at each number of a range passes at one in it
within : (p : ℕ → Bool) (n low high u : ℕ) → low + n ≡ high + 1 → list_all p (from n low) ≡ true → is_in_range low high u ≡ true → p u ≡ true
within p n low high u e h r =
    let l : low ≤ u = let t = (and_parts (nat_le low u) (nat_le u high) r).0 in grind (arith, nat_tests) in
    let m : u ≤ high = let t = (and_parts (nat_le low u) (nat_le u high) r).1 in grind (arith, nat_tests) in
    all_from p n low u h l (omega arith)

either : (a b c : Bool) → (a ≡ true → c ≡ true) → (b ≡ true → c ≡ true) → (a || b) ≡ true → c ≡ true
either true b c f g e = f refl
either false b c f g e = g e

abbrev no_start : ℕ → Bool
no_start u = not (is_identifier_start u)

white_is_no_start : (u : ℕ) → is_white_space u ≡ true → no_start u ≡ true
unfolding is_white_space is_identifier_start unicode_ident
white_is_no_start u e =
    either _ _ _ (either _ _ _ (either _ _ _ (either _ _ _ (either _ _ _ (either _ _ _ (either _ _ _ (either _ _ _ (either _ _ _ (within no_start 1 9 9 u refl refl)
    (within no_start 2 11 12 u refl refl))
    (within no_start 1 32 32 u refl refl))
    (within no_start 1 160 160 u refl refl))
    (within no_start 1 5760 5760 u refl refl))
    (within no_start 11 8192 8202 u refl refl))
    (within no_start 1 8239 8239 u refl refl))
    (within no_start 1 8287 8287 u refl refl))
    (within no_start 1 12288 12288 u refl refl))
    (within no_start 1 65279 65279 u refl refl) e

line_end_is_no_start : (u : ℕ) → is_line_end u ≡ true → no_start u ≡ true
unfolding is_line_end is_identifier_start unicode_ident
line_end_is_no_start u e =
    either _ _ _ (either _ _ _ (within no_start 1 10 10 u refl refl)
    (within no_start 1 13 13 u refl refl))
    (within no_start 2 8232 8233 u refl refl) e

slash_is_no_start : (u : ℕ) → (u == 47) ≡ true → no_start u ≡ true
unfolding is_identifier_start unicode_ident
slash_is_no_start u e = within no_start 1 47 47 u refl refl (grind (arith, nat_tests))

-- a test that refuses it refuses all starts of identifiers
against : (p q : Bool) → p ≡ true → (q ≡ true → not p ≡ true) → q ≡ false
against true true s f = absurd (let n = f refl in cc)
against true false s f = refl
against false q s f = absurd (cc)

pub start_is_no_space : (u : ℕ) → is_identifier_start u ≡ true → (is_white_space u ≡ false) × (is_line_end u ≡ false) × ((u == 47) ≡ false)
start_is_no_space u s =
    (against (is_identifier_start u) (is_white_space u) s (white_is_no_start u), against (is_identifier_start u) (is_line_end u) s (line_end_is_no_start u), against (is_identifier_start u) (u == 47) s (slash_is_no_start u))

-- ---- parts

abbrev no_part : ℕ → Bool
no_part u = not (is_identifier_part u)

surrogate_is_no_part : (u : ℕ) → is_surrogate u ≡ true → no_part u ≡ true
unfolding is_identifier_part
surrogate_is_no_part u s =
    let dollar : (u == 36) ≡ false = grind (arith, nat_tests) in
    let joiner : is_in_range 8204 8205 u ≡ false = grind (arith, nat_tests) in
    rw (dollar, joiner, s) refl

low_is_no_part : (u : ℕ) → nat_lt u 32 ≡ true → no_part u ≡ true
unfolding is_identifier_part unicode_ident
low_is_no_part u e = within no_part 32 0 31 u refl refl (grind (arith, nat_tests))

delete_is_no_part : (u : ℕ) → (nat_le 127 u && nat_lt u 160) ≡ true → no_part u ≡ true
unfolding is_identifier_part unicode_ident
delete_is_no_part u e = within no_part 33 127 159 u refl refl (grind (arith, nat_tests))

backslash_is_no_part : (u : ℕ) → (u == 92) ≡ true → no_part u ≡ true
unfolding is_identifier_part unicode_ident
backslash_is_no_part u e = within no_part 1 92 92 u refl refl (grind (arith, nat_tests))

within_surrogates : (u : ℕ) → (nat_le 0xD800 u && nat_lt u 0xE000) ≡ true → is_surrogate u ≡ true
within_surrogates u h = grind (arith, nat_tests)

escaped_is_no_part : (u : ℕ) → is_escaped u ≡ true → no_part u ≡ true
escaped_is_no_part u e = either _ _ _ (either _ _ _ (low_is_no_part u) (delete_is_no_part u)) (λ h. surrogate_is_no_part u (within_surrogates u h)) e

pub part_stands_for_itself : (u : ℕ) → is_identifier_part u ≡ true → (is_surrogate u ≡ false) × (is_escaped u ≡ false) × ((u == 92) ≡ false)
part_stands_for_itself u p =
    (against (is_identifier_part u) (is_surrogate u) p (surrogate_is_no_part u), against (is_identifier_part u) (is_escaped u) p (escaped_is_no_part u), against (is_identifier_part u) (u == 92) p (backslash_is_no_part u))

slash_is_no_part : (u : ℕ) → (u == 47) ≡ true → no_part u ≡ true
unfolding is_identifier_part unicode_ident
slash_is_no_part u e = within no_part 1 47 47 u refl refl (grind (arith, nat_tests))

less_is_no_part : (u : ℕ) → (u == 60) ≡ true → no_part u ≡ true
unfolding is_identifier_part unicode_ident
less_is_no_part u e = within no_part 1 60 60 u refl refl (grind (arith, nat_tests))

pub part_is_harmless : (u : ℕ) → is_identifier_part u ≡ true → (not (u == 47) && not (u == 60)) ≡ true
part_is_harmless u p =
    let slash = against (is_identifier_part u) (u == 47) p (slash_is_no_part u) in
    let less = against (is_identifier_part u) (u == 60) p (less_is_no_part u) in
    rw (slash, less) refl
