-- A name of plain units stands in a line as it is.
use Rattle.std.proofs.Common.{◌≡◌, ◌∙◌, ℕ, ◌<◌, true, false, List, [], ◌∷◌, ◌++◌, length, refl, ap, arith}
use Rattle.std.specs.Prelude.{◌==◌}
use Rattle.std.specs.Char.Escape.{backslash}
use Rattle.std.specs.Char.Utf16.{is_high_surrogate}
use Rattle.std.specs.List.{list_all, flat_map}
use Rattle.std.proofs.lemmas.Bool.{and_parts}
use Rattle.std.proofs.lemmas.Bool.Decides.{nat_tests}
use Rattle.std.proofs.lemmas.Str.{encode_ascii}
use Rattle.js_core.specs.LineText.{code_points, is_escaped, line_code, line_text}
use Rattle.js_print.specs.Spelling.{is_plain}

no_high : (u : ℕ) → is_plain u ≡ true → is_high_surrogate u ≡ false
no_high u e = grind (arith, nat_tests)

no_backslash : (u : ℕ) → is_plain u ≡ true → (u == backslash) ≡ false
no_backslash u e = grind (arith, nat_tests)

no_escape : (u : ℕ) → is_plain u ≡ true → is_escaped u ≡ false
no_escape u e = grind (arith, nat_tests)

low : (u : ℕ) → is_plain u ≡ true → u < 128
low u e = grind (arith, nat_tests)

one_byte : (u : ℕ) → is_plain u ≡ true → line_code u ≡ u ∷ []
one_byte u e = rw (no_backslash u e, no_escape u e) (encode_ascii u (low u e))

points_alone : (us : List ℕ) → list_all is_plain us ≡ true → code_points us ≡ us
points_alone [] e = refl
points_alone (u ∷ []) e = refl
points_alone (u ∷ v ∷ us) e =
    let none = no_high u (and_parts (is_plain u) _ e).0 in
    rw none (ap (λ x. u ∷ x) (points_alone (v ∷ us) (and_parts (is_plain u) _ e).1))

bytes_alone : (us : List ℕ) → list_all is_plain us ≡ true → flat_map line_code us ≡ us
bytes_alone [] e = refl
bytes_alone (u ∷ us) e =
    ap (λ x. x ++ flat_map line_code us) (one_byte u (and_parts (is_plain u) _ e).0) ∙ ap (λ x. u ∷ x) (bytes_alone us (and_parts (is_plain u) _ e).1)

pub plain_name_length : (us : List ℕ) → list_all is_plain us ≡ true → length (line_text us) ≡ length us
plain_name_length us e = ap (λ ps. length (flat_map line_code ps)) (points_alone us e) ∙ ap length (bytes_alone us e)
