-- The names of scopes' objects are identifiers.
use Rattle.std.proofs.Common.{◌≡◌, refl, ℕ, zero, suc, ◌<◌, ◌/◌, ◌%◌, Bool, true, false, ◌&&◌, ◌==◌, List, [], ◌∷◌, arith, if◌then◌else◌}
use Rattle.std.specs.Prelude.{nat_lt}
use Rattle.std.specs.Fmt.{decimal, digit_glyph, digits, digits_onto}
use Rattle.std.specs.List.{list_all}
use Rattle.std.proofs.lemmas.Bool.{and_from, and_parts, not_from_false}
use Rattle.std.proofs.lemmas.Bool.Decides.{nat_tests}
use Rattle.std.proofs.Math.Nat.{mod-lt}
use Rattle.unicode_ident.proofs.IdentLemmas.{is_xid_continue-ascii}
use Rattle.js_core.specs.Spelling.{is_reserved_word}
use Rattle.js_grammar.specs.Syntax.{is_identifier}
use Rattle.js_lexer.specs.Characters.{is_identifier_part, is_identifier_start, is_surrogate}
use Rattle.js_lexer.specs.Written.{is_unit}
use Rattle.instrumenter.specs.Around.{scope_name}

abbrev is_figure : ℕ → Bool
is_figure u = nat_lt 47 u && nat_lt u 58

glyph_is_figure : (d : ℕ) → d < 10 → is_figure (digit_glyph false d) ≡ true
glyph_is_figure d h = grind (arith, nat_tests)

figures_onto : (k n : ℕ) (acc : List ℕ) → list_all is_figure acc ≡ true → list_all is_figure (digits_onto k 10 false n acc) ≡ true
figures_onto zero n acc h = h
figures_onto (suc k) n acc h = by (n / 10 == 0) (figures_onto k (n / 10) (digit_glyph false (n % 10) ∷ acc))
  where
    one : is_figure (digit_glyph false (n % 10)) ≡ true
    one = glyph_is_figure (n % 10) (mod-lt n (omega arith))

    by : (b : Bool) → (list_all is_figure (digit_glyph false (n % 10) ∷ acc) ≡ true → list_all is_figure (digits_onto k 10 false (n / 10) (digit_glyph false (n % 10) ∷ acc)) ≡ true)
        → list_all is_figure (if b then (digit_glyph false (n % 10) ∷ acc) else digits_onto k 10 false (n / 10) (digit_glyph false (n % 10) ∷ acc)) ≡ true
    by true more = and_from _ _ one h
    by false more = more (and_from _ _ one h)

figures : (n : ℕ) → list_all is_figure (decimal n) ≡ true
unfolding digits
figures n = figures_onto 64 n [] refl

figure_is_part : (u : ℕ) → is_figure u ≡ true → is_identifier_part u ≡ true
unfolding is_identifier_part
figure_is_part u e =
    let near : is_surrogate u ≡ false = grind (arith, nat_tests) in
    let low : u < 128 = grind (arith, nat_tests) in
    rw (near, is_xid_continue-ascii u low) (grind (arith, nat_tests))

figure_is_unit : (u : ℕ) → is_figure u ≡ true → is_unit u ≡ true
figure_is_unit u e = grind (arith, nat_tests)

all_are : (p q : ℕ → Bool) → ((u : ℕ) → p u ≡ true → q u ≡ true) → (us : List ℕ) → list_all p us ≡ true → list_all q us ≡ true
all_are p q so [] e = refl
all_are p q so (u ∷ us) e = let parts = and_parts (p u) _ e in and_from _ _ (so u parts.0) (all_are p q so us parts.1)

dollar_starts : is_identifier_start 36 ≡ true
unfolding is_identifier_start
dollar_starts = refl

dollar_continues : is_identifier_part 36 ≡ true
unfolding is_identifier_part
dollar_continues = refl

free_word : (us : List ℕ) → is_reserved_word (36 ∷ 36 ∷ us) ≡ false
free_word us = refl

pub object_is_identifier : (n : ℕ) → is_identifier (scope_name n) ≡ true
object_is_identifier n =
    let part : list_all is_identifier_part (scope_name n) ≡ true =
    and_from _ _ dollar_continues (and_from _ _ dollar_continues (all_are is_figure is_identifier_part figure_is_part (decimal n) (figures n))) in
    let unit : list_all is_unit (scope_name n) ≡ true =
    and_from (is_unit 36) _ refl (and_from (is_unit 36) _ refl (all_are is_figure is_unit figure_is_unit (decimal n) (figures n))) in
    and_from _ _ (and_from _ _ (and_from _ _ dollar_starts part) unit) (not_from_false (is_reserved_word (scope_name n)) (free_word (decimal n)))
