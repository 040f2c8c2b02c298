-- Digits that are written from the last one on.
use Rattle.std.proofs.Common.{◌≡◌, refl, ap, ◌∙◌, ℕ, zero, suc, ◌-◌, ◌/◌, ◌%◌, ◌<◌, ◌==◌, Bool, true, false, List, [], ◌∷◌, arith}
use Rattle.std.specs.Prelude.{cond}
use Rattle.std.specs.Fmt.{digit_glyph, digits, digits_onto}
use Rattle.std.proofs.lemmas.Bool.Decides.{nat_tests}

pub nothing_written : (radix n : ℕ) → digits_onto 64 radix false n [] ≡ digits radix false n
unfolding digits
nothing_written radix n = refl

module _ (radix n : ℕ) (after : List ℕ) where
  by_rest : (k : ℕ) (b : Bool) → (n / radix == 0) ≡ b → digits_onto (suc k) radix false n after ≡ cond b (digit_glyph false (n % radix) ∷ after) (digits_onto k radix false (n / radix) (digit_glyph false (n % radix) ∷ after))
  by_rest k b e = ap (λ (c : Bool). cond c (digit_glyph false (n % radix) ∷ after) (digits_onto k radix false (n / radix) (digit_glyph false (n % radix) ∷ after))) e

  is_zero : n / radix ≡ 0 → (n / radix == 0) ≡ true
  is_zero h = grind (arith, nat_tests)

  is_some : (n / radix ≡ 0 → ⊥) → (n / radix == 0) ≡ false
  is_some h = grind (arith, nat_tests)

  -- the first digit
  pub last_written : (k : ℕ) → 0 < k → n / radix ≡ 0 → digits_onto k radix false n after ≡ digit_glyph false (n % radix) ∷ after
  last_written zero h e = absurd (omega arith)
  last_written (suc k) h e = by_rest k true (is_zero e)

  -- one of more digits
  pub one_written : (k : ℕ) → 0 < k → (n / radix ≡ 0 → ⊥) → digits_onto k radix false n after ≡ digits_onto (k - 1) radix false (n / radix) (digit_glyph false (n % radix) ∷ after)
  one_written zero h e = absurd (omega arith)
  one_written (suc k) h e =
      let same : k ≡ suc k - 1 = omega arith in
      by_rest k false (is_some e) ∙ ap (λ j. digits_onto j radix false (n / radix) (digit_glyph false (n % radix) ∷ after)) same
